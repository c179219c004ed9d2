use Rattle.std.proofs.Common.{map}
use Rattle.tbr_tagged.specs.View.{chars_of}
use Rattle.tbr_c_lines.specs.Formats.{AreShown, ShowsLine}
use Rattle.tbr_c_lines.proofs.lines.shown_anew.Given as goal

abbrev pub invariant-loop-line : goal.invariant-loop-line
invariant-loop-line g l = AreShown (ShowsLine g.A.Tag.meaning g.A.Tag.same g.A.PartialEq.eq g.A.Annotation.shown l.is_bare l.format) (map (λ line. line.now) l.yielded) (chars_of l.text)
