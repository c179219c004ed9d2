use Rattle.std.proofs.Common.{◌≡◌, flat_map, map}
use Rattle.tbr_tagged.specs.View.{chars_of}
use Rattle.tbr_c_lines.specs.Lines as left
use Rattle.tbr_c_lines.proofs.lines.text_of.Given as goal

abbrev pub invariant-loop-line : goal.invariant-loop-line
invariant-loop-line g l = chars_of l.text ≡ flat_map left.line_text (map (λ line. line.now) l.yielded)
