use Rattle.tbr_view.proofs.Common.{chars_of, AreShown, ShowsLine}
use Rattle.tbr_view.proofs.show.show.Given as goal

abbrev pub invariant-loop-line : goal.invariant-loop-line
invariant-loop-line g l = AreShown (ShowsLine g.T.Tag.meaning g.T.PartialEq.eq g.T.Annotation.rich g.W.CharWidth.columns l.format) l.yielded (chars_of l.text)
