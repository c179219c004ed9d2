use Rattle.tbr_renderer.proofs.Common.{AllZip, Each, equal_lists, IsMergedText, WritesOut}
use Rattle.tbr_renderer.proofs.sub.lines.all_written_out.Given as goal

abbrev pub invariant-loop-line : goal.invariant-loop-line
invariant-loop-line g l =
    let eq = g.A.PartialEq.eq in
    AllZip (WritesOut g.A.Tag.meaning) l.yielded l.written × Each (IsMergedText (equal_lists eq)) l.written
