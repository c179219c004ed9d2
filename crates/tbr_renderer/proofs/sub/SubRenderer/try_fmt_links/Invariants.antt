use Rattle.tbr_renderer.proofs.Common.{map}
use Rattle.std.proofs.Common.{flat_map}
use Rattle.tbr_decor.specs.Meant as decor
use Rattle.tbr_renderer.specs.Footnotes.{footnote_lines}
use Rattle.tbr_renderer.proofs.AppendedLines.{HasPut}
use Rattle.tbr_renderer.proofs.sub.SubRenderer.try_fmt_links.Given as goal

abbrev pub invariant-loop-link : goal.invariant-loop-link
invariant-loop-link g l =
    let f = g.D.Annotation.Tag.meaning in
    let columns = g.W.CharWidth.columns in
    HasPut columns l.fn.self (flat_map (footnote_lines columns l.fn.self) (map (map (decor.meant f)) l.yielded)) l.self
