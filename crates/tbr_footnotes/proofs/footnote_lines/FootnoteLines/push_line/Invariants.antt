use Rattle.std.proofs.Common.{◌≡◌, map}
use Rattle.tbr_tagged.specs.View.{element_of}
use Rattle.tbr_decor.specs.Meant.{meant}
use Rattle.tbr_footnotes.specs.Cutting.{with_items}
use Rattle.tbr_footnotes.specs.Footnote.{footnote_items}
use Rattle.tbr_footnotes.proofs.footnote_lines.FootnoteLines.push_line.Given as goal

abbrev pub invariant-loop-element : goal.invariant-loop-element
invariant-loop-element g l = l.self ≡ with_items g.W.CharWidth.columns l.fn.self (footnote_items (map (meant g.D.Annotation.Tag.meaning) (map element_of l.yielded)))
