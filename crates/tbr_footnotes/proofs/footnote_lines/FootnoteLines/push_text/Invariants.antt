use Rattle.std.proofs.Common.{◌≡◌, map}
use Rattle.tbr_tagged.specs.Elements.{text_items}
use Rattle.tbr_footnotes.specs.Cutting.{with_items}
use Rattle.tbr_footnotes.specs.Footnote.{unbroken}
use Rattle.tbr_footnotes.proofs.footnote_lines.FootnoteLines.push_text.Given as goal

abbrev pub invariant-loop-c : goal.invariant-loop-c
invariant-loop-c g l = l.self ≡ with_items g.W.CharWidth.columns l.fn.self (text_items (map unbroken l.yielded) l.fn.tag)
