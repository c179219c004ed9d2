use Rattle.tbr_tagged.proofs.Common.{map, stored, element_of}
use Rattle.tbr_tagged.proofs.EqualLines.{same_lines_equal}
use Rattle.tbr_tagged.proofs.tagged_line.TaggedLine.clone.Goals as goal

pub returns-clause-equal : goal.returns-clause-equal
returns-clause-equal g c = rw (← c.self.view_is) (same_lines_equal g.T.PartialEq.eq _ (map element_of (stored c.self.inside.elements)) c.in_ok-elements.ensures)
