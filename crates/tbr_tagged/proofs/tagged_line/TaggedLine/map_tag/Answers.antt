use Rattle.tbr_tagged.proofs.MappedTags.{mapped_characters, mapped_width}
use Rattle.tbr_tagged.proofs.tagged_line.TaggedLine.map_tag.Goals as goal

pub returns-clause-text : goal.returns-clause-text
returns-clause-text g c = rw (← c.self.view_is) (mapped_characters _ _ _ c.in_ok-elements.ensures)

pub returns-clause-width : goal.returns-clause-width
returns-clause-width g c = rw (← c.self.view_is) (λ columns. mapped_width _ columns _ _ c.in_ok-elements.ensures)
