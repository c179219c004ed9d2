use Rattle.tbr_tagged.proofs.Common.{rules}
use Rattle.tbr_tagged.proofs.TextColumns.{items_width-text}
use Rattle.tbr_tagged.proofs.element.TaggedLineElement.map_tag.Goals as goal

pub returns-in-Str-clause-width : goal.returns-in-Str-clause-width
returns-in-Str-clause-width g c = search (rules, items_width-text, c.in-Str.is, c.map_tag.ensures.text)
