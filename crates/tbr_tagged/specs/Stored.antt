-- How the elements of a line are stored.
use Rattle.std.specs.Prelude.{List, [], ◌∷◌}
use Rattle.tbr_tagged.specs.declared.element.TaggedLineElement.{TaggedLineElement}
use Rattle.tbr_tagged.specs.declared.element_list.ElementList.{ElementList}
use Rattle.tbr_tagged.specs.declared.element_list.ElementList.TheVariants.{Alone, Listed}

-- the elements of a list, in order
abbrev pub stored : {A : Type 0} → ElementList A → List (TaggedLineElement A)
stored (Alone element) = element ∷ []
stored (Listed list) = list.items
