-- What a walk over a line has still to give.
use Rattle.std.specs.Prelude.{ℕ, List, [], ◌∷◌, ◌++◌, flat_map, chars}
use Rattle.std.specs.Option.{option_copied, option_to_list}
use Rattle.std.specs.Str.Iter.{chars_rest}
use Rattle.std.specs.Vec.Iter.{into_iter_items}
use Rattle.tbr_model.specs.Run.{Item, glyph, marker}
use Rattle.tbr_tagged.specs.declared.element.TaggedString.{TaggedString}
use Rattle.tbr_tagged.specs.declared.element.TaggedLineElement.{TaggedLineElement}
use Rattle.tbr_tagged.specs.declared.element.TaggedLineElement.TheVariants.{Str, FragmentStart}
use Rattle.tbr_tagged.specs.declared.iterators.Iter.{Iter}
use Rattle.tbr_tagged.specs.declared.iterators.IntoIter.{IntoIter}
use Rattle.tbr_tagged.specs.declared.iterators.Rest.{Rest}
use Rattle.tbr_tagged.specs.declared.iterators.Rest.TheVariants.{Alone, Listed}
use Rattle.tbr_tagged.specs.declared.iterators.TaggedStrings.{TaggedStrings}
use Rattle.tbr_tagged.specs.declared.iterators.Chars.{Chars}
use Rattle.tbr_tagged.specs.Elements.{Element, piece, marker_element, characters}
use Rattle.tbr_tagged.specs.View.{chars_of, elements_of}

-- the elements of a line that are pieces
abbrev pub pieces_of : {A : Type 0} → List (Element A) → List (Element A)
pieces_of [] = []
pieces_of (piece cs a ∷ es) = piece cs a ∷ pieces_of es
pieces_of (marker_element name ∷ es) = pieces_of es

-- an item's character; a marker has none
abbrev pub item_character : {A : Type 0} → Item A → List ℕ
item_character (glyph c a) = c ∷ []
item_character (marker name) = []

abbrev pub item_characters : {A : Type 0} → List (Item A) → List ℕ
item_characters is = flat_map item_character is

abbrev pub elements_left : {A : Type 0} → Iter A → List (TaggedLineElement A)
elements_left walk = option_to_list (option_copied walk.first) ++ walk.rest.now

abbrev pub elements_in : {A : Type 0} → Rest A → List (TaggedLineElement A)
elements_in (Alone element) = option_to_list element
elements_in (Listed list) = into_iter_items list

abbrev pub elements_to_come : {A : Type 0} → IntoIter A → List (TaggedLineElement A)
elements_to_come walk = elements_in walk.rest

abbrev pub piece_of : {A : Type 0} → TaggedString A → Element A
piece_of ts = piece (chars_of ts.s) ts.tag

-- the pieces among elements
abbrev pub strings_of : {A : Type 0} → List (TaggedLineElement A) → List (TaggedString A)
strings_of [] = []
strings_of (Str ts ∷ es) = ts ∷ strings_of es
strings_of (FragmentStart name ∷ es) = strings_of es

abbrev pub strings_left : {A : Type 0} → TaggedStrings A → List (TaggedString A)
strings_left walk = strings_of (elements_left walk.rest)

abbrev pub characters_left : {A : Type 0} → Chars A → List ℕ
characters_left walk = chars (chars_rest walk.text) ++ characters (elements_of (elements_left walk.rest))
