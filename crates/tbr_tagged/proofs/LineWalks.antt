-- What walks over a line give.
use Rattle.tbr_tagged.proofs.Common.{◌≡◌, ℕ, ◌<◌, ◌≤◌, arith, length, List, [], ◌∷◌, ◌++◌, map, refl, ap, ◌∙◌, append-nil, encode_utf8, IsUtf8, IsScalar, chars-append, flat_map-append, glyph}
use Rattle.tbr_tagged.proofs.Common.{TaggedLineElement, Str, FragmentStart, Element, piece, marker_element, element_items, element_characters, items_of, characters, stored, element_of, strings_of}
use Rattle.tbr_tagged.proofs.Common.{piece_of}
use Rattle.std.proofs.Common.{◌^◌}
use Rattle.std.specs.Str.{chars}
use Rattle.tbr_tagged.specs.declared.element_list.ElementList.{ElementList}
use Rattle.tbr_tagged.specs.declared.element_list.ElementList.TheVariants.{Alone, Listed}
use Rattle.tbr_tagged.specs.Walks.{pieces_of, item_character, item_characters}
use Rattle.tbr_tagged.proofs.TextAfter.{chars_one}

-- a line has no more elements than `usize` counts
pub few_stored : {A : Type 0} (list : ElementList A) → length (stored list) < 2 ^ 64
few_stored (Alone element) = omega arith
few_stored (Listed list) = omega (arith, list.ok.0, list.ok.1, list.small)

pub strings_are_pieces : {A : Type 0} (es : List (TaggedLineElement A)) → map piece_of (strings_of es) ≡ pieces_of (map element_of es)
strings_are_pieces [] = refl
strings_are_pieces (Str ts ∷ es) = ap (λ fs. piece_of ts ∷ fs) (strings_are_pieces es)
strings_are_pieces (FragmentStart name ∷ es) = strings_are_pieces es

pub pieces_among : {A : Type 0} (es : List (Element A)) → length (pieces_of es) ≤ length es
pieces_among [] = omega arith
pieces_among (piece cs a ∷ es) = omega (arith, pieces_among es)
pieces_among (marker_element name ∷ es) = omega (arith, pieces_among es)

pub text_characters : {A : Type 0} (cs : List ℕ) (a : A) → item_characters (map (λ c. glyph c a) cs) ≡ cs
text_characters [] a = refl
text_characters (c ∷ cs) a = ap (λ ds. c ∷ ds) (text_characters cs a)

pub element_has : {A : Type 0} (e : Element A) → item_characters (element_items e) ≡ element_characters e
element_has (piece cs a) = text_characters cs a
element_has (marker_element name) = refl

-- a line's characters are those of its items
pub items_have_characters : {A : Type 0} (es : List (Element A)) → item_characters (items_of es) ≡ characters es
items_have_characters [] = refl
items_have_characters (e ∷ es) =
    flat_map-append item_character (element_items e) (items_of es) ∙ ap (λ cs. cs ++ item_characters (items_of es)) (element_has e) ∙ ap (λ cs. element_characters e ++ cs) (items_have_characters es)

one_is_text : (c : ℕ) → IsScalar c → IsUtf8 (encode_utf8 c)
one_is_text c h = (c ∷ [], (rw h refl, append-nil (encode_utf8 c)))

-- the first character of a text
pub chars_first : (bs ds : List ℕ) (c : ℕ) → IsScalar c → bs ≡ encode_utf8 c ++ ds → chars bs ≡ c ∷ chars ds
chars_first bs ds c h e = ap chars e ∙ chars-append (encode_utf8 c) ds (one_is_text c h) ∙ ap (λ cs. cs ++ chars ds) (chars_one c h)
