-- The lines of one footnote.
use Rattle.std.specs.Prelude.{ℕ, Bool, true, Option, Some, None, ◌+◌, nat_le, ◌==◌, if◌then◌else◌, List, [], ◌∷◌, ◌++◌, map}
use Rattle.tbr_model.specs.Codes.{newline_character, space_character}
use Rattle.tbr_model.specs.Run.{Item, item_width, items_width}
use Rattle.tbr_tagged.specs.Elements.{Element, piece, marker_element, text_items}

-- a newline as a space
abbrev pub unbroken : ℕ → ℕ
unbroken c = if c == newline_character then space_character else c

-- its characters, each under its one annotation; markers are dropped
abbrev pub footnote_items : {A : Type 0} → List (Element A) → List (Item (List A))
footnote_items [] = []
footnote_items (piece cs a ∷ es) = text_items (map unbroken cs) (a ∷ []) ++ footnote_items es
footnote_items (marker_element name ∷ es) = footnote_items es

-- Whether so many columns more fit after what a line holds. Without a width they do.
abbrev pub fits_after : {A : Type 0} → (ℕ → Option ℕ) → Option ℕ → List (Item A) → ℕ → Bool
fits_after columns None held more = true
fits_after columns (Some width) held more = nat_le (items_width columns held + more) width

-- A line ends before each item that doesn't fit after what it holds.
abbrev pub cut_lines : {A : Type 0} → (ℕ → Option ℕ) → Option ℕ → List (Item A) → List (Item A) → List (List (Item A))
cut_lines columns width held [] = held ∷ []
cut_lines columns width held (i ∷ is) =
    if fits_after columns width held (item_width columns i)
    then cut_lines columns width (held ++ i ∷ []) is
    else held ∷ cut_lines columns width (i ∷ []) is
