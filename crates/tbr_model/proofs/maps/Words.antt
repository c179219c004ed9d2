-- The words of a run under other annotations.
use Rattle.tbr_model.proofs.Common.{◌≡◌, ℕ, nat_lt, ◌&&◌, Option, None, Some, List, [], ◌∷◌, map, fold, refl, ap, ◌∙◌, arith, option_map, map-append, Entry, character, marker_entry, Item, glyph}
use Rattle.tbr_model.proofs.Common.{marker, item_width, items_width, items_of, is_kept, is_blank, blank_of, first_of, is_break_entry, has_character, Reading, start, works, read, reading, words_of}
use Rattle.tbr_model.proofs.Common.{trailing, map_item, map_items, map_entry, map_run, map_word}
use Rattle.tbr_model.proofs.lists.Each.{if_same}
use Rattle.tbr_model.specs.Mapped.{map_reading}

module _ {A B : Type 0} (f : A → B) (columns : ℕ → Option ℕ) where
  pub item_width-map : (i : Item A) → item_width columns (map_item f i) ≡ item_width columns i
  item_width-map (glyph c a) = refl
  item_width-map (marker name) = refl

  pub items_width-map : (is : List (Item A)) → items_width columns (map_items f is) ≡ items_width columns is
  items_width-map [] = refl
  items_width-map (i ∷ is) = omega (arith, item_width-map i, items_width-map is)

  pub has_character-map : (is : List (Item A)) → has_character (map_items f is) ≡ has_character is
  has_character-map [] = refl
  has_character-map (glyph c a ∷ is) = refl
  has_character-map (marker name ∷ is) = has_character-map is

  pub items_of-map : (e : Entry A) → items_of columns (map_entry f e) ≡ map_items f (items_of columns e)
  items_of-map (marker_entry name) = refl
  items_of-map (character c a b mode) = if_same (map_items f) (is_kept columns c) _ _ _ _ refl refl

  pub blank_of-map : (e : Entry A) → blank_of (map_entry f e) ≡ option_map f (blank_of e)
  blank_of-map (marker_entry name) = refl
  blank_of-map (character c a b mode) = if_same (option_map f) (is_blank c) _ _ _ _ refl refl

  pub first_of-map : (o p : Option A) → first_of (option_map f o) (option_map f p) ≡ option_map f (first_of o p)
  first_of-map None p = refl
  first_of-map (Some a) p = refl

  is_break-map : (e : Entry A) → is_break_entry (map_entry f e) ≡ is_break_entry e
  is_break-map (character c a b mode) = refl
  is_break-map (marker_entry name) = refl

  works-map : (r : Reading A) (e : Entry A) → works columns (map_reading f r) (map_entry f e) ≡ works columns r e
  works-map r e = ap (λ b. b && nat_lt 0 (items_width columns (map_items f r.items))) (is_break-map e) ∙ ap (λ n. is_break_entry e && nat_lt 0 n) (items_width-map r.items)

  pub read-map : (r : Reading A) (e : Entry A) → read columns (map_reading f r) (map_entry f e) ≡ map_reading f (read columns r e)
  read-map r e = grind (arith, blank_of-map, first_of-map, items_of-map, map-append, works-map, if_same)

  read_all-map : (run : List (Entry A)) (r : Reading A) → fold (read columns) (map_reading f r) (map_run f run) ≡ map_reading f (fold (read columns) r run)
  read_all-map [] r = refl
  read_all-map (e ∷ run) r = ap (λ q. fold (read columns) q (map_run f run)) (read-map r e) ∙ read_all-map run (read columns r e)

  pub reading-map : (run : List (Entry A)) → reading columns (map_run f run) ≡ map_reading f (reading columns run)
  reading-map run = read_all-map run start

  pub words_of-map : (run : List (Entry A)) → words_of columns (map_run f run) ≡ map (map_word f) (words_of columns run)
  words_of-map run = grind (arith, reading-map, has_character-map, if_same, map-append)

  pub trailing-map : (run : List (Entry A)) → trailing columns (map_run f run) ≡ map_items f (trailing columns run)
  trailing-map run = rw (reading-map run, has_character-map) (if_same (map_items f) (has_character (reading columns run).items) _ _ _ _ refl refl)
