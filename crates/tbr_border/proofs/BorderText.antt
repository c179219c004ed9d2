-- What a border shows.
use Rattle.std.proofs.lemmas.Bool.{cond_both}
use Rattle.tbr_border.proofs.Common.{◌≡◌, ℕ, zero, suc, ◌+◌, ◌-◌, ◌<◌, ◌≤◌, Bool, true, false, List, [], ◌∷◌, ◌++◌, map, length, get_or, take, drop, drop-cons, refl, ap, ◌∙◌, arith, append_assoc}
use Rattle.tbr_border.proofs.Common.{slice_range, replicate, map-append, take_all, element_characters, SameItems, item_characters, Cell, slash, arms, character, line_above, Hole, AreInOrder, drawn}
use Rattle.tbr_border.proofs.Common.{shown_from, same_items, same_items_append, same_items_trans}
use Rattle.std.proofs.Common.{length-drop}
use Rattle.std.specs.Char.{IsScalar}
use Rattle.std.specs.Cmp.{IsEquivalence}
use Rattle.std.proofs.lemmas.List.{take-map, drop-map}
use Rattle.std.proofs.lemmas.List.Concat.{flat_map-append}
use Rattle.tbr_model.specs.Run.{Item}
use Rattle.tbr_tagged.specs.Elements.{element_items}
use Rattle.tbr_border.specs.Cell.{is_among}
use Rattle.tbr_tagged.proofs.SameItems.{same_from_path}
use Rattle.tbr_tagged.proofs.LineWalks.{text_characters, element_has}

-- ---- characters

pub character_scalar : (c : Cell) → IsScalar (character c)
character_scalar slash = refl
character_scalar (arms true true true true) = refl
character_scalar (arms true true false true) = refl
character_scalar (arms true false true true) = refl
character_scalar (arms true false false true) = refl
character_scalar (arms false true true true) = refl
character_scalar (arms false true false true) = refl
character_scalar (arms false false true true) = refl
character_scalar (arms false false false true) = refl
character_scalar (arms left right up down) = refl

pub line_above_scalar : (c : Cell) → IsScalar (line_above c)
line_above_scalar c = cond_both (is_among (character c) (0x2534 ∷ 0x253C ∷ 0x2514 ∷ 0x2518 ∷ [])) 0x2502 32 IsScalar (λ _. refl) (λ _. refl)

-- ---- parts of lists

pub map-slice : {X Y : Type 0} (f : X → Y) (xs : List X) (i j : ℕ) → map f (slice_range xs i j) ≡ slice_range (map f xs) i j
map-slice f xs i j = rw (drop-map, take-map) refl

pub map-copies : {X Y : Type 0} (f : X → Y) (n : ℕ) (x : X) → map f (replicate n x) ≡ replicate n (f x)
map-copies f zero x = refl
map-copies f (suc n) x = ap (λ ys. f x ∷ ys) (map-copies f n x)

-- ---- holes in order

pub in_order_within : {A : Type 0} (from : ℕ) (hs : List (Hole A)) (end : ℕ) → AreInOrder from hs end → from ≤ end
in_order_within from [] end h = h
in_order_within from (g ∷ hs) end h = omega (arith, h.0, in_order_within (g.place + g.width) hs end h.1)

-- ---- one more hole of the text

pub text_step : {A : Type 0} (tag : A) (cells : List Cell) (at : ℕ) (h : Hole A) (rest : List (Hole A)) (text more all : List ℕ) →
    more ≡ text ++ map character (slice_range cells at h.place) → all ≡ more ++ element_characters h.element →
    all ++ item_characters (shown_from tag cells (h.place + h.width) rest) ≡ text ++ item_characters (shown_from tag cells at (h ∷ rest))
text_step tag cells at h rest text more all e f = grind (arith, flat_map-append, text_characters, element_has, append_assoc)

pub text_end : {A : Type 0} (tag : A) (cells : List Cell) (at : ℕ) (text all : List ℕ) → all ≡ text ++ map character (drop at cells) → all ≡ text ++ item_characters (shown_from tag cells at [])
text_end tag cells at text all e = rw (e, text_characters (map character (drop at cells)) tag) refl

module _ {A : Type 0} (eq : A → A → Bool) (laws : IsEquivalence eq) where
  -- one more hole of the line
  pub line_step : (tag : A) (cells : List Cell) (at : ℕ) (h : Hole A) (rest : List (Hole A)) (line more all : List (Item A)) →
      SameItems eq more (line ++ drawn (slice_range cells at h.place) tag) → SameItems eq all (more ++ element_items h.element) →
      SameItems eq (all ++ shown_from tag cells (h.place + h.width) rest) (line ++ shown_from tag cells at (h ∷ rest))
  line_step tag cells at h rest line more all e f =
      let between = drawn (slice_range cells at h.place) tag in
      let after = shown_from tag cells (h.place + h.width) rest in
      let one : SameItems eq all ((line ++ between) ++ element_items h.element) =
      same_items_trans eq laws all (more ++ element_items h.element) ((line ++ between) ++ element_items h.element) f
      (same_items_append eq laws more (line ++ between) (element_items h.element) (element_items h.element) e (same_items eq laws (element_items h.element))) in
      let regrouped : ((line ++ between) ++ element_items h.element) ++ after ≡ line ++ (between ++ (element_items h.element ++ after)) =
      append_assoc (line ++ between) (element_items h.element) after ∙ append_assoc line between (element_items h.element ++ after) in
      same_items_trans eq laws (all ++ after) (((line ++ between) ++ element_items h.element) ++ after) (line ++ shown_from tag cells at (h ∷ rest))
      (same_items_append eq laws all ((line ++ between) ++ element_items h.element) after after one (same_items eq laws after))
      (same_from_path eq laws (((line ++ between) ++ element_items h.element) ++ after) (line ++ shown_from tag cells at (h ∷ rest)) regrouped)

-- the holes from one on, as a walk has them before it
pub hole_here : {X : Type 0} {A : Type 0} (f : X → Hole A) (all xs rest : List X) (x : X) (at len : ℕ) → all ≡ xs ++ (x ∷ rest) →
    ((hs : List (Hole A)) → map f all ≡ map f xs ++ hs → AreInOrder at hs len) → AreInOrder at (f x ∷ map f rest) len
hole_here f all xs rest x at len e fit = fit (f x ∷ map f rest) (ap (map f) e ∙ map-append f xs (x ∷ rest))

-- the same of a loop over a slice
pub hole_at : {X : Type 0} {A : Type 0} (f : X → Hole A) (xs : List X) (i : ℕ) (x : X) (at len : ℕ) → i < length xs → x ≡ get_or xs i x →
    AreInOrder at (map f (drop i xs)) len → (at ≤ (f x).place) × AreInOrder ((f x).place + (f x).width) (map f (drop (i + 1) xs)) len
hole_at f xs i x at len below is fit = grind (arith, drop-cons)

-- the cells from a place on
pub cells_from : {X : Type 0} (cell : X → Cell) (xs : List X) (at : ℕ) → map cell (take (length xs - at) (drop at xs)) ≡ drop at (map cell xs)
cells_from cell xs at = rw (take_all (length xs - at) (drop at xs) (omega (arith, length-drop at xs)), drop-map) refl
