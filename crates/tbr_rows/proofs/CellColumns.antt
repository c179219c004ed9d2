-- The lines of a row, and where its cells are in them.
use Rattle.tbr_rows.proofs.Common.{◌≡◌, ℕ, zero, suc, ◌+◌, ◌<◌, inl, inr, Option, Some, List, [], ◌∷◌, ◌++◌, map, drop, length, get_or, refl, ap, sym, ◌∙◌, arith, append_assoc, append-nil}
use Rattle.tbr_rows.proofs.Common.{slice_get, Each, length-map, get_or_at, same_Some, Item, items_width, Column, AreSideBySide, end_of, cell_text, numbers_below, line_text, line_texts}
use Rattle.tbr_rows.proofs.Common.{cell_in, TakesCellColumns}
use Rattle.std.proofs.lemmas.Bool.{cases_lt}
use Rattle.std.proofs.lemmas.List.{length-append}
use Rattle.std.proofs.Math.ListN.{get_or-append}
use Rattle.std.proofs.lemmas.Option.{slice_get-map, slice_get-get_or}
use Rattle.tbr_model.specs.Run.{item_width}

-- ---- the numbers below one

length_numbers : (n : ℕ) → length (numbers_below n) ≡ n
length_numbers zero = refl
length_numbers (suc n) = length-append (numbers_below n) (n ∷ []) ∙ omega (arith, length_numbers n)

number_at : (n i d : ℕ) → i < n → get_or (numbers_below n) i d ≡ i
number_at zero i d h = absurd (omega (arith, h))
number_at (suc n) i d h = elim (cases_lt i n) [
  | inl less ↦ get_or-append (numbers_below n) (n ∷ []) d i (omega (arith, length_numbers n, less)) ∙ number_at n i d less
  | inr more ↦ let last : i ≡ n = omega (arith, more, h) in get_or_at (numbers_below n) n [] d i (length_numbers n ∙ sym last) ∙ sym last
]

-- ---- a row's lines

module _ {A : Type 0} (separator : Item A) (tag : A) where
  pub line_at : (cs : List (Column A)) (height i : ℕ) → i < height → slice_get (line_texts separator tag cs height) i ≡ Some (line_text separator tag cs i)
  line_at cs height i h =
      slice_get-map (line_text separator tag cs) (numbers_below height) i
      ∙ rw (slice_get-get_or (numbers_below height) i 0 (omega (arith, length_numbers height, h)), number_at height i 0 h) refl

  pub count_lines : (cs : List (Column A)) (height : ℕ) → length (line_texts separator tag cs height) ≡ height
  count_lines cs height = length-map (numbers_below height) (line_text separator tag cs) ∙ length_numbers height

  -- the first cell's text comes first
  pub first_text : (c : Column A) (cs : List (Column A)) (i : ℕ) → (after : List (Item A)) × (line_text separator tag (c ∷ cs) i ≡ cell_text tag i c ++ after)
  first_text c [] i = ([], sym (append-nil (cell_text tag i c)))
  first_text c (d ∷ cs) i = (separator ∷ line_text separator tag (d ∷ cs) i, refl)

pub drop_at : {X : Type 0} (xs : List X) (i : ℕ) (x : X) → slice_get xs i ≡ Some x → (more : List X) × (drop i xs ≡ x ∷ more)
drop_at [] i x h = cc
drop_at (y ∷ xs) zero x h = let same : y ≡ x = same_Some y x h in (xs, ap (λ z. z ∷ xs) same)
drop_at (y ∷ xs) (suc i) x h = drop_at xs i x h

-- ---- cells in their columns

pub width_append : {A : Type 0} (columns : ℕ → Option ℕ) (is js : List (Item A)) → items_width columns (is ++ js) ≡ items_width columns is + items_width columns js
width_append columns [] js = omega arith
width_append columns (i ∷ is) js = omega (arith, width_append columns is js)

stands_from : {A : Type 0} (columns : ℕ → Option ℕ) (separator : Item A) (a : A) (i at : ℕ) (front : List (Column A)) (c : Column A) (rest : List (Column A)) → item_width columns separator ≡ 1 →
    Each (TakesCellColumns columns a i) front → AreSideBySide at (map cell_in (front ++ c ∷ rest)) →
    (before : List (Item A)) × (line_text separator a (front ++ c ∷ rest) i ≡ before ++ line_text separator a (c ∷ rest) i) × (at + items_width columns before ≡ c.cell.place)
stands_from columns separator a i at [] c rest one fills side = ([], refl, omega (arith, side.0))
stands_from {A} columns separator a i at (f ∷ []) c rest one fills side = (
  cell_text a i f ++ separator ∷ [],
  sym (append_assoc (cell_text a i f) (separator ∷ []) (line_text separator a (c ∷ rest) i)),
  omega (arith, width_append columns (cell_text a i f) (separator ∷ []), one, fills.0, side.0, side.1.0),
)
stands_from {A} columns separator a i at (f ∷ g ∷ fs) c rest one fills side =
    let k = stands_from columns separator a i (end_of f.cell + 1) (g ∷ fs) c rest one fills.1 side.1 in (
      cell_text a i f ++ separator ∷ k.0,
      ap (λ (is : List (Item A)). cell_text a i f ++ separator ∷ is) k.1 ∙ sym (append_assoc (cell_text a i f) (separator ∷ k.0) (line_text separator a (c ∷ rest) i)),
      omega (arith, width_append columns (cell_text a i f) (separator ∷ k.0), one, fills.0, side.0, k.2),
    )

-- A cell's text begins at its place, where the texts before it fill their cells.
pub stands_at : {A : Type 0} (columns : ℕ → Option ℕ) (separator : Item A) (a : A) (i : ℕ) (front : List (Column A)) (c : Column A) (rest : List (Column A)) → item_width columns separator ≡ 1 →
    Each (TakesCellColumns columns a i) front → AreSideBySide 0 (map cell_in (front ++ c ∷ rest)) →
    (before : List (Item A)) × (line_text separator a (front ++ c ∷ rest) i ≡ before ++ line_text separator a (c ∷ rest) i) × (items_width columns before ≡ c.cell.place)
stands_at columns separator a i front c rest one fills side = let k = stands_from columns separator a i 0 front c rest one fills side in (k.0, k.1, omega (arith, k.2))
