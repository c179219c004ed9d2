-- Layouts as lists of cuts.
use Rattle.std.specs.Prelude.{◌≡◌, ℕ, ◌+◌, ◌-◌, ◌≤◌, ◌&&◌, IsTrue, Option, List, [], ◌∷◌, length, Some, Contains, slice_get, slice_range, slice_index_or}
use Rattle.std.specs.List.{AllByRecursion as Each}
use Rattle.std.specs.List.Sorted.{IsNonDecreasing, IsStrictlyIncreasing}
use Rattle.tbr_model.specs.Layout.{Slot, line_width, MayBegin}

-- A layout of items is a list of positions, the cuts, that begins with 0, never falls, and ends with the number of
-- items.
pub record IsLayout (items : ℕ) (cuts : List ℕ) : Type 0 where
  pub begins : slice_get cuts 0 ≡ Some 0
  pub never_falls : IsNonDecreasing cuts
  pub ends : slice_get cuts (length cuts - 1) ≡ Some items

-- the lines after a cut
abbrev pub lines_after : {X : Type 0} → List X → ℕ → List ℕ → List (List X)
lines_after items cut [] = []
lines_after items cut (next ∷ cuts) = slice_range items cut next ∷ lines_after items next cuts

-- The lines of a layout: each holds the items between a cut and the next.
abbrev pub lines_between : {X : Type 0} → List X → List ℕ → List (List X)
lines_between items [] = []
lines_between items (cut ∷ cuts) = lines_after items cut cuts

-- where each of the lines ends that begin at a position
abbrev pub ends_of : {X : Type 0} → ℕ → List (List X) → List ℕ
ends_of place [] = []
ends_of place (l ∷ ls) = (place + length l) ∷ ends_of (place + length l) ls

-- The cuts at which lines begin and end.
abbrev pub cuts_of : {X : Type 0} → List (List X) → List ℕ
cuts_of lines = 0 ∷ ends_of 0 lines

-- After n lines a layout has placed as many items as its cut n says, and all items once its lines are used up.
abbrev pub placed_by_cuts : ℕ → ℕ → List ℕ → ℕ
placed_by_cuts items n cuts = slice_index_or cuts n items

-- the first item of a word that is wider than a line
abbrev pub BeginsWider : {A : Type 0} → Slot A → Type 0
BeginsWider s = IsTrue (s.begins && s.wider)

-- A legal layout: every line fits, no cut is inside a word that is no wider than a line, and a wider word begins at a
-- cut. Cuts inside a wider word are free.
pub record IsLegalLayout {A : Type 0} (width : ℕ) (slots : List (Slot A)) (cuts : List ℕ) : Type 0 where
  pub layout : IsLayout (length slots) cuts
  pub fits : Each (λ line. line_width line ≤ width) (lines_between slots cuts)
  pub between_words : (cut : ℕ) (s : Slot A) → Contains cuts cut → slice_get slots cut ≡ Some s → MayBegin s
  pub wider_at_cut : (place : ℕ) (s : Slot A) → slice_get slots place ≡ Some s → BeginsWider s → Contains cuts place

-- The legal layout without empty lines that is ahead of every legal one: after every n lines it has placed at least as
-- much.
pub record IsBestLayout {A : Type 0} (width : ℕ) (slots : List (Slot A)) (cuts : List ℕ) : Type 0 where
  pub legal : IsLegalLayout width slots cuts
  pub no_empty_line : IsStrictlyIncreasing cuts
  pub ahead : (others : List ℕ) → IsLegalLayout width slots others →
      (n : ℕ) → placed_by_cuts (length slots) n others ≤ placed_by_cuts (length slots) n cuts

abbrev pub HasLegalLayout : {A : Type 0} → ℕ → List (Slot A) → Type 0
HasLegalLayout width slots = (cuts : List ℕ) × IsLegalLayout width slots cuts

-- a slot after another gap
abbrev pub with_gap : {A : Type 0} → Slot A → Option A → Slot A
with_gap s gap = record { item = s.item; width = s.width; gap = gap; begins = s.begins; wider = s.wider }
