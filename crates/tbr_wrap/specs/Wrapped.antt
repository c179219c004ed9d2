-- What the lines of a wrapped run are.
use Rattle.std.specs.Prelude.{◌≡◌, ℕ, ◌+◌, ◌-◌, ◌≤◌, ◌⊎◌, Bool, true, Option, None, Some, List, [], ◌∷◌, ◌++◌, if◌then◌else◌, nat_lt, IsTrue, map}
use Rattle.std.specs.List.{AllByRecursion as Each}
use Rattle.tbr_model.specs.Run.{Entry, Item, item_width, items_width, has_character, words_of, reading}
use Rattle.tbr_model.specs.Layout.{Slot, slots_of, line_text, IsBest}
use Rattle.tbr_model.specs.Greedy.{IsNarrow}
use Rattle.tbr_tagged.specs.Elements.{Element, items_of, text_items, SameItems, IsMerged}
use Rattle.tbr_tagged.specs.Padding.{spaces}

-- how many items take columns
abbrev pub taking_columns : {A : Type 0} → (ℕ → Option ℕ) → List (Item A) → ℕ
taking_columns columns [] = 0
taking_columns columns (i ∷ is) = (if nat_lt 0 (item_width columns i) then 1 else 0) + taking_columns columns is

-- A line is no wider than the block, or it may be, and then it has exactly one character that takes columns.
abbrev pub FitsBlock : {A : Type 0} → (ℕ → Option ℕ) → ℕ → Bool → List (Item A) → Type 0
FitsBlock columns width may_overflow is =
    (items_width columns is ≤ width) ⊎ ((may_overflow ≡ true) × (taking_columns columns is ≡ 1))

-- The lines are the texts of the run's best layout, and each has a character.
pub record HasBestLines {A : Type 0} (columns : ℕ → Option ℕ) (width : ℕ)
    (run : List (Entry A)) (texts : List (List (Item A))) : Type 0 where
  pub lines : List (List (Slot A))
  pub best : IsBest width (slots_of columns width run) lines
  pub shown : texts ≡ map line_text lines
  pub full : Each (λ is. IsTrue (has_character is)) texts

-- no character of a word that a break point of the run has ended is wider than a line
abbrev pub EndedWordsFit : {A : Type 0} → (ℕ → Option ℕ) → ℕ → List (Entry A) → Type 0
EndedWordsFit columns width run = Each (λ w. IsNarrow columns width w.items) (reading columns run).words

-- no character of any word of the run is wider than a line
abbrev pub WordsFit : {A : Type 0} → (ℕ → Option ℕ) → ℕ → List (Entry A) → Type 0
WordsFit columns width run = Each (λ w. IsNarrow columns width w.items) (words_of columns run)

-- the spaces that fill a text up to a block's width, where its lines are padded
abbrev pub padding_of : {A : Type 0} → (ℕ → Option ℕ) → Option A → ℕ → List (Item A) → List (Item A)
padding_of columns None width is = []
padding_of columns (Some a) width is = text_items (spaces (width - items_width columns is)) a

-- A line has a text and its padding, up to equal tags, in pieces that are the longest stretches under equal tags.
pub record ShowsText {A : Type 0} (columns : ℕ → Option ℕ) (eq : A → A → Bool) (padding : Option A)
    (width : ℕ) (es : List (Element A)) (is : List (Item A)) : Type 0 where
  pub items : SameItems eq (items_of es) (is ++ padding_of columns padding width is)
  pub merged : IsMerged eq es
