-- Borders: cells, and text in front of them.
use Rattle.std.specs.Prelude.{◌≡◌, ℕ, zero, suc, ◌+◌, ◌-◌, ◌≤◌, ◌||◌, Bool, true, false, if◌then◌else◌, Option, Result, Ok, List, [], ◌∷◌, ◌++◌, map, length, replicate, drop, slice_range}
use Rattle.std.specs.List.{AllZip}
use Rattle.tbr_model.specs.Run.{Item}
use Rattle.tbr_tagged.specs.Elements.{Element, element_items, element_width, text_items, SameElement}
use Rattle.tbr_tagged.specs.Mapped.{MapsElement}
use Rattle.tbr_border.specs.Cell.{Cell, horizontal, Side, joined, chopped_left, chopped_right, character, merges, line_above}

-- an element that hides as many cells as its width, from a place on
pub record Hole (A : Type 0) : Type 0 where
  pub place : ℕ
  pub width : ℕ
  pub element : Element A

pub record Border (A : Type 0) : Type 0 where
  pub cells : List Cell
  pub tag : A
  pub holes : List (Hole A)

abbrev pub has_holes : {A : Type 0} → List (Hole A) → Bool
has_holes [] = false
has_holes (h ∷ hs) = true

-- the end of the last hole, 0 if there is none
abbrev pub span_end : {A : Type 0} → List (Hole A) → ℕ
span_end [] = 0
span_end (h ∷ []) = h.place + h.width
span_end (h ∷ k ∷ hs) = span_end (k ∷ hs)

-- from a place on, the holes come one after another, and within the cells
abbrev pub AreInOrder : {A : Type 0} → ℕ → List (Hole A) → ℕ → Type 0
AreInOrder from [] end = from ≤ end
AreInOrder from (h ∷ hs) end = (from ≤ h.place) × AreInOrder (h.place + h.width) hs end

abbrev pub without_holes : {A : Type 0} → List Cell → A → Border A
without_holes cells tag = record { cells = cells; tag = tag; holes = [] }

-- ---- changes of cells

-- with ─ after them, up to a width
abbrev pub stretched : ℕ → List Cell → List Cell
stretched width cells = cells ++ replicate (width - length cells) horizontal

-- the cell at a place changed, if there is one
abbrev pub changed_at : (Cell → Cell) → ℕ → List Cell → List Cell
changed_at change place [] = []
changed_at change zero (c ∷ cells) = change c ∷ cells
changed_at change (suc place) (c ∷ cells) = c ∷ changed_at change place cells

-- stretched as far as is needed, and joined at a place
abbrev pub joined_at : Side → ℕ → List Cell → List Cell
joined_at side place cells = changed_at (joined side) place (stretched (place + 1) cells)

-- chopped on both sides of the columns from a place to an end
abbrev pub opened : ℕ → ℕ → List Cell → List Cell
opened zero end cells = changed_at chopped_left end cells
opened (suc place) end cells = changed_at chopped_left end (changed_at chopped_right place cells)

-- a border with other cells
abbrev pub with_cells : {A : Type 0} → List Cell → Border A → Border A
with_cells cells b = record b { cells = cells }

-- A border with an element in front of the cells from a place on, for as many columns as it takes. It is stretched to
-- the end of these, and opened there.
abbrev pub with_span : {A : Type 0} → (ℕ → Option ℕ) → ℕ → Element A → Border A → Border A
with_span columns place element b =
    let width = element_width columns element in
    record b {
      cells = opened place (place + width) (stretched (place + width) b.cells);
      holes = b.holes ++ record { place = place; width = width; element = element } ∷ [];
    }

-- ---- merging

-- whether a cell joins
abbrev pub any_joins : Side → List Cell → Bool
any_joins side [] = false
any_joins side (c ∷ others) = merges side c || any_joins side others

-- one past the last cell that joins, 0 if there is none
abbrev pub joins_end : Side → List Cell → ℕ
joins_end side [] = 0
joins_end side (c ∷ others) = if merges side c || any_joins side others then suc (joins_end side others) else 0

-- each cell under another that joins is joined, from a place on
abbrev pub joined_under : Side → List Cell → ℕ → List Cell → List Cell
joined_under side [] place others = []
joined_under side (c ∷ cells) (suc place) others = c ∷ joined_under side cells place others
joined_under side (c ∷ cells) zero [] = c ∷ cells
joined_under side (c ∷ cells) zero (o ∷ others) =
    (if merges side o then joined side c else c) ∷ joined_under side cells zero others

-- stretched as far as joins come, and joined there
abbrev pub merged : Side → List Cell → ℕ → List Cell → List Cell
merged side cells place others =
    joined_under side
    (if any_joins side others then stretched (place + joins_end side others) cells else cells)
    place others

-- ---- what a border shows

abbrev pub drawn : {A : Type 0} → List Cell → A → List (Item A)
drawn cells tag = text_items (map character cells) tag

-- From a place on: where a hole is, its element, for as many columns as its width. In all other columns it is the
-- cells' characters.
abbrev pub shown_from : {A : Type 0} → A → List Cell → ℕ → List (Hole A) → List (Item A)
shown_from tag cells at [] = drawn (drop at cells) tag
shown_from tag cells at (h ∷ hs) =
    drawn (slice_range cells at h.place) tag
    ++ (element_items h.element ++ shown_from tag cells (h.place + h.width) hs)

-- a border's items, its cells under a tag
abbrev pub shown : {A : Type 0} → A → Border A → List (Item A)
shown tag b = shown_from tag b.cells 0 b.holes

abbrev pub lines_above : {A : Type 0} → Border A → List ℕ
lines_above b = map line_above b.cells

-- ---- copies

abbrev pub SameHole : {A : Type 0} → (A → A → Bool) → Hole A → Hole A → Type 0
SameHole eq h k = (h.place ≡ k.place) × (h.width ≡ k.width) × SameElement eq h.element k.element

-- equal cells, tags and holes
pub record SameBorder {A : Type 0} (eq : A → A → Bool) (b c : Border A) : Type 0 where
  pub cells : b.cells ≡ c.cells
  pub tag : eq b.tag c.tag ≡ true
  pub holes : AllZip (SameHole eq) b.holes c.holes

-- ---- mapped tags

-- an answer of a call that may refuse
abbrev pub Gives : {A B E : Type 0} → (A → Result B E → Type 0) → A → B → Type 0
Gives post a b = post a (Ok b)

abbrev pub MapsHole : {A B : Type 0} → (A → B → Type 0) → Hole A → Hole B → Type 0
MapsHole gives h k = (k.place ≡ h.place) × (k.width ≡ h.width) × MapsElement gives h.element k.element

-- the same cells, and answers in place of the tags
pub record MapsBorder {A B : Type 0} (gives : A → B → Type 0) (b : Border A) (c : Border B) : Type 0 where
  pub cells : c.cells ≡ b.cells
  pub tag : gives b.tag c.tag
  pub holes : AllZip (MapsHole gives) b.holes c.holes
