-- Borders, and the lines of other renderers: prefixed, or one renderer's below another's.
use Rattle.std.specs.Prelude.{◌≡◌, ℕ, zero, suc, ◌-◌, ◌<◌, ◌⊎◌, Option, None, if◌then◌else◌, List, [], ◌∷◌, ◌++◌, map, fold, length, replicate, chars}
use Rattle.std.specs.Iterator.{Yields}
use Rattle.tbr_model.specs.Run.{Item}
use Rattle.tbr_border.specs.Border.{Border, shown, without_holes}
use Rattle.tbr_border.specs.Cell.{Cell, horizontal, slash}
use Rattle.tbr_tagged.specs.Elements.{text_items}
use Rattle.tbr_kept_lines.specs.Line.{Line, text, border}
pub use Rattle.tbr_kept_lines.specs.Prefixed.{as_text}
use Rattle.tbr_renderer.specs.Renderer.{Renderer, line_padding, with_line}
use Rattle.tbr_renderer.specs.Outcomes.{changed}
use Rattle.tbr_renderer.specs.Flush.{after_flush}
use Rattle.tbr_tagged.specs.Outcome.{Outcome, if_live}

-- ---- borders

-- a border as a line; where lines are padded it becomes text
abbrev pub border_line : {D A : Type 0} →
    (ℕ → Option ℕ) → Renderer D A (List A) → Border (List A) → Line (List A)
border_line columns r b =
    let is = shown b.tag b in
    if r.options.pad_block_width then text (is ++ line_padding columns r is) else border b

-- one border more; the markers that wait go on waiting
abbrev pub with_border : {D A : Type 0} →
    (ℕ → Option ℕ) → Renderer D A (List A) → Border (List A) → Renderer D A (List A)
with_border columns r b = record r { lines = r.lines ++ border_line columns r b ∷ [] }

-- a border of so many cells of one kind, under the annotations
abbrev pub border_of_cells : {D A : Type 0} → Cell → ℕ → Renderer D A (List A) → Border (List A)
border_of_cells cell width r = without_holes (replicate width cell) r.annotations

-- ---- prefixes

-- What an iterator gives when it is asked so many times, or until it has no more.
abbrev pub GivesFirst : {S X : Type 0} → (S → Option X → S → Type 0) → ℕ → S → List X → Type 0
GivesFirst {S} gives count it xs =
    (left : S) × Yields gives it xs left
    × ((length xs ≡ count) ⊎ ((length xs < count) × ((end : S) × gives left None end)))

-- the characters of what can be read as text
abbrev pub texts_of : {S : Type 0} → (S → List ℕ) → List S → List (List ℕ)
texts_of read ss = map (λ s. chars (read s)) ss

-- from the second one on they are alike
abbrev pub AreAlike : List ℕ → List ℕ → List (List ℕ) → Type 0
AreAlike first others prefixes = prefixes ≡ first ∷ replicate (length prefixes - 1) others

-- so many prefixes that are alike from the second one on
abbrev pub alike : List ℕ → List ℕ → ℕ → List (List ℕ)
alike first others zero = []
alike first others (suc n) = first ∷ replicate n others

-- ---- lines of other renderers

-- each line as text after its prefix, as long as there are both
abbrev pub prefixed : {T : Type 0} → T → List (List ℕ) → List (Line T) → List (List (Item T))
prefixed tag [] lines = []
prefixed tag (prefix ∷ prefixes) [] = []
prefixed tag (prefix ∷ prefixes) (line ∷ lines) =
    (text_items prefix tag ++ as_text tag line) ∷ prefixed tag prefixes lines

module _ {D A : Type 0} (columns : ℕ → Option ℕ) where
  -- the lines that a renderer hands out where its open line is ended
  abbrev pub handed_out : Renderer D A (List A) → Outcome (List (Line (List A)))
  handed_out r = if_live r.failure (changed (λ s. s.lines) (after_flush columns r))

  -- A border of so many `─` comes after a flush.
  abbrev pub after_border : ℕ → Renderer D A (List A) → Outcome (Renderer D A (List A))
  after_border width r =
      changed (λ m. with_border columns m (border_of_cells horizontal width r)) (after_flush columns r)

  -- After a flush each line comes after its prefix as a line of text, as long as there are both.
  abbrev pub after_lines :
      List (List ℕ) → List (Line (List A)) → Renderer D A (List A) → Outcome (Renderer D A (List A))
  after_lines prefixes lines r =
      changed (λ m. fold (with_line columns) m (prefixed r.annotations prefixes lines)) (after_flush columns r)

  -- so they come, where the open line is ended
  abbrev pub with_prefixed : Renderer D A (List A) → List (List ℕ) → List (Line (List A)) → Renderer D A (List A)
  with_prefixed r prefixes lines = fold (with_line columns) r (prefixed r.annotations prefixes lines)

  -- ---- cells below one another

  -- a border between them or after, where borders are drawn
  abbrev pub with_divider : Cell → Renderer D A (List A) → Renderer D A (List A)
  with_divider cell r =
      if r.options.draw_borders then with_border columns r (border_of_cells cell r.width r) else r

  -- the lines of a cell as lines of text more
  abbrev pub with_cell : Renderer D A (List A) → List (Line (List A)) → Renderer D A (List A)
  with_cell r lines = fold (with_line columns) r (map (as_text r.annotations) lines)

  -- and those of a cell below another, with a border of slashes between where borders are drawn
  abbrev pub with_cell_below : Renderer D A (List A) → List (Line (List A)) → Renderer D A (List A)
  with_cell_below r lines = with_cell (with_divider slash r) lines

  -- the cells, a slashed border between each two
  abbrev pub with_cells : Renderer D A (List A) → List (List (Line (List A))) → Renderer D A (List A)
  with_cells r [] = r
  with_cells r (lines ∷ cells) = fold with_cell_below (with_cell r lines) cells

  -- After a flush cells come one below another. Where borders are drawn, one is between each two and one after
  -- all.
  abbrev pub after_cells : List (List (Line (List A))) → Renderer D A (List A) → Outcome (Renderer D A (List A))
  after_cells cells r = changed (λ m. with_divider horizontal (with_cells m cells)) (after_flush columns r)
