-- A footnote whose characters come in order.
use Rattle.std.specs.Prelude.{◌≡◌, ℕ, Bool, Option, if◌then◌else◌, List, [], ◌∷◌, ◌++◌, map, fold}
use Rattle.std.specs.List.{AllByRecursion as Each}
use Rattle.tbr_model.specs.Run.{Item, item_width, items_width}
use Rattle.tbr_annotations.specs.Annotations.{same_annotations}
use Rattle.tbr_tagged.specs.Elements.{items_of, IsMerged}
use Rattle.tbr_footnotes.specs.Footnote.{fits_after}
use Rattle.tbr_footnotes.specs.declared.footnote_lines.FootnoteLines.TheInside.{Inside}

-- The lines that have ended, and what the open one holds.
pub record Cutting (T : Type 0) : Type 0 where
  -- the columns that a line may take, where lines are cut
  pub width : Option ℕ
  pub ended : List (List (Item T))
  pub held : List (Item T)

-- lines to which no item was added
abbrev pub nothing_cut : {T : Type 0} → Option ℕ → Cutting T
nothing_cut width = record { width = width; ended = []; held = [] }

-- the open line ended, and a fresh one after it
abbrev pub line_ended : {T : Type 0} → Cutting T → Cutting T
line_ended c = record c { ended = c.ended ++ c.held ∷ []; held = [] }

-- items more in the open line
abbrev pub extended : {T : Type 0} → Cutting T → List (Item T) → Cutting T
extended c is = record c { held = c.held ++ is }

-- an item more in the open line, whether it fits or not
abbrev pub appended : {T : Type 0} → Cutting T → Item T → Cutting T
appended c i = extended c (i ∷ [])

-- an item more, on a fresh line where it doesn't fit after what the open one holds
abbrev pub with_item : {T : Type 0} → (ℕ → Option ℕ) → Cutting T → Item T → Cutting T
with_item columns c i =
    appended (if fits_after columns c.width c.held (item_width columns i) then c else line_ended c) i

-- items more, one after another
abbrev pub with_items : {T : Type 0} → (ℕ → Option ℕ) → Cutting T → List (Item T) → Cutting T
with_items columns c is = fold (with_item columns) c is

-- ---- what a contract sees of the fields

-- the items of the lines that have ended, and of the open one
abbrev pub cutting_of : {D W A M : Type 0} → Inside D W A M → Cutting (List M)
cutting_of c = record { width = c.width; ended = map items_of c.ended.items; held = items_of c.held }

-- Pieces are the longest stretches under equal annotations, and the columns are those of the open line.
pub record HoldsCutting {D W A M : Type 0} (widths : ℕ → Option ℕ) (same : M → M → Bool) (c : Inside D W A M) :
    Type 0 where
  pub taken : c.columns ≡ items_width widths (items_of c.held)
  pub merged : Each (IsMerged (same_annotations same)) c.ended.items
  pub merged_held : IsMerged (same_annotations same) c.held
