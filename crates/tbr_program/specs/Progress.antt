-- Where a script is after its first command.
use Rattle.std.specs.Prelude.{◌≡◌, ◌<◌, ℕ, true, Option, None, Some, List, [], ◌∷◌, ◌++◌, map}
use Rattle.std.specs.List.{AllZip}
use Rattle.tbr_tagged.specs.declared.CellAlign.{CellAlign}
use Rattle.tbr_renderer.specs.Renderer.{Renderer}
use Rattle.tbr_stack.specs.Stack.{Stack, top_of, below}
use Rattle.tbr_commands.specs.Begun.{nothing_begun}
use Rattle.tbr_commands.specs.declared.begun.Begun.{Begun}
use Rattle.tbr_program.specs.declared.opened.Opener.{Opener}
use Rattle.tbr_program.specs.declared.opened.Opener.TheVariants.{Sub, Cell}

-- What has begun on a renderer and not ended, and the cells that wait there for their row, each with its span, and how
-- their texts are aligned.
pub record Pending (D A T : Type 0) : Type 0 where
  pub begun : Begun
  pub cells : List (Renderer D A T × ℕ)
  pub aligns : List CellAlign

-- A level that is open: the command that opened it, and what is pending below it.
pub record Opened (D A T : Type 0) : Type 0 where
  pub by : Opener
  pub below : Pending D A T

-- The renderers, what is pending on that on top, and the levels that are open, the innermost first.
pub record Progress (D A T : Type 0) : Type 0 where
  pub stack : Stack (Renderer D A T)
  pub pending : Pending D A T
  pub opened : List (Opened D A T)

-- nothing begun, and no cell that waits
abbrev pub nothing_pending : {D A T : Type 0} → Pending D A T
nothing_pending = record { begun = nothing_begun; cells = []; aligns = [] }

-- by which command the innermost level that is open was opened
abbrev pub opener : {D A T : Type 0} → List (Opened D A T) → Option Opener
opener [] = None
opener (level ∷ levels) = Some level.by

-- ---- cells that wait

-- the renderers of cells
abbrev pub renderers_of : {D A T : Type 0} → List (Renderer D A T × ℕ) → List (Renderer D A T)
renderers_of cells = map (λ cell. cell.0) cells

-- one cell more that waits
abbrev pub with_cell : {D A T : Type 0} → Pending D A T → Renderer D A T → ℕ → CellAlign → Pending D A T
with_cell pending inside span align = record pending {
  cells = pending.cells ++ (inside, span) ∷ [];
  aligns = pending.aligns ++ align ∷ [];
}

-- none that waits
abbrev pub without_cells : {D A T : Type 0} → Pending D A T → Pending D A T
without_cells pending = record pending { cells = []; aligns = [] }

-- ---- levels

-- The innermost level ends: its renderer is taken, and what was pending below it is pending again.
pub record Closes {D A T : Type 0} (p : Progress D A T) (inside : Renderer D A T) (next : Progress D A T) :
    Type 0 where
  pub by : Opener
  pub opened : p.opened ≡ record { by = by; below = next.pending } ∷ next.opened
  pub top : top_of p.stack ≡ Some inside
  pub stack : next.stack ≡ below p.stack

-- a cell to come spans at least one row
abbrev pub IsSpanned : Opener → Type 0
IsSpanned Sub = Unit {0}
IsSpanned (Cell span align) = 0 < span

-- ---- programs that go on

-- The renderer hasn't refused. Its preformatted stretches are those that were begun, and so are its strikeouts where
-- struck out text has strokes.
abbrev pub IsLive : {D A T : Type 0} → Renderer D A T → Begun → Type 0
IsLive r begun =
    (r.failure ≡ None) × (r.preformatted ≡ begun.preformats)
    × (r.options.use_unicode_strikeout ≡ true → r.strikeouts ≡ begun.strikeouts)

-- what has begun on each renderer, that on top first
abbrev pub begun_on_each : {D A T : Type 0} → Pending D A T → List (Opened D A T) → List Begun
begun_on_each pending opened = pending.begun ∷ map (λ o. o.below.begun) opened

-- one renderer for each level, and each is live
abbrev pub AreLive : {D A T : Type 0} →
    Stack (Renderer D A T) → Pending D A T → List (Opened D A T) → Type 0
AreLive stack pending opened =
    AllZip (λ level begun. IsLive level.renderer begun) stack.levels (begun_on_each pending opened)

-- No refusal came yet.
abbrev pub GoesOn : {D A T : Type 0} → Progress D A T → Type 0
GoesOn p = AreLive p.stack p.pending p.opened
