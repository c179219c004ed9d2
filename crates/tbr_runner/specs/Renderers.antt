-- The renderers of a script.
use Rattle.std.specs.Prelude.{List}
use Rattle.std.specs.List.{AllByRecursion as Each}
use Rattle.tbr_renderer.specs.Renderer.{Renderer}
use Rattle.tbr_commands.specs.Command.{Command, append, end_cell}
use Rattle.tbr_program.specs.Progress.{Pending, Progress}

-- the renderers of the cells that wait are such
abbrev pub CellsAre : {D A T : Type 0} → (Renderer D A T → Type 0) → Pending D A T → Type 0
CellsAre Is pending = Each (λ cell. Is cell.0) pending.cells

-- Each renderer on the stack is such, and so are those of the cells that wait in any level.
pub record AllAre {D A T : Type 0} (Is : Renderer D A T → Type 0) (p : Progress D A T) : Type 0 where
  pub on_stack : Each (λ level. Is level.renderer) p.stack.levels
  pub waiting : CellsAre Is p.pending
  pub below : Each (λ o. CellsAre Is o.below) p.opened

-- the command ends the innermost block or cell
abbrev pub EndsOne : Command → Type 0
EndsOne (append first next) = Unit {0}
EndsOne end_cell = Unit {0}
EndsOne other = ⊥
