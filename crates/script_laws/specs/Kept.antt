-- Scripts of which no visible character and no marker is lost.
use Rattle.std.specs.Prelude.{◌≡◌, ℕ, ◌+◌, Option, Some, List, [], ◌∷◌, ◌++◌, length}
use Rattle.std.specs.List.{AllByRecursion as Each}
use Rattle.tbr_model.specs.Run.{Entry}
use Rattle.tbr_decor.specs.Decoration.{Decoration}
use Rattle.text_block_renderer.specs.Renderer.{Renderer}
use Rattle.text_block_renderer.specs.Taken.{AreWrittenIn, NothingOverhangs}
use Rattle.tbr_stack.specs.Stack.{top_of}
use Rattle.tbr_commands.specs.Command.{Command, cell}
use Rattle.tbr_commands.specs.Syntax.{IsCommand}
use Rattle.tbr_program.specs.declared.opened.Opener.{Opener}
use Rattle.tbr_program.specs.declared.opened.Opener.TheVariants.{Sub, Cell}
use Rattle.tbr_program.specs.Progress.{Pending, Progress}
use Rattle.tbr_runner.specs.Renderers.{AllAre, CellsAre, EndsOne}
use Rattle.script_laws.specs.Led.{IsLed, IsTextOfLed}

-- ---- blocks and cells that end

-- the first of these lines does, or there is none, and the script ends
abbrev pub EndNext : List (List ℕ) → Type 0
EndNext [] = Unit {0}
EndNext (line ∷ lines) = (command : Command) × IsCommand line command × EndsOne command

-- Where it ends next, nothing overhangs in it.
abbrev pub EndsWhole : {D A T : Type 0} → List (List ℕ) → Progress D A T → Type 0
EndsWhole {D} {A} {T} lines p = EndNext lines → (r : Renderer D A T) → top_of p.stack ≡ Some r → NothingOverhangs r

-- ---- cells of one row

-- a level that isn't a cell of several rows
abbrev pub IsOfOneRow : Opener → Type 0
IsOfOneRow Sub = Unit {0}
IsOfOneRow (Cell span align) = span ≡ 1

-- the cells that wait span one row each
abbrev pub WaitForOneRow : {D A T : Type 0} → Pending D A T → Type 0
WaitForOneRow pending = Each (λ cell. cell.1 ≡ 1) pending.cells

-- Nothing overhangs in any renderer, and each cell that is open or waits spans one row.
pub record OverhangsNowhere {D A T : Type 0} (p : Progress D A T) : Type 0 where
  pub renderers : AllAre NothingOverhangs p
  pub waiting : WaitForOneRow p.pending
  pub opened : Each (λ level. IsOfOneRow level.by) p.opened
  pub below : Each (λ level. WaitForOneRow level.below) p.opened

-- a cell that a command opens spans one row
abbrev pub AsksForOneRow : Command → Type 0
AsksForOneRow (cell width span align) = span ≡ 1
AsksForOneRow other = Unit {0}

abbrev pub LineAsksForOneRow : List ℕ → Type 0
LineAsksForOneRow line = (command : Command) → IsCommand line command → AsksForOneRow command

module _ {D M : Type 0} (columns : ℕ → Option ℕ) (decoration : Decoration D M) where
  -- ---- where nothing is lost from here on

  -- Calls and rows led to each renderer, and there is one for each level and one below them. In those of cells that
  -- wait nothing overhangs.
  pub record KeepsAll (p : Progress D M (List M)) : Type 0 where
    pub renderers : AllAre (IsLed columns decoration) p
    pub levels : length p.stack.levels ≡ length p.opened + 1
    pub waiting : CellsAre NothingOverhangs p.pending
    pub below : Each (λ level. CellsAre NothingOverhangs level.below) p.opened

  -- A text is that of a renderer's lines, with footnotes after them. In these lines the visible characters and the
  -- markers of what came to a renderer before, and of what came to it later, are in order, each character under an
  -- annotation of its call. Only markers may be missing after which none came to that renderer.
  pub record TextKeeps (targets : List (List ℕ)) (text : List ℕ) (came : List (Entry (List M))) : Type 0 where
    pub of : IsTextOfLed columns decoration targets text
    pub more : List (Entry (List M))
    pub all : AreWrittenIn columns (came ++ more) (let m = of.renderer in m.lines)
