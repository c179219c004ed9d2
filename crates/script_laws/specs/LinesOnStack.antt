-- The lines of a script as calls on its stack.
use Rattle.std.specs.Prelude.{◌≡◌, ◌⊎◌, ℕ, List, [], ◌∷◌, ◌++◌, length, chars}
use Rattle.text_block_renderer.specs.Line.{Line}
use Rattle.text_block_renderer.specs.Renderer.{Renderer}
use Rattle.text_block_renderer.specs.Rows.{GivenCell}
use Rattle.text_block_renderer.specs.Calls.{Call, append_subrender, append_vert_row}
use Rattle.text_block_renderer.specs.Acts.{call, row as row_of_cells}
use Rattle.text_block_renderer.specs.Levels.{OnStack, on_top, push, pop, start_link, end_link as ends_link}
use Rattle.tbr_commands.specs.Command.{Command, ask, link, end_link, sub, append, cell, end_cell, row, vertical_row}
use Rattle.tbr_commands.specs.Syntax.{IsCommand}
use Rattle.tbr_program.specs.Prefixes.{prefixes}
use Rattle.script_laws.specs.Named.{NamesCall}

module _ {D M : Type 0} where
  -- what a command for links, levels or rows does
  abbrev pub DoesToStack : Command → List (OnStack D M) → Type 0
  DoesToStack (ask request) calls = ⊥
  DoesToStack (link target) calls = calls ≡ start_link (chars target) ∷ []
  DoesToStack end_link calls = calls ≡ ends_link ∷ []
  DoesToStack (sub width) calls = (r : Renderer D M (List M)) × (calls ≡ push r ∷ [])
  DoesToStack (append first others) calls = (own : List (Line (List M)))
      × (calls ≡ pop ∷ on_top (call (append_subrender (prefixes first others (length own)) own)) ∷ [])
  DoesToStack (cell width span align) calls = (r : Renderer D M (List M)) × (calls ≡ push r ∷ [])
  DoesToStack end_cell calls = calls ≡ pop ∷ []
  DoesToStack (row collapse) calls =
      (given : List (GivenCell (List M))) × (calls ≡ on_top (row_of_cells collapse given) ∷ [])
  DoesToStack vertical_row calls =
      (given : List (List (Line (List M)))) × (calls ≡ on_top (call (append_vert_row given)) ∷ [])

  -- A line is these calls: the one of the top that it names, or what its command does.
  abbrev pub IsCalls : List ℕ → List (OnStack D M) → Type 0
  IsCalls line calls =
      ((width : ℕ) × (c : Call (List M)) × NamesCall width line c × (calls ≡ on_top (call c) ∷ []))
      ⊎ ((command : Command) × IsCommand line command × DoesToStack command calls)

  -- and so are lines, one after another
  abbrev pub AreCalls : List (List ℕ) → List (OnStack D M) → Type 0
  AreCalls [] calls = calls ≡ []
  AreCalls ([] ∷ lines) calls = AreCalls lines calls
  AreCalls ((b ∷ bs) ∷ lines) calls = (own others : List (OnStack D M)) × (calls ≡ own ++ others)
      × IsCalls (b ∷ bs) own × AreCalls lines others
