-- The renderers of a script and its text, and how they came to be.
use Rattle.std.specs.Prelude.{◌≡◌, ◌⊎◌, ◌≤◌, ℕ, Option, None, List, [], encode_utf8_all}
use Rattle.std.specs.List.{AllByRecursion as Each}
use Rattle.tbr_tagged.specs.Outcome.{done}
use Rattle.tbr_decor.specs.Decoration.{Decoration}
use Rattle.tbr_renderer.specs.Outcomes.{run}
use Rattle.text_block_renderer.specs.Renderer.{Renderer, IsSound}
use Rattle.text_block_renderer.specs.Acts.{Act, after_act}
use Rattle.text_block_renderer.specs.Text.{lines_text}
use Rattle.tbr_commands.specs.Command.{Command, sub, cell}
use Rattle.tbr_commands.specs.Syntax.{IsCommand}
use Rattle.tbr_program.specs.Closing.{with_notes, footnotes_of}
use Rattle.tbr_program.specs.Decorations.{plain_decoration, trivial_decoration, rich_decoration}
use Rattle.tbr_program.specs.Progress.{Pending, Progress}
use Rattle.tbr_runner.specs.Renderers.{AllAre}

-- Nothing has come to a renderer yet.
pub record IsFresh {D A T : Type 0} (r : Renderer D A T) : Type 0 where
  pub lines : r.lines ≡ []
  pub block : r.block ≡ None
  pub waiting : r.waiting ≡ []
  pub hanging : r.hanging ≡ []

module _ {D M : Type 0} (columns : ℕ → Option ℕ) (decoration : Decoration D M) where
  -- Calls, rows and footnotes led to a renderer from a sound one to which nothing had come.
  pub record IsLed (r : Renderer D M (List M)) : Type 0 where
    pub first : Renderer D M (List M)
    pub fresh : IsFresh first
    pub sound : IsSound columns first
    pub acts : List (Act M)
    pub leads : run (after_act columns decoration) acts first ≡ done r
    pub live : r.failure ≡ None

  abbrev pub AreLed : Progress D M (List M) → Type 0
  AreLed p = AllAre IsLed p

  -- A text is that of the lines of such a renderer, in which no run is open, and then of the footnotes of links to
  -- these targets. Acts lead on to the one that has these too.
  pub record IsTextOfLed (targets : List (List ℕ)) (text : List ℕ) : Type 0 where
    pub renderer : Renderer D M (List M)
    pub led : IsLed renderer
    pub whole : renderer.block ≡ None
    pub noted : IsLed (with_notes columns (footnotes_of columns decoration targets renderer) renderer)
    pub is : let notes = footnotes_of columns decoration targets renderer in
        text ≡ encode_utf8_all (lines_text (let s = with_notes columns notes renderer in s.lines))

-- It is so under one of the decorators of scripts.
abbrev pub IsTextOfScript : (ℕ → Option ℕ) → List (List ℕ) → List ℕ → Type 0
IsTextOfScript columns targets text =
    IsTextOfLed columns plain_decoration targets text
    ⊎ (IsTextOfLed columns trivial_decoration targets text ⊎ IsTextOfLed columns rich_decoration targets text)

-- ---- two columns

-- a block or a cell that the command opens has two columns or more
abbrev pub AsksForTwo : Command → Type 0
AsksForTwo (sub width) = 2 ≤ width
AsksForTwo (cell width span align) = 2 ≤ width
AsksForTwo other = Unit {0}

abbrev pub LineAsksForTwo : List ℕ → Type 0
LineAsksForTwo line = (command : Command) → IsCommand line command → AsksForTwo command
