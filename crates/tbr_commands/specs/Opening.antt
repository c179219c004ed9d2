-- The first command of a script.
use Rattle.std.specs.Prelude.{◌≡◌, ℕ, List, ◌∷◌, codes}
use Rattle.std.specs.Str.{IsUtf8}
use Rattle.tbr_script.specs.Script.{IsSize, words_of}
use Rattle.tbr_commands.specs.Options.{AreOptions}
use Rattle.tbr_commands.specs.declared.opening.Decorator.{Decorator}
use Rattle.tbr_commands.specs.declared.opening.Decorator.TheVariants.{Plain, Trivial, Rich}
use Rattle.tbr_commands.specs.declared.opening.Opening.{Opening}

-- a decorator's name
abbrev pub name_of : Decorator → List ℕ
name_of Plain = codes "plain"
name_of Trivial = codes "trivial"
name_of Rich = codes "rich"

-- the words after `new`: a width of at least 1, a decorator, and options
abbrev pub AsksFor : List (List ℕ) → Opening → Type 0
AsksFor words opening =
    (digits : List ℕ) × (options : List (List ℕ)) × (words ≡ digits ∷ name_of opening.decorator ∷ options)
    × IsSize digits opening.width × AreOptions options opening.options

-- A line that is this first command. A line that isn't UTF-8 is none.
pub record IsOpening (line : List ℕ) (opening : Opening) : Type 0 where
  pub utf8 : IsUtf8 line
  pub words : List (List ℕ)
  pub begins : words_of line ≡ codes "new" ∷ words
  pub asks : AsksFor words opening
