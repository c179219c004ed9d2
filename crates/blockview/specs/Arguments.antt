-- What the command line asks for.
use Rattle.std.specs.Prelude.{◌≡◌, ◌≢◌, ℕ, Bool, true, false, ◌&&◌, if◌then◌else◌, Option, None, Some, List, [], ◌∷◌, codes}
use Rattle.clap.specs.Matches.{found_of, first_value, one_text}
use Rattle.clap.specs.declared.parser.matches.ArgMatches.{ArgMatches}
use Rattle.tbr_view.specs.declared.script.Format.{Format}
use Rattle.tbr_view.specs.declared.script.Format.TheVariants.{Text, Bare, Ansi, Ndjson, Html}

-- the value of an option, if it has one
abbrev pub value_of : ArgMatches → List ℕ → Option (List ℕ)
value_of matches id = first_value (found_of matches) id

-- Whether there are colours: as the word says, or else as `shows` says, where there is no word.
pub record AreColours (word : Option (List ℕ)) (shows colours : Bool) : Type 0 where
  pub always : word ≡ Some (codes "always") → colours ≡ true
  pub never : word ≡ Some (codes "never") → colours ≡ false
  pub otherwise : word ≢ Some (codes "always") → word ≢ Some (codes "never") → colours ≡ shows

-- The format of this name, which is text if there is no other.
pub record IsFormat (word : Option (List ℕ)) (colours : Bool) (format : Format) : Type 0 where
  pub ansi : word ≡ Some (codes "ansi") → format ≡ (if colours then Ansi else Bare)
  pub json : word ≡ Some (codes "json") → format ≡ Ndjson
  pub html : word ≡ Some (codes "html") → format ≡ Html
  pub text : word ≢ Some (codes "ansi") → word ≢ Some (codes "json") → word ≢ Some (codes "html") → format ≡ Text

-- whether a variable is empty, or isn't set
abbrev pub says_nothing : Option (List ℕ) → Bool
says_nothing None = true
says_nothing (Some []) = true
says_nothing (Some (b ∷ bs)) = false
