-- Lines that are done.
use Rattle.script_laws.proofs.Common.{◌≡◌, ℕ, ◌+◌, Option, None, Some, List, Ok, Err, refl, Decoration, Command, IsCommand, command_read, Place, Made, after_read, unless_refused, rendered_on}
use Rattle.tbr_commands.proofs.Reading.{read_command}

module _ {D M : Type 0} (columns : ℕ → Option ℕ) (decoration : Decoration D M) (number : ℕ) where
  -- where lines give a text, the first is done, and the others give it
  pub line_parts : (made : Made columns decoration) (lines : List (List ℕ)) (text : List ℕ) → unless_refused (rendered_on columns decoration (number + 1) lines) made ≡ Ok text →
      (next : Place columns decoration) × (made ≡ Ok next) × (rendered_on columns decoration (number + 1) lines next ≡ Ok text)
  line_parts (Ok next) lines text is = (next, refl, is)
  line_parts (Err e) lines text is = absurd (let no : ⊥ = cc is in no)

  -- and a line that is done and isn't empty asks for a command
  pub line_asks : (p next : Place columns decoration) (line : List ℕ) (read : Option Command) → command_read line ≡ read →
      after_read columns decoration number read p ≡ Ok next → (command : Command) × IsCommand line command
  line_asks p next line None reads is = absurd (let no : ⊥ = cc is in no)
  line_asks p next line (Some command) reads is = (command, read_command line command reads)
