-- What is recorded of a script from the beginning of a table to its end.
use Rattle.std.specs.Prelude.{ℕ, ◌-◌, ◌^◌, Option, None, Some, List, [], ◌∷◌, ◌++◌, unwrap_or}
use Rattle.std.specs.Option.{option_map}
use Rattle.tbr_commands.specs.Command.{Command, command_of, IsSized}
use Rattle.tbr_tables.specs.declared.step.Step.{Step}
use Rattle.tbr_tables.specs.Recorded.{Recorded, nothing_recorded, with_step}
use Rattle.tbr_recorded.specs.declared.texts.Texts.{Texts}
use Rattle.tbr_recorded.specs.declared.recorded.Entry.{Entry}
use Rattle.tbr_recorded.specs.Texts.{noted, written}
use Rattle.tbr_recorded.specs.Steps.{step_of}

-- What decides what commands write, the steps, and for each of them the command that it is, if it is one.
pub record TableScript : Type 0 where
  pub texts : Texts
  pub recorded : Recorded
  pub commands : List (Option Command)

-- nothing
abbrev pub nothing : Texts → TableScript
nothing texts = record {
  texts = texts;
  recorded = nothing_recorded (unwrap_or texts.options.wrap_width (2 ^ 64 - 1));
  commands = [];
}

-- the command that a step of the code is, if it is one
abbrev pub command_in : Entry → Option Command
command_in entry = option_map command_of entry.command

-- widths and spans of a command, if there is one, are at least 1
abbrev pub IsSizedIn : Option Command → Type 0
IsSizedIn None = Unit {0}
IsSizedIn (Some command) = IsSized command

-- a command comes
abbrev pub with_command : (ℕ → Option ℕ) → Command → TableScript → TableScript
with_command columns command t =
    let texts = noted command t.texts in record {
      texts = texts;
      recorded = with_step columns t.recorded (step_of columns command) (written texts command);
      commands = t.commands ++ Some command ∷ [];
    }

-- a step that is no command
abbrev pub with_bare : (ℕ → Option ℕ) → Step → TableScript → TableScript
with_bare columns step t = record t {
  recorded = with_step columns t.recorded step [];
  commands = t.commands ++ None ∷ [];
}
