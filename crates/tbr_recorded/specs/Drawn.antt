-- The commands that draw a table.
use Rattle.std.specs.Prelude.{ℕ, Option, None, Some, Result, Ok, Err, List, [], ◌∷◌, slice_get}
use Rattle.std.specs.Option.{option_and_then}
use Rattle.tbr_commands.specs.Command.{Command}
use Rattle.tbr_commands.specs.Read.{first_of}
use Rattle.tbr_tables.specs.declared.drawn.Drawn.{Drawn}
use Rattle.tbr_recorded.specs.Script.{TableScript}
use Rattle.tbr_recorded.specs.Steps.{command_for}

-- the command that the step at a place is, if it is one
abbrev pub given_at : ℕ → List (Option Command) → Option Command
given_at step commands = option_and_then (λ command. command) (slice_get commands step)

-- the command of a call that draws: its own, or else that of its step
abbrev pub drawn_by : TableScript → Drawn → Option Command
drawn_by t drawn = first_of (command_for t.texts.options.draw_borders drawn.call) (given_at drawn.step t.commands)

-- ---- calls one after another

-- what a function makes of something by a command, if there is one
abbrev pub after_one : {S E : Type 0} → (Command → S → Result S E) → Option Command → S → Result S E
after_one make None s = Ok s
after_one make (Some command) s = make command s

-- what a function makes of what was made, if that wasn't refused
abbrev pub then_made : {S E : Type 0} → Result S E → (S → Result S E) → Result S E
then_made (Ok s) make = make s
then_made (Err e) make = Err e

-- what a function makes of something by these, one after another: the first refusal ends it
abbrev pub after_each : {X S E : Type 0} → (X → S → Result S E) → List X → S → Result S E
after_each make [] s = Ok s
after_each make (x ∷ xs) s = then_made (make x s) (after_each make xs)
