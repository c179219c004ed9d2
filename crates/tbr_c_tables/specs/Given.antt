-- What calls record of a table.
use Rattle.std.specs.Prelude.{◌≡◌, ◌≢◌, Result, Ok, Err, OnOk, IfErr, List, []}
use Rattle.column_widths.specs.declared.room.Room.{Room}
use Rattle.tbr_tagged.specs.UnicodeColumns.{unicode_columns}
use Rattle.tbr_commands.specs.Command.{Command}
use Rattle.tbr_tables.specs.Ruler.{room_of}
use Rattle.tbr_tables.specs.declared.step.Step.{Step}
use Rattle.tbr_tables.specs.declared.step.Step.TheVariants as step
use Rattle.tbr_recorded.specs.declared.texts.Texts.{Texts}
use Rattle.tbr_recorded.specs.Script.{TableScript, nothing, with_command, with_bare}
use Rattle.tbr_c_lines.specs.declared.fault.Fault.{Fault}
use Rattle.tbr_c_lines.specs.declared.fault.Fault.TheVariants.{OutOfMemory, InTable}
use Rattle.tbr_c_tables.specs.declared.open_part.Opener.{Opener}
use Rattle.tbr_c_tables.specs.declared.open_part.Opener.TheVariants.{Table, Cell, Block}
use Rattle.tbr_c_tables.specs.declared.open_part.OpenPart.{OpenPart}
use Rattle.tbr_c_tables.specs.declared.table_call.TableCall.{TableCall}
use Rattle.tbr_c_tables.specs.declared.table_call.TableCall.TheVariants as call
use Rattle.tbr_c_tables.specs.Open.{in_innermost, takes, noted, takes_call, after_call}

-- what is recorded, and the parts of it that are open, the innermost first
pub record GivenTable : Type 0 where
  pub script : TableScript
  pub parts : List OpenPart

-- what is made of what isn't refused
abbrev pub if_taken : {X : Type 0} → Result (Unit {0}) Fault → X → Result X Fault
if_taken (Ok taken) x = Ok x
if_taken (Err f) x = Err f

-- what a function makes of something. It refuses with what that is, but where memory is refused, and changes nothing
-- then.
pub record Makes {X : Type 0} (make : X → Result X Fault) (old : X) (done : Result (Unit {0}) Fault) (new : X) :
    Type 0 where
  pub ok : OnOk done (make old ≡ Ok new)
  pub refused : IfErr done (λ f. f ≢ OutOfMemory → (make old ≡ Err f) × (new ≡ old))

-- ---- calls

-- the step that a call is
abbrev pub step_of : TableCall → Step
step_of call.StartTable = step.Table
step_of (call.StartCell cell) = step.Cell cell
step_of call.EndCell = step.EndCell
step_of call.EndRow = step.Row
step_of call.EndTable = step.EndTable
step_of (call.StartInside prefix) = step.Inside prefix

-- a call is recorded
abbrev pub call_recorded : TableCall → GivenTable → GivenTable
call_recorded asked t = record {
  script = with_bare unicode_columns (step_of asked) t.script;
  parts = after_call asked t.parts;
}

-- a table that begins
abbrev pub begun : Texts → GivenTable
begun texts = call_recorded call.StartTable (record { script = nothing texts; parts = [] })

-- a command comes
abbrev pub command_given : Command → GivenTable → Result GivenTable Fault
command_given command t = if_taken (in_innermost (takes command) t.parts) (record {
  script = with_command unicode_columns command t.script;
  parts = noted command t.parts;
})

-- a call of a table comes
abbrev pub call_given : TableCall → GivenTable → Result GivenTable Fault
call_given asked t = if_taken (in_innermost (takes_call asked) t.parts) (call_recorded asked t)

-- ---- questions

-- the columns of the longest word and of the widest line in the innermost part, if that isn't a table
abbrev pub room_by : Opener → TableScript → Result Room Fault
room_by Table script = Err InTable
room_by Cell script = Ok (room_of script.recorded.measured.level.ruler)
room_by Block script = Ok (room_of script.recorded.measured.level.ruler)

abbrev pub room_given : GivenTable → Result Room Fault
room_given t = in_innermost (λ part. room_by part.by t.script) t.parts
