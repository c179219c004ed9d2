-- Commands as steps, and calls as commands.
use Rattle.std.specs.Prelude.{ℕ, max, Bool, if◌then◌else◌, Option, None, Some, List, [], chars}
use Rattle.tbr_model.specs.Width.{width_of_text}
use Rattle.tbr_commands.specs.declared.request.beginning.Beginning.TheVariants as beginning
use Rattle.tbr_commands.specs.declared.request.kind.Kind.TheVariants as kind
use Rattle.tbr_commands.specs.declared.request.layout.Layout.TheVariants.{StartTable, EndBlock}
use Rattle.tbr_commands.specs.Request as request
use Rattle.tbr_commands.specs.Request.{Request}
use Rattle.tbr_commands.specs.Command as asked
use Rattle.tbr_commands.specs.Command.{Command}
use Rattle.tbr_tables.specs.declared.step.Step.{Step}
use Rattle.tbr_tables.specs.declared.step.Step.TheVariants as step
use Rattle.tbr_tables.specs.declared.drawn.Call.{Call}
use Rattle.tbr_tables.specs.declared.drawn.Call.TheVariants as call

-- the step that a request is
abbrev pub step_of_request : Request → Step
step_of_request (request.layout what) = step.EndLine
step_of_request (request.border None) = step.EndLine
step_of_request (request.border (Some width)) = step.Border width
step_of_request (request.begin (beginning.Mode mode)) = step.BeginMode mode
step_of_request (request.end kind.Mode) = step.EndMode
step_of_request other = step.Text

-- the step that a command is
abbrev pub step_of : (ℕ → Option ℕ) → Command → Step
step_of columns (asked.ask request) = step_of_request request
step_of columns (asked.link target) = step.Text
step_of columns asked.end_link = step.Text
step_of columns (asked.sub width) = step.Sub width
step_of columns (asked.append first others) =
    step.Append (max (width_of_text columns (chars first)) (width_of_text columns (chars others)))
step_of columns (asked.cell width span align) = step.GivenCell width align
step_of columns asked.end_cell = step.EndGivenCell
step_of columns (asked.row collapse) = step.GivenRow
step_of columns asked.vertical_row = step.VerticalRow

-- the command that a call is, where borders are drawn or not, or none for that of its step
abbrev pub command_for : (borders : Bool) → Call → Option Command
command_for borders call.Given = None
command_for borders call.StartTable = Some (asked.ask (request.layout StartTable))
command_for borders (call.Border width) = if borders then Some (asked.ask (request.border (Some width))) else None
command_for borders (call.Sub width) = Some (asked.sub width)
command_for borders call.Append = Some (asked.append [] [])
command_for borders (call.Cell cell) = Some (asked.cell cell.width cell.rows cell.align)
command_for borders call.EndCell = Some asked.end_cell
command_for borders call.Row = Some (asked.row borders)
command_for borders call.VerticalRow = Some asked.vertical_row
command_for borders call.EndBlock = Some (asked.ask (request.layout EndBlock))
