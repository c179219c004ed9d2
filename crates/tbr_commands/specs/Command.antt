-- What a line of a script asks for.
use Rattle.std.specs.Prelude.{ℕ, ◌<◌, Bool, List, string_bytes}
use Rattle.tbr_tagged.specs.declared.CellAlign.{CellAlign}
use Rattle.tbr_commands.specs.Request.{Request, request_of}
use Rattle.tbr_commands.specs.declared.command.Command as declared
use Rattle.tbr_commands.specs.declared.command.Command.TheVariants as variant

-- A request is one call of the renderer that is open. The others begin a link there and end it, open a block or a cell
-- inside it, or close one. Or they take the cells that wait: side by side, with their borders collapsed or not, or one
-- below another. Targets and prefixes are by their bytes. A first prefix is that of the first line, the other that of
-- all others.
pub data Command : Type 0 where
  ask : Request → Command
  link : (target : List ℕ) → Command
  end_link : Command
  sub : (width : ℕ) → Command
  append : (first others : List ℕ) → Command
  cell : (width span : ℕ) → CellAlign → Command
  end_cell : Command
  row : (collapse : Bool) → Command
  vertical_row : Command

-- Widths and spans are at least 1.
abbrev pub IsSized : Command → Type 0
IsSized (sub width) = 0 < width
IsSized (cell width span align) = (0 < width) × (0 < span)
IsSized other = Unit {0}

-- ---- the command that one of the code is

-- a command of the code by what it asks for, texts by their bytes
abbrev pub command_of : declared.Command → Command
command_of (variant.Ask request) = ask (request_of request)
command_of (variant.Link target) = link (string_bytes target)
command_of variant.EndLink = end_link
command_of (variant.Sub width) = sub width
command_of (variant.Append prefixes) = append (string_bytes prefixes.first) (string_bytes prefixes.second)
command_of (variant.Cell new) = cell new.width new.span new.align
command_of variant.EndCell = end_cell
command_of (variant.Row collapse) = row collapse
command_of variant.VerticalRow = vertical_row
