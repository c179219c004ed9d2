-- What a line of a script for people asks for.
use Rattle.std.specs.Prelude.{ℕ, ◌==◌, ◌||◌, nat_eq, Bool, List, length, codes}
use Rattle.std.specs.List.{starts_with}
use Rattle.tbr_commands.specs.Command as asked
use Rattle.tbr_commands.specs.Command.{command_of}
use Rattle.tbr_commands.specs.Syntax.{ending_name}
use Rattle.tbr_commands.specs.declared.command.Command as line
use Rattle.tbr_commands.specs.declared.command.Command.TheVariants as command_variant
use Rattle.tbr_commands.specs.declared.request.Request.TheVariants as request
use Rattle.tbr_tables.specs.declared.step.TableCell.{TableCell}
use Rattle.tbr_statements.specs.declared.block.Block.{Block}
use Rattle.tbr_statements.specs.declared.statement.Statement as declared
use Rattle.tbr_statements.specs.declared.statement.Statement.TheVariants.{Command, Open, Close, Table, Cell, EndTable}

-- A command of `blockrender`, a block that opens, or the end of one, by its command; and of a table that finds its
-- widths, the beginning, a cell or the end.
pub data Statement : Type 0 where
  command : asked.Command → Statement
  opens : Block → Statement
  closes : List ℕ → Statement
  begins_table : Statement
  opens_cell : TableCell → Statement
  ends_table : Statement

-- a statement of the code by what it asks for
abbrev pub statement_of : declared.Statement → Statement
statement_of (Command asks) = command (command_of asks)
statement_of (Open block) = opens block
statement_of (Close by) = closes by.now
statement_of Table = begins_table
statement_of (Cell cell) = opens_cell cell
statement_of EndTable = ends_table

-- widths and spans are at least 1
abbrev pub IsSized : declared.Statement → Type 0
IsSized (Command asks) = asked.IsSized (command_of asks)
IsSized other = Unit {0}

-- whether a line asks for nothing: it is empty, or a comment
abbrev pub is_skipped : List ℕ → Bool
is_skipped line = (length line == 0) || starts_with nat_eq line (codes "#")

-- the word of a command that ends something
abbrev pub word_of : line.Command → List ℕ
word_of (command_variant.Ask (request.End kind)) = ending_name kind
word_of command_variant.EndLink = codes "endlink"
word_of command_variant.EndCell = codes "endcell"
word_of (command_variant.Append prefixes) = codes "append"
word_of other = codes "it"
