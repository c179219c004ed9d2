-- What is open in a script.
use Rattle.std.specs.Prelude.{◌≡◌, ℕ, ◌+◌, ◌-◌, ◌^◌, ◌==◌, Bool, true, false, min, nat_lt, if◌then◌else◌, Option, None, Some, is_some, List, [], ◌∷◌, ◌++◌, length, take, slice_get, fold, codes}
use Rattle.std.specs.Option.{option_map, option_or}
use Rattle.std.specs.Str.{bytes_eq}
use Rattle.tbr_commands.specs.declared.command.Command.{Command}
use Rattle.tbr_commands.specs.declared.command.Command.TheVariants as asked
use Rattle.tbr_statements.specs.Block.{name_of, end_of}
use Rattle.tbr_statements.specs.declared.block.Block.TheVariants.{Quote, Item, Ordered, Heading}
use Rattle.tbr_statements.specs.declared.level.Level.{Level}
use Rattle.tbr_statements.specs.declared.level.Levels.{Levels}
use Rattle.tbr_statements.specs.declared.level.Notes.{Notes}
use Rattle.tbr_statements.specs.declared.level.TooWide.{TooWide}
use Rattle.tbr_statements.specs.declared.level.Opener.{Opener}
use Rattle.tbr_statements.specs.declared.level.Opener.TheVariants.{Sub, Cell, Table, InnerTable, TableCell, Block}

-- the command that closes what was opened so
abbrev pub closing : Opener → List ℕ
closing Sub = codes "append >  | > "
closing Cell = codes "endcell"
closing Table = codes "endtable"
closing InnerTable = codes "endtable"
closing TableCell = codes "endcell"
closing (Block b prefixes) = end_of b

-- what an error calls it
abbrev pub called : Opener → List ℕ
called Sub = codes "a block"
called Cell = codes "a cell"
called Table = codes "a table"
called InnerTable = codes "a table"
called TableCell = codes "a cell"
called (Block b prefixes) = name_of b

-- the remark at the line where it was opened
abbrev pub note_of : Opener → List ℕ
note_of Sub = codes "the block was opened here"
note_of Cell = codes "the cell was opened here"
note_of Table = codes "the table was opened here"
note_of InnerTable = codes "the table was opened here"
note_of TableCell = codes "the cell was opened here"
note_of (Block Quote prefixes) = codes "the quote was opened here"
note_of (Block Item prefixes) = codes "the item was opened here"
note_of (Block (Ordered number) prefixes) = codes "the item was opened here"
note_of (Block (Heading level) prefixes) = codes "the heading was opened here"

-- the innermost level, if there is one
abbrev pub innermost : {X : Type 0} → List X → Option X
innermost levels = slice_get levels (length levels - 1)

-- whether a block with a prefix was opened so
abbrev pub is_of_a_block : Opener → Bool
is_of_a_block (Block b prefixes) = true
is_of_a_block other = false

-- what opened a level, if there is one
abbrev pub opener_of : Option Level → Option Opener
opener_of level = option_map (λ l. l.by) level

abbrev pub is_in_a_block : Option Opener → Bool
is_in_a_block None = false
is_in_a_block (Some by) = is_of_a_block by

-- the line where a level was opened, if that is a table that finds its widths
abbrev pub opens_a_table : Opener → Bool
opens_a_table Table = true
opens_a_table InnerTable = true
opens_a_table other = false

abbrev pub table_line : Option Level → Option ℕ
table_line None = None
table_line (Some level) = if opens_a_table level.by then Some level.line else None

-- whether a level is a block that `append` ends, or a cell of such a table
abbrev pub opens_a_sub : Opener → Bool
opens_a_sub Sub = true
opens_a_sub other = false

abbrev pub opens_a_table_cell : Opener → Bool
opens_a_table_cell TableCell = true
opens_a_table_cell other = false

-- whether a command inside of such a table ends a level, if it ends one
abbrev pub ends_by : Command → Option Opener → Bool
ends_by (asked.Append prefixes) (Some by) = opens_a_sub by
ends_by asked.EndCell (Some by) = opens_a_table_cell by
ends_by other level = true

-- whether a command closes a level
abbrev pub is_closed_by : List ℕ → Option Level → Bool
is_closed_by command None = false
is_closed_by command (Some level) = bytes_eq (closing level.by) command

-- whether a command is an `append` inside a block with a prefix
abbrev pub may_not_append : Command → Option Opener → Bool
may_not_append (asked.Append prefixes) by = is_in_a_block by
may_not_append other by = false

-- whether a character of these columns takes two
abbrev pub takes_two : Option ℕ → Bool
takes_two None = false
takes_two (Some n) = n == 2

-- nothing is known of a level
abbrev pub nothing : Notes
nothing = record { first_cell = None; row_columns = 0; spanning = None; too_wide = None }

-- a sum, or the greatest `usize` if it passes that
abbrev pub held : ℕ → ℕ
held n = min n (2 ^ 64 - 1)

-- the text that is too wide of the innermost level outside of which one is known
abbrev pub outside_too_wide : List Level → Option TooWide
outside_too_wide levels = fold (λ found level. option_or level.outside.too_wide found) None levels

-- One more cell waits, with a line between it and one that waits already. It is the last that takes more rows than one,
-- if it does.
abbrev pub with_cell : Notes → ℕ → ℕ → ℕ → Notes
with_cell notes line columns rows = record notes {
  first_cell = option_or notes.first_cell (Some line);
  row_columns = held (held (notes.row_columns + columns) + (if is_some notes.first_cell then 1 else 0));
  spanning = if nat_lt 1 rows then Some line else notes.spanning;
}

-- no cell waits any more
abbrev pub without_cells : Notes → Notes
without_cells notes = record notes { first_cell = None; row_columns = 0 }

-- The innermost level closes, which was opened by this.
pub record Leaves (levels : List Level) (notes : Notes) (by : Opener) (rest : List Level) (known : Notes) : Type 0 where
  pub line : ℕ
  pub outside : Notes
  pub last : levels ≡ rest ++ record { by = by; line = line; outside = outside } ∷ []
  pub keeps : known ≡ record outside { too_wide = option_or outside.too_wide notes.too_wide }

-- ---- what commands do

-- the levels that are open, the innermost last, and what is known of that
pub record Known : Type 0 where
  pub inside : List Level
  pub notes : Notes

abbrev pub known_in : Levels → Known
known_in levels = record { inside = levels.inside.items; notes = levels.notes }

-- a level opens on a line
abbrev pub entered : Known → Opener → ℕ → Known
entered known by line = record {
  inside = known.inside ++ record { by = by; line = line; outside = known.notes } ∷ [];
  notes = nothing;
}

-- what is known outside of a level that closes
abbrev pub known_outside : Option Level → Notes → Notes
known_outside None notes = notes
known_outside (Some level) notes =
    record level.outside { too_wide = option_or level.outside.too_wide notes.too_wide }

-- the innermost level closes, if one is open
abbrev pub left : Known → Known
left known = record {
  inside = take (length known.inside - 1) known.inside;
  notes = known_outside (innermost known.inside) known.notes;
}

-- what a command on a line opens and closes
abbrev pub noted : Known → ℕ → Command → Known
noted known line (asked.Sub width) = entered known Sub line
noted known line (asked.Cell cell) =
    entered (record known { notes = with_cell known.notes line cell.width cell.span }) Cell line
noted known line (asked.Append prefixes) = left known
noted known line asked.EndCell = left known
noted known line (asked.Row collapse) = record known { notes = without_cells known.notes }
noted known line asked.VerticalRow = record known { notes = without_cells known.notes }
noted known line other = known
