-- The statement that a line is, read from how it is written.
use Rattle.std.specs.Prelude.{ℕ, ◌^◌, ℤ, pos, nat_lt, if◌then◌else◌, Option, None, List, [], ◌∷◌, codes}
use Rattle.std.specs.Option.{option_map, option_and_then}
use Rattle.std.specs.Str.{is_utf8}
use Rattle.tbr_script.specs.Read.{when, number_read, size_read}
use Rattle.tbr_commands.specs.Read.{first_of, looked_up, split_at_space, read_by, command_read}
use Rattle.tbr_statements.specs.declared.block.Block.TheVariants.{Quote, Item, Ordered, Heading}
use Rattle.tbr_statements.specs.Statement.{Statement, command, opens, closes, begins_table, opens_cell, ends_table}
use Rattle.tbr_statements.specs.TableCell.{cell_read}

-- what a name alone opens or ends
abbrev pub names : List (List ℕ × Statement)
names =
    (codes "quote", opens Quote) ∷ (codes "item", opens Item) ∷ (codes "endquote", closes (codes "endquote"))
    ∷ (codes "enditem", closes (codes "enditem")) ∷ (codes "endordered", closes (codes "endordered"))
    ∷ (codes "endheading", closes (codes "endheading")) ∷ (codes "table auto", begins_table)
    ∷ (codes "endtable", ends_table) ∷ []

-- the number of an item, below 2 ^ 63
abbrev pub item_number_read : List ℕ → Option ℤ
item_number_read digits = option_and_then (λ n. when (nat_lt n (2 ^ 63)) (pos n)) (number_read digits)

-- how what is after a word is read, for what it opens
abbrev pub readers : List (List ℕ × (List ℕ → Option Statement))
readers =
    (codes "ordered", λ digits. option_map (λ n. opens (Ordered n)) (item_number_read digits))
    ∷ (codes "heading", λ digits. option_map (λ n. opens (Heading n)) (size_read digits))
    ∷ (codes "cell", λ argument. option_map opens_cell (cell_read argument)) ∷ []

-- what a line of a word and what is after it asks for
abbrev pub argument_read : List ℕ → Option Statement
argument_read line = option_and_then (λ parts. read_by readers parts.0 parts.1) (split_at_space line)

-- what a line asks for that is no command of `blockrender` and is UTF-8
abbrev pub block_read : List ℕ → Option Statement
block_read line = first_of (looked_up names line) (argument_read line)

-- the same of any line
abbrev pub other_read : List ℕ → Option Statement
other_read line = if is_utf8 line then block_read line else None

-- What a line asks for, if it asks for something: a command of `blockrender`, or something of a block with a prefix or
-- of a table that finds its widths. A line that isn't UTF-8 asks for nothing.
abbrev pub statement_read : List ℕ → Option Statement
statement_read line = first_of (option_map command (command_read line)) (other_read line)
