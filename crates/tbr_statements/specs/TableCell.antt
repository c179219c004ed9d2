-- Cells of tables that find their widths, read from how they are written.
use Rattle.std.specs.Prelude.{ℕ, if◌then◌else◌, Option, None, Some, List, [], ◌∷◌, codes, bytes_eq}
use Rattle.std.specs.Option.{option_map}
use Rattle.tbr_tagged.specs.declared.CellAlign.{CellAlign}
use Rattle.tbr_tagged.specs.declared.CellAlign.TheVariants.{Left, Right, Centre}
use Rattle.tbr_script.specs.Read.{size_read}
use Rattle.tbr_script.specs.Script.{words_of}
use Rattle.tbr_commands.specs.Read.{looked_up}
use Rattle.tbr_tables.specs.declared.step.TableCell.{TableCell}

-- a cell of so many rows and columns
abbrev pub cell : ℕ → ℕ → CellAlign → TableCell
cell rows columns align = record { columns = columns; rows = rows; align = align }

abbrev pub alignment : List ℕ → Option CellAlign
alignment name = looked_up ((codes "left", Left) ∷ (codes "right", Right) ∷ (codes "centre", Centre) ∷ []) name

-- with an alignment that is the last word
abbrev pub aligned : ℕ → ℕ → List ℕ → List (List ℕ) → Option TableCell
aligned rows columns name [] = option_map (cell rows columns) (alignment name)
aligned rows columns name (word ∷ words) = None

-- by the words after the rows and the columns
abbrev pub with_alignment : ℕ → ℕ → List (List ℕ) → Option TableCell
with_alignment rows columns [] = Some (cell rows columns Left)
with_alignment rows columns (name ∷ words) = aligned rows columns name words

-- by the words after the rows: a number of columns comes first, if there is one
abbrev pub columns_or_name : ℕ → Option ℕ → List ℕ → List (List ℕ) → Option TableCell
columns_or_name rows None word words = aligned rows 1 word words
columns_or_name rows (Some columns) word words = with_alignment rows columns words

abbrev pub with_columns : ℕ → List (List ℕ) → Option TableCell
with_columns rows [] = Some (cell rows 1 Left)
with_columns rows (word ∷ words) = columns_or_name rows (size_read word) word words

-- by the words after `auto`: a number of rows comes first, if there is one
abbrev pub rows_or_name : Option ℕ → List ℕ → List (List ℕ) → Option TableCell
rows_or_name None word words = aligned 1 1 word words
rows_or_name (Some rows) word words = with_columns rows words

abbrev pub with_rows : List (List ℕ) → Option TableCell
with_rows [] = Some (cell 1 1 Left)
with_rows (word ∷ words) = rows_or_name (size_read word) word words

-- by all words
abbrev pub after_auto : List (List ℕ) → Option TableCell
after_auto [] = None
after_auto (word ∷ words) = if bytes_eq word (codes "auto") then with_rows words else None

abbrev pub cell_read : List ℕ → Option TableCell
cell_read writing = after_auto (words_of writing)
