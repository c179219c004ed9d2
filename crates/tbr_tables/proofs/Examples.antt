-- Worked examples, by hand.
use Rattle.std.proofs.Common.{◌≡◌, ℕ, Option, Some, List, [], ◌∷◌, ◌++◌, refl, map}
use Rattle.std.specs.Prelude.{codes}
use Rattle.tbr_tagged.specs.declared.CellAlign.TheVariants.{Left, Right}
use Rattle.tbr_tables.specs.declared.step.Step.{Step}
use Rattle.tbr_tables.specs.declared.step.Step.TheVariants as step
use Rattle.tbr_tables.specs.declared.drawn.Call.{Call}
use Rattle.tbr_tables.specs.declared.drawn.Call.TheVariants.{Given, StartTable, Border, Sub, Append, Cell, EndCell, Row, VerticalRow, EndBlock}
use Rattle.tbr_tables.specs.declared.drawn.Drawn.{Drawn}
use Rattle.tbr_tables.specs.Recorded.{recorded, calls_in}

-- each character takes a column, and lines take any number of columns
abbrev narrow : ℕ → Option ℕ
narrow c = Some 1

abbrev Told : Type 0
Told = Step × List ℕ

abbrev bare : Step → Told
bare s = (s, [])

-- a cell that spans so many rows and columns, with a text
abbrev cell : ℕ → ℕ → List ℕ → List Told
cell rows columns text =
    bare (step.Cell record { columns = columns; rows = rows; align = Left }) ∷ (step.Text, text) ∷ bare step.EndCell ∷ []

abbrev table : List Told → List Told
table inside = bare step.Table ∷ inside ++ bare step.EndTable ∷ []

abbrev row : List Told → List Told
row cells = cells ++ bare step.Row ∷ []

-- what is drawn in so much room, without the places of the steps
abbrev drawn_in : ℕ → List Told → List Call
drawn_in room steps = map (λ (d : Drawn). d.call) (calls_in room (recorded narrow 80 steps))

-- a cell that is drawn with a text, and an empty one
abbrev wide : ℕ → ℕ → List Call
wide width rows = Cell record { width = width; rows = rows; align = Left } ∷ Given ∷ EndCell ∷ []

abbrev empty : ℕ → List Call
empty width = Cell record { width = width; rows = 1; align = Left } ∷ EndCell ∷ []

-- ---- two rows of two cells

abbrev goods : List Told
goods = table (row (cell 1 1 (codes "Bread") ++ cell 1 1 (codes "two")) ++ row (cell 1 1 (codes "Milk") ++ cell 1 1 (codes "one from the farm")))

-- the widest lines have 5 and 17 columns
in_much_room : drawn_in 40 goods
    ≡ StartTable ∷ Border 23 ∷ wide 5 1 ++ wide 17 1 ++ Row ∷ wide 5 1 ++ wide 17 1 ++ Row ∷ EndBlock ∷ []
in_much_room = refl

-- the longest words have 5 and 4 columns, and the second column gets what is left beside the line
in_less_room : drawn_in 14 goods
    ≡ StartTable ∷ Border 14 ∷ wide 5 1 ++ wide 8 1 ++ Row ∷ wide 5 1 ++ wide 8 1 ++ Row ∷ EndBlock ∷ []
in_less_room = refl

-- 9 columns don't hold the longest words and the line
below_one_another : drawn_in 9 goods
    ≡ StartTable ∷ Border 9 ∷ wide 9 1 ++ wide 9 1 ++ VerticalRow ∷ wide 9 1 ++ wide 9 1 ++ VerticalRow ∷ EndBlock ∷ []
below_one_another = refl

-- ---- a cell of two columns

-- beside 3, 3 and the line between them 2 of its 9 columns are missing, one for each column
a_heading : drawn_in 40 (table (row (cell 1 2 (codes "Timetable")) ++ row (cell 1 1 (codes "one") ++ cell 1 1 (codes "two"))))
    ≡ StartTable ∷ Border 9 ∷ wide 9 1 ++ Row ∷ wide 4 1 ++ wide 4 1 ++ Row ∷ EndBlock ∷ []
a_heading = refl

-- ---- a cell of two rows

-- it is given again in the second row, empty
two_rows : drawn_in 40 (table (row (cell 2 1 (codes "Mo") ++ cell 1 1 (codes "nine")) ++ row (cell 1 1 (codes "ten"))))
    ≡ StartTable ∷ Border 7 ∷ wide 2 2 ++ wide 4 1 ++ Row ∷ empty 2 ++ wide 4 1 ++ Row ∷ EndBlock ∷ []
two_rows = refl

-- a cell that spans more rows than come takes those that come, and a row that ends too early is filled
what_is_missing : drawn_in 40 (table (row (cell 1 1 (codes "a") ++ cell 9 1 (codes "b")) ++ row (cell 1 1 (codes "c"))))
    ≡ StartTable ∷ Border 3 ∷ wide 1 1 ++ wide 1 2 ++ Row ∷ wide 1 1 ++ empty 1 ++ Row ∷ EndBlock ∷ []
what_is_missing = refl

-- ---- a table in a table

abbrev inner : List Told
inner = table (row (cell 1 1 (codes "ab") ++ cell 1 1 (codes "c")))

-- the table inside takes 4 columns
nested : drawn_in 40 (table (row (cell 1 1 (codes "x") ++ (bare (step.Cell record { columns = 1; rows = 1; align = Left }) ∷ inner ++ bare step.EndCell ∷ []))))
    ≡ StartTable ∷ Border 6 ∷ wide 1 1
    ++ Cell record { width = 4; rows = 1; align = Left } ∷ StartTable ∷ Border 4 ∷ wide 2 1 ++ wide 1 1 ++ Row ∷ EndBlock ∷ EndCell ∷ Row ∷ EndBlock ∷ []
nested = refl

-- in a cell that is moved to the right a further block makes it one text
nested_at_the_right : drawn_in 40 (table (row (bare (step.Cell record { columns = 1; rows = 1; align = Right }) ∷ (step.Text, codes "longer") ∷ inner ++ bare step.EndCell ∷ [])))
    ≡ StartTable ∷ Border 6 ∷ Cell record { width = 6; rows = 1; align = Right } ∷ Given
    ∷ StartTable ∷ Sub 4 ∷ Border 4 ∷ wide 2 1 ++ wide 1 1 ++ Row ∷ Append ∷ EndBlock ∷ EndCell ∷ Row ∷ EndBlock ∷ []
nested_at_the_right = refl

-- ---- words and lines

-- a word ends at a space and at U+200B, not at a no-break space; a block takes its prefix beside its lines
a_quote : drawn_in 40 (table (row (bare (step.Cell record { columns = 1; rows = 1; align = Left }) ∷ bare (step.Inside 2)
    ∷ (step.Text, codes "so it") ∷ bare (step.Append 2) ∷ bare step.EndCell ∷ [])))
    ≡ StartTable ∷ Border 7 ∷ Cell record { width = 7; rows = 1; align = Left } ∷ Sub 5 ∷ Given ∷ Given ∷ EndCell ∷ Row ∷ EndBlock ∷ []
a_quote = refl
