-- Worked examples, by hand.
use Rattle.column_widths.proofs.Common.{◌≡◌, ℕ, [], ◌∷◌, Some, None, refl, CellNeed, Need, Table, needs_of, widths}

-- a cell by its first column, how many it spans, its longest word and its widest line
abbrev cell : ℕ → ℕ → ℕ → ℕ → CellNeed
cell column span least greatest = record { column = column; span = span; least = least; greatest = greatest }

abbrev need : ℕ → ℕ → Need
need least greatest = record { least = least; greatest = greatest }

-- names, prices and notes of goods, with lines between the columns
abbrev prices : Table
prices = record {
  columns = 3;
  line = 1;
  cells = cell 0 1 4 4 ∷ cell 1 1 5 5 ∷ cell 2 1 5 5 ∷ cell 0 1 6 12 ∷ cell 1 1 4 4 ∷ cell 2 1 8 40 ∷ [];
}

each_column_needs_its_widest_cells : needs_of prices ≡ need 6 12 ∷ need 5 5 ∷ need 8 40 ∷ []
each_column_needs_its_widest_cells = refl

-- 12 + 1 + 5 + 1 + 40
more_room_than_the_table_needs : widths prices 80 ≡ Some (12 ∷ 5 ∷ 40 ∷ [])
more_room_than_the_table_needs = refl

-- 40 less two lines and 19 leaves 19, half of what the columns can use: 6 / 2 and 32 / 2
half_of_what_the_columns_can_use : widths prices 40 ≡ Some (9 ∷ 5 ∷ 24 ∷ [])
half_of_what_the_columns_can_use = refl

-- 20 are left: 3 and 16 are shared, and the widest column gets the last one
the_last_one_is_for_the_widest : widths prices 41 ≡ Some (9 ∷ 5 ∷ 25 ∷ [])
the_last_one_is_for_the_widest = refl

just_the_longest_words : widths prices 21 ≡ Some (6 ∷ 5 ∷ 8 ∷ [])
just_the_longest_words = refl

a_longest_word_does_not_fit : widths prices 20 ≡ None
a_longest_word_does_not_fit = refl

-- a heading over two columns: 5 are missing beside 3, 3 and a line, and then 8 beside 6, 5 and the line
abbrev headed : Table
headed = record { columns = 2; line = 1; cells = cell 0 2 12 20 ∷ cell 0 1 3 4 ∷ cell 1 1 3 4 ∷ [] }

a_heading_is_spread_evenly : needs_of headed ≡ need 6 10 ∷ need 5 9 ∷ []
a_heading_is_spread_evenly = refl

-- 15 beside the line are 4 more than 11, half of the 8 that the columns can use
a_heading_in_little_room : widths headed 16 ≡ Some (8 ∷ 7 ∷ [])
a_heading_in_little_room = refl

-- without a line the heading needs one more of its columns
a_heading_without_a_line : needs_of record headed { line = 0 } ≡ need 6 10 ∷ need 6 10 ∷ []
a_heading_without_a_line = refl

-- two are left over: the widest column comes first, then the first of equal ones
abbrev alike : Table
alike = record { columns = 3; line = 0; cells = cell 0 1 1 4 ∷ cell 1 1 1 5 ∷ cell 2 1 1 4 ∷ [] }

equal_needs_go_by_place : widths alike 5 ≡ Some (2 ∷ 2 ∷ 1 ∷ [])
equal_needs_go_by_place = refl

no_columns_fit_any_room : widths record { columns = 0; line = 1; cells = [] } 0 ≡ Some []
no_columns_fit_any_room = refl

a_column_without_cells_is_one_wide : widths record { columns = 2; line = 1; cells = [] } 9 ≡ Some (1 ∷ 1 ∷ [])
a_column_without_cells_is_one_wide = refl
