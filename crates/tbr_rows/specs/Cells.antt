-- The cells of a row, and where they are.
use Rattle.std.specs.Prelude.{◌≡◌, ℕ, ◌+◌, ◌-◌, ◌/◌, ◌≤◌, nat_lt, nat_le, ◌==◌, ◌&&◌, ◌||◌, not, Bool, true, false, ⊤, if◌then◌else◌, Option, None, Some, is_none, List, [], ◌∷◌, ◌++◌, fold}
use Rattle.std.specs.Prelude.{length, drop, get_or, map, take, option_map}
use Rattle.std.specs.List.{list_all, list_any}
use Rattle.tbr_border.specs.declared.render_line.RenderLine.{RenderLine}
use Rattle.tbr_rows.specs.declared.line_set.LineSet.{LineSet as Cell}

-- the first line, if there is one
abbrev pub first_line : {A : Type 0} → List (RenderLine A) → Option (RenderLine A)
first_line [] = None
first_line (l ∷ ls) = Some l

-- a cell of one row in which nothing is, by its place and width
abbrev pub empty_cell : {A : Type 0} → ℕ → ℕ → Cell A
empty_cell place width = record { place = place; width = width; span = 1; lines = [] }

-- where a cell begins, and what it has still to show
abbrev pub place_of : {A : Type 0} → Cell A → ℕ
place_of c = c.place

abbrev pub lines_of : {A : Type 0} → Cell A → List (RenderLine A)
lines_of c = c.lines

-- whether a cell has lines that it has still to show
abbrev pub has_lines : {A : Type 0} → Cell A → Bool
has_lines c = not (length c.lines == 0)

-- the column after a cell, where a separator is
abbrev pub end_of : {A : Type 0} → Cell A → ℕ
end_of c = c.place + c.width

-- how many columns cells side by side take
abbrev pub row_width : {A : Type 0} → List (Cell A) → ℕ
row_width [] = 0
row_width (c ∷ []) = end_of c
row_width (c ∷ d ∷ cs) = row_width (d ∷ cs)

-- the place of a cell after these
abbrev pub next_place : {A : Type 0} → List (Cell A) → ℕ
next_place [] = 0
next_place (c ∷ cs) = row_width (c ∷ cs) + 1

-- the columns of the separators: after each cell but the last
abbrev pub separators : {A : Type 0} → List (Cell A) → List ℕ
separators cs = map end_of (take (length cs - 1) cs)

-- how many lines a cell asks of its row
abbrev pub cell_height : {A : Type 0} → Cell A → ℕ
cell_height c = if nat_le c.span 1 then length c.lines else length c.lines / c.span

-- From a column on, each cell comes after the one before it and a separator.
abbrev pub AreSideBySide : {A : Type 0} → ℕ → List (Cell A) → Type 0
AreSideBySide at [] = ⊤
AreSideBySide at (c ∷ cs) = (c.place ≡ at) × AreSideBySide (end_of c + 1) cs

-- From a column on, there is a column at least between two cells.
abbrev pub AreApart : {A : Type 0} → ℕ → List (Cell A) → Type 0
AreApart at [] = ⊤
AreApart at (c ∷ cs) = (at ≤ c.place) × AreApart (end_of c + 1) cs

-- ---- overhanging cells take their places

-- Cells in their places, and overhanging ones that wait for theirs.
pub record Seating (A : Type 0) : Type 0 where
  pub seated : List (Cell A)
  pub waiting : List (Cell A)

-- whether the first of these cells is at a place
abbrev pub stands_first : {A : Type 0} → List (Cell A) → ℕ → Bool
stands_first [] place = false
stands_first (h ∷ hs) place = h.place == place

-- The place of a row's cell is taken by the first overhanging one, if that is there.
abbrev pub taker : {A : Type 0} → List (Cell A) → Cell A → Cell A
taker hanging c = if stands_first hanging c.place then get_or hanging 0 c else c

-- the overhanging cells without the first, if that takes the place of a row's cell
abbrev pub still_waiting : {A : Type 0} → List (Cell A) → Cell A → List (Cell A)
still_waiting hanging c = if stands_first hanging c.place then drop 1 hanging else hanging

-- a cell of the row more, or the overhanging one that takes its place
abbrev pub seat : {A : Type 0} → Seating A → Cell A → Seating A
seat s c = record { seated = s.seated ++ taker s.waiting c ∷ []; waiting = still_waiting s.waiting c }

-- an overhanging cell after others, with an empty one between where columns are free
abbrev pub append_cell : {A : Type 0} → List (Cell A) → Cell A → List (Cell A)
append_cell cs h =
    (if nat_lt (next_place cs) h.place then cs ++ empty_cell (next_place cs) (h.place - next_place cs - 1) ∷ [] else cs)
    ++ h ∷ []

abbrev pub append_all : {A : Type 0} → List (Cell A) → List (Cell A) → List (Cell A)
append_all cs hanging = fold append_cell cs hanging

-- the cells of a row, among which overhanging ones have taken their places
abbrev pub seated : {A : Type 0} → List (Cell A) → List (Cell A) → List (Cell A)
seated hanging cells =
    let s = fold seat (record { seated = []; waiting = hanging }) cells in
    append_all s.seated s.waiting

-- ---- whether they can

-- Where a cell of the row is, and whether nothing is in it.
pub record Spot : Type 0 where
  pub place : ℕ
  pub width : ℕ
  pub is_blank : Bool

-- a cell is where another one would be, as wide, and nothing is in it
abbrev pub is_left_for : {A : Type 0} → Cell A → Spot → Bool
is_left_for h s = (h.place == s.place) && ((h.width == s.width) && s.is_blank)

-- a cell ends before the separator that comes before another one
abbrev pub ends_before : {A : Type 0} → Cell A → Spot → Bool
ends_before h s = nat_le (s.place + s.width + 1) h.place

-- For each overhanging cell either one of the row is left for it, or all of them end before it.
abbrev pub row_fits : {A : Type 0} → List (Cell A) → List Spot → Bool
row_fits hanging spots = list_all (λ h. list_any (is_left_for h) spots || list_all (ends_before h) spots) hanging

-- where a cell is, and whether nothing is in it
abbrev pub spot_of : {A : Type 0} → Cell A → Spot
spot_of c = record { place = c.place; width = c.width; is_blank = is_none (first_line c.lines) }

-- a cell's width, and whether nothing is in it
abbrev pub look : {A : Type 0} → Cell A → ℕ × Bool
look c = (c.width, is_none (first_line c.lines))

-- the same place, and nothing in it where nothing is in the other one
abbrev pub IsAsFree : Spot → Spot → Type 0
IsAsFree s t = (t.place ≡ s.place) × (t.width ≡ s.width) × (s.is_blank ≡ true → t.is_blank ≡ true)

-- where cells of these widths are side by side, from a column on, and whether they are blank
abbrev pub spots_from : ℕ → List (ℕ × Bool) → List Spot
spots_from at [] = []
spots_from at (w ∷ ws) = record { place = at; width = w.0; is_blank = w.1 } ∷ spots_from (at + w.0 + 1) ws

-- Overhanging cells after all others, from a column on, with empty ones between where columns are free.
abbrev pub appended : {A : Type 0} → ℕ → List (Cell A) → List (Cell A)
appended at [] = []
appended at (h ∷ hs) =
    (if nat_lt at h.place then empty_cell at (h.place - at - 1) ∷ [] else []) ++ h ∷ appended (end_of h + 1) hs

-- The cells of a row from a column on, in which each overhanging cell has its place. No cell with lines is lost, no
-- other one moves, and none covers another.
abbrev pub with_hanging : {A : Type 0} → ℕ → List (Cell A) → List (Cell A) → Option (List (Cell A))
with_hanging at hs [] = Some (appended at hs)
with_hanging at [] (c ∷ cs) = Some (c ∷ cs)
with_hanging at (h ∷ hs) (c ∷ cs) =
    if is_left_for h (spot_of c) then option_map (λ r. h ∷ r) (with_hanging (end_of h + 1) hs cs)
    else if ends_before h (spot_of c) then option_map (λ r. c ∷ r) (with_hanging (end_of c + 1) (h ∷ hs) cs)
    else None
