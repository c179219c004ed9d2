-- The widths of a table's columns.
use Rattle.std.specs.Prelude.{ℕ, ◌+◌, ◌-◌, ◌*◌, ◌/◌, ◌^◌, ◌==◌, nat_lt, nat_le, Bool, ◌&&◌, ◌||◌, if◌then◌else◌, Option, Some, None, List, map, count_by, sum_by}
use Rattle.std.specs.List.{enumerate_from}
use Rattle.column_widths.specs.declared.need.Need.{Need}
use Rattle.column_widths.specs.declared.room.Room.{Room}
use Rattle.column_widths.specs.declared.need.Bound.TheVariants.{Least, Greatest}
use Rattle.column_widths.specs.Table.{Table}
use Rattle.column_widths.specs.Needs.{width_of, needs_of}

-- how many columns of text a column can use beyond what it needs at least
abbrev pub slack : Need → ℕ
slack n = n.greatest - n.least

-- whether a column, given by its place and its need, comes before another: the wider need first, by what it needs at
-- most, then by what it needs at least, then by its place
abbrev pub comes_before : ℕ × Need → ℕ × Need → Bool
comes_before (i, m) (j, n) =
    nat_lt n.greatest m.greatest
    || ((n.greatest == m.greatest) && (nat_lt n.least m.least || ((n.least == m.least) && nat_lt i j)))

-- whether another column can be wider, and comes before this one
abbrev pub is_ahead : ℕ × Need → ℕ × Need → Bool
is_ahead p q = nat_lt 0 (slack q.1) && comes_before q p

-- how many of the columns that can be wider come before this one
abbrev pub rank : List (ℕ × Need) → ℕ × Need → ℕ
rank columns p = count_by (is_ahead p) columns

-- a column's share of what is left beside the least widths, by its part in all the slack
abbrev pub share : ℕ → ℕ → Need → ℕ
share extra all n = extra * slack n / all

-- whether a column gets one of so many that are left over after the shares
abbrev pub gets_one : ℕ → List (ℕ × Need) → ℕ × Need → Bool
gets_one left columns p = nat_lt 0 (slack p.1) && nat_lt (rank columns p) left

-- the width of a column: what it needs at least, its share, and maybe one of those left over
abbrev pub width_at : ℕ → ℕ → ℕ → List (ℕ × Need) → ℕ × Need → ℕ
width_at extra all left columns p =
    p.1.least + share extra all p.1 + (if gets_one left columns p then 1 else 0)

-- the widths, where so much is left beside the least widths, and less than all the slack
abbrev pub shared : ℕ → List Need → List ℕ
shared extra ns =
    let all = sum_by slack ns in
    let left = extra - sum_by (share extra all) ns in
    let columns = enumerate_from 0 ns in
    map (width_at extra all left columns) columns

-- the widths in so much room beside the lines, or nothing where the least widths don't fit
abbrev pub widths_beside_lines : ℕ → List Need → Option (List ℕ)
widths_beside_lines room ns =
    let least = sum_by (width_of Least) ns in
    if nat_lt room least then None
    else if nat_le (sum_by (width_of Greatest) ns) room then Some (map (width_of Greatest) ns)
    else Some (shared (room - least) ns)

-- the columns of text that the lines between the columns take
abbrev pub lines_of : Table → ℕ
lines_of t = t.line * (t.columns - 1)

-- the widths of the columns in so much room, or nothing where the least widths and the lines don't fit
abbrev pub widths : Table → ℕ → Option (List ℕ)
widths t room = if nat_lt room (lines_of t) then None else widths_beside_lines (room - lines_of t) (needs_of t)

-- ---- the room that columns need

-- what lines and columns take together, or nothing where that passes `usize`
abbrev pub held : ℕ → ℕ → Option ℕ
held lines total = if nat_lt (lines + total) (2 ^ 64) then Some (lines + total) else None

-- the least and the greatest of two sums, where both are held
abbrev pub room_by : Option ℕ → Option ℕ → Option Room
room_by None greatest = None
room_by (Some least) None = None
room_by (Some least) (Some greatest) = Some record { least = least; greatest = greatest }

-- the room that columns with these needs take beside lines, or nothing where it passes `usize`
abbrev pub room_beside : ℕ → List Need → Option Room
room_beside lines ns = room_by (held lines (sum_by (width_of Least) ns)) (held lines (sum_by (width_of Greatest) ns))

-- the room that a table needs, lines included, or nothing where it passes `usize`
abbrev pub needed_room : Table → Option Room
needed_room t = room_beside (lines_of t) (needs_of t)
