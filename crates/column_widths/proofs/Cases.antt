-- The three cases of the widths.
use Rattle.column_widths.proofs.Common.{◌≡◌, ℕ, ◌-◌, ◌<◌, ◌≤◌, List, map, Some, None, refl, sum_by, lt-ltb, le-ltb, Need, Least, Greatest, Table, width_of, needs_of, widths, widths_beside_lines}
use Rattle.column_widths.proofs.Common.{lines_of, shared}
use Rattle.std.proofs.lemmas.Bool.{le-leb, lt-leb}

-- what columns need at least, and what they need at most
abbrev pub all_least : List Need → ℕ
all_least ns = sum_by (width_of Least) ns

abbrev pub all_greatest : List Need → ℕ
all_greatest ns = sum_by (width_of Greatest) ns

pub widths_of_narrow : (room : ℕ) (ns : List Need) → room < all_least ns → widths_beside_lines room ns ≡ None
widths_of_narrow room ns h = rw (lt-ltb room (all_least ns) h) refl

pub widths_of_roomy : (room : ℕ) (ns : List Need) → all_least ns ≤ room → all_greatest ns ≤ room →
    widths_beside_lines room ns ≡ Some (map (width_of Greatest) ns)
widths_of_roomy room ns h k = rw (le-ltb room (all_least ns) h, le-leb (all_greatest ns) room k) refl

pub widths_between : (room : ℕ) (ns : List Need) → all_least ns ≤ room → room < all_greatest ns →
    widths_beside_lines room ns ≡ Some (shared (room - all_least ns) ns)
widths_between room ns h k = rw (le-ltb room (all_least ns) h, lt-leb (all_greatest ns) room k) refl

-- the widths as the program finds them
pub widths_is : (t : Table) (room beside : ℕ) (ns : List Need) → ns ≡ needs_of t → lines_of t ≤ room →
    beside ≡ room - lines_of t → widths_beside_lines beside ns ≡ widths t room
widths_is t room beside ns same fits is_beside = rw (le-ltb room (lines_of t) fits, is_beside, same) refl
