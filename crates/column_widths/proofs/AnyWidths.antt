-- The laws of the widths, by the cases that the widths have.
use Rattle.column_widths.proofs.Common.{◌≡◌, ℕ, ◌+◌, ◌-◌, ◌<◌, ◌≤◌, List, length, map, get_or, Some, None, refl, sym, subst, ◌∙◌, ⊎_elim, arith, sum, sum_by, AllZip, All, Each, get_or-map, sum-map}
use Rattle.column_widths.proofs.Common.{cases_lt, lt-ltb, le-ltb, Least, Greatest, Table, IsWithin, width_of, needs_of, unspanned, widths, widths_beside_lines, lines_of, slack, shared, IsWithinNeed}
use Rattle.column_widths.proofs.Common.{HasRoom}
use Rattle.std.proofs.Common.{◌↔◌, Option}
use Rattle.column_widths.specs.Laws.{room_of, need_at}
use Rattle.column_widths.proofs.Cases.{widths_of_narrow, widths_of_roomy, widths_between}
use Rattle.column_widths.proofs.LeftOver.{shared_sum}
use Rattle.column_widths.proofs.Ordered.{needs_ordered}
use Rattle.column_widths.proofs.Rooms.{zip_length, needs_length, needs_grow, each_seen, widths_met, within_enough, greatest_enough, IsEnough}
use Rattle.column_widths.proofs.Shares.{greatest_within}
use Rattle.column_widths.proofs.Within.{shared_within, greatest_within_need, shared_no_less}

-- there are widths only where the least fit: then they are the greatest, or what is shared
pub widths_cases : (t : Table) (room : ℕ) (P : Option (List ℕ) → Type 0) →
    (room < room_of Least t → P None) →
    (room_of Least t ≤ room → room_of Greatest t ≤ room → P (Some (map (width_of Greatest) (needs_of t)))) →
    ((extra : ℕ) → extra + room_of Least t ≡ room → room < room_of Greatest t → extra < sum_by slack (needs_of t) →
    P (Some (shared extra (needs_of t)))) →
    P (widths t room)
widths_cases t room P narrow roomy between =
    let ns = needs_of t in
    let lines = lines_of t in
    let least = sum_by (width_of Least) ns in
    let greatest = sum_by (width_of Greatest) ns in
    ⊎_elim
    (λ (less : room < lines).
    let none : None ≡ widths t room = sym (rw (lt-ltb room lines less) refl) in subst P none (narrow (omega arith)))
    (λ (fits : lines ≤ room).
    let beside : widths_beside_lines (room - lines) ns ≡ widths t room = sym (rw (le-ltb room lines fits) refl) in
    ⊎_elim
    (λ (less : room - lines < least).
    subst P (sym (widths_of_narrow (room - lines) ns less) ∙ beside) (narrow (omega arith)))
    (λ (enough : least ≤ room - lines). ⊎_elim
    (λ (less : room - lines < greatest).
    let in_slack : room - lines - least < sum_by slack ns = omega (arith, greatest_within ns) in
    subst P (sym (widths_between (room - lines) ns enough less) ∙ beside)
    (between (room - lines - least) (omega arith) (omega arith) in_slack))
    (λ (all : greatest ≤ room - lines).
    subst P (sym (widths_of_roomy (room - lines) ns enough all) ∙ beside) (roomy (omega arith) (omega arith)))
    (cases_lt (room - lines) greatest))
    (cases_lt (room - lines) least))
    (cases_lt room lines)

none_where_narrow : (t : Table) (room : ℕ) → widths t room ≡ None → room < room_of Least t
none_where_narrow t room =
    widths_cases t room (λ o. o ≡ None → room < room_of Least t)
    (λ h e. h) (λ h g e. absurd (cc)) (λ extra h g l e. absurd (cc))

narrow_gives_none : (t : Table) (room : ℕ) → room < room_of Least t → widths t room ≡ None
narrow_gives_none t room h =
    widths_cases t room (λ o. o ≡ None) (λ g. refl) (λ g k. absurd (omega arith)) (λ extra g k l. absurd (omega arith))

pub least_decides : (t : Table) (room : ℕ) → (widths t room ≡ None) ↔ (room < room_of Least t)
least_decides t room = (none_where_narrow t room, narrow_gives_none t room)

some_same : (xs ys : List ℕ) → Some xs ≡ Some ys → xs ≡ ys
some_same xs ys e = cc

none_is_not : (ws : List ℕ) → None ≡ Some ws → ⊥
none_is_not ws e = cc

-- what holds of the greatest widths, and of what is shared, holds of any widths
pub of_widths : (t : Table) (room : ℕ) (ws : List ℕ) (P : List ℕ → Type 0) → widths t room ≡ Some ws →
    (room_of Least t ≤ room → room_of Greatest t ≤ room → P (map (width_of Greatest) (needs_of t))) →
    ((extra : ℕ) → extra + room_of Least t ≡ room → room < room_of Greatest t → extra < sum_by slack (needs_of t) →
    P (shared extra (needs_of t))) →
    P ws
of_widths t room ws P e roomy between =
    widths_cases t room (λ o. o ≡ Some ws → P ws)
    (λ h k. absurd (none_is_not ws k))
    (λ h g k. subst P (some_same _ ws k) (roomy h g))
    (λ extra h g l k. subst P (some_same _ ws k) (between extra h g l))
    e

pub take_all : (t : Table) (room : ℕ) (ws : List ℕ) → widths t room ≡ Some ws → room ≤ room_of Greatest t → sum ws + lines_of t ≡ room
take_all t room ws e most =
    of_widths t room ws (λ xs. sum xs + lines_of t ≡ room) e
    (λ h g. omega (arith, sum-map (width_of Greatest) (needs_of t)))
    (λ extra h g l. omega (arith, shared_sum extra (needs_of t) l))

pub take_enough : (t : Table) (room : ℕ) (ws : List ℕ) → widths t room ≡ Some ws → room_of Greatest t ≤ room → sum ws + lines_of t ≡ room_of Greatest t
take_enough t room ws e least =
    of_widths t room ws (λ xs. sum xs + lines_of t ≡ room_of Greatest t) e
    (λ h g. omega (arith, sum-map (width_of Greatest) (needs_of t)))
    (λ extra h g l. absurd (omega arith))

pub all_within : (t : Table) (room : ℕ) (ws : List ℕ) → widths t room ≡ Some ws → AllZip IsWithinNeed (needs_of t) ws
all_within t room ws e =
    of_widths t room ws (λ xs. AllZip IsWithinNeed (needs_of t) xs) e
    (λ h g. greatest_within_need (needs_of t) (needs_ordered t))
    (λ extra h g l. shared_within extra (needs_of t) l (needs_ordered t))

pub one_each : (t : Table) (room : ℕ) (ws : List ℕ) → widths t room ≡ Some ws → length ws ≡ t.columns
one_each t room ws e = sym (zip_length IsWithinNeed (needs_of t) ws (all_within t room ws e)) ∙ needs_length t

pub words_fit : (t : Table) (room : ℕ) (ws : List ℕ) → All (IsWithin t.columns) t.cells → widths t room ≡ Some ws →
    All (HasRoom Least t.line ws) t.cells
words_fit t room ws within e =
    widths_met Least t ws within (within_enough (needs_of t) ws (all_within t room ws e))

pub lines_fit : (t : Table) (room : ℕ) (ws : List ℕ) → All (IsWithin t.columns) t.cells → widths t room ≡ Some ws →
    room_of Greatest t ≤ room → All (HasRoom Greatest t.line ws) t.cells
lines_fit t room ws within e enough =
    widths_met Greatest t ws within
    (of_widths t room ws (λ xs. AllZip (IsEnough Greatest) (needs_of t) xs) e
    (λ h g. greatest_enough (needs_of t)) (λ extra h g l. absurd (omega arith)))

pub no_less : (t : Table) (room : ℕ) (ws : List ℕ) (i j : ℕ) → widths t room ≡ Some ws → i < t.columns → j < t.columns →
    need_at Least t i ≤ need_at Least t j → need_at Greatest t i < need_at Greatest t j →
    get_or ws i 0 ≤ get_or ws j 0
no_less t room ws i j e h g least greatest =
    let ns = needs_of t in
    let long = needs_length t in
    let i_in : i < length ns = rw long h in
    let j_in : j < length ns = rw long g in
    let least_i = get_or-map (width_of Least) ns i unspanned 0 i_in in
    let least_j = get_or-map (width_of Least) ns j unspanned 0 j_in in
    let most_i = get_or-map (width_of Greatest) ns i unspanned 0 i_in in
    let most_j = get_or-map (width_of Greatest) ns j unspanned 0 j_in in
    of_widths t room ws (λ xs. get_or xs i 0 ≤ get_or xs j 0) e
    (λ a b. omega (arith, greatest))
    (λ extra a b l. shared_no_less extra ns i j unspanned l i_in j_in (omega arith) (omega arith))

-- no column is narrower than 1
pub columns_seen : (t : Table) (room : ℕ) (ws : List ℕ) → widths t room ≡ Some ws → Each (λ w. 1 ≤ w) ws
columns_seen t room ws h =
    each_seen t.columns (needs_of t) ws (needs_grow t) (within_enough (needs_of t) ws (all_within t room ws h))
