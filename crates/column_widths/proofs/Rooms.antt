-- Cells have room for their longest words.
use Rattle.column_widths.proofs.Common.{◌≡◌, ℕ, ◌+◌, ◌-◌, ◌*◌, ◌/◌, ◌%◌, ◌<◌, ◌≤◌, min, Bool, true, false, cond, not, eqb, List, [], ◌∷◌, ◌++◌, length, get_or, take, drop, map, zero, suc, inl, inr}
use Rattle.column_widths.proofs.Common.{refl, sym, ap, subst, ◌∙◌, ⊎_elim, arith, replicate, sum, sum_by, fold, filter, AllZip, All, Each, sum_by-cons, CellNeed, Need, Bound, Least, Greatest, Table}
use Rattle.column_widths.proofs.Common.{IsWithin, width_of, widened, missing, spread, filled, after_cell, needs_of, is_of, unspanned, IsWithinNeed, HasRoom}
use Rattle.std.proofs.Common.{length-drop}
use Rattle.std.proofs.lemmas.List.{take_at, drop_at, take-append-drop, length-take-le, length-replicate}
use Rattle.std.proofs.lemmas.Bool.{eqb-true}
use Rattle.std.proofs.lemmas.Nat.{div-add-mod'}
use Rattle.std.proofs.Math.Nat.{mod-lt}
use Rattle.column_widths.specs.Needs.{spanned_after}
use Rattle.column_widths.specs.Laws.{asked_by}
use Rattle.column_widths.proofs.Counting.{IsIn}

-- lists side by side, cut at the same place
zip_take : {A B : Type 0} (R : A → B → Type 0) (i : ℕ) (xs : List A) (ys : List B) → AllZip R xs ys → AllZip R (take i xs) (take i ys)
zip_take R zero xs ys h = tt
zip_take R (suc i) [] [] h = tt
zip_take R (suc i) [] (y ∷ ys) h = absurd h
zip_take R (suc i) (x ∷ xs) [] h = absurd h
zip_take R (suc i) (x ∷ xs) (y ∷ ys) h = (h.0, zip_take R i xs ys h.1)

zip_drop : {A B : Type 0} (R : A → B → Type 0) (i : ℕ) (xs : List A) (ys : List B) → AllZip R xs ys → AllZip R (drop i xs) (drop i ys)
zip_drop R zero xs ys h = h
zip_drop R (suc i) [] [] h = tt
zip_drop R (suc i) [] (y ∷ ys) h = absurd h
zip_drop R (suc i) (x ∷ xs) [] h = absurd h
zip_drop R (suc i) (x ∷ xs) (y ∷ ys) h = zip_drop R i xs ys h.1

pub zip_length : {A B : Type 0} (R : A → B → Type 0) (xs : List A) (ys : List B) → AllZip R xs ys → length xs ≡ length ys
zip_length R [] [] h = refl
zip_length R [] (y ∷ ys) h = absurd h
zip_length R (x ∷ xs) [] h = absurd h
zip_length R (x ∷ xs) (y ∷ ys) h = ap suc (zip_length R xs ys h.1)

-- a need that is not below another
abbrev pub IsNoLess : Bound → Need → Need → Type 0
IsNoLess by n m = width_of by n ≤ width_of by m

abbrev pub Grows : Bound → List Need → List Need → Type 0
Grows by ns ms = AllZip (IsNoLess by) ns ms

grows_refl : (by : Bound) (ns : List Need) → Grows by ns ns
grows_refl by [] = tt
grows_refl by (n ∷ ns) = (omega arith, grows_refl by ns)

grows_trans : (by : Bound) (xs ys zs : List Need) → Grows by xs ys → Grows by ys zs → Grows by xs zs
grows_trans by [] [] zs h g = g
grows_trans by [] (y ∷ ys) zs h g = absurd h
grows_trans by (x ∷ xs) [] zs h g = absurd h
grows_trans by (x ∷ xs) (y ∷ ys) [] h g = absurd g
grows_trans by (x ∷ xs) (y ∷ ys) (z ∷ zs) h g = let a = h.0 in let b = g.0 in (omega arith, grows_trans by xs ys zs h.1 g.1)

grows_append : (by : Bound) (xs ys us vs : List Need) → Grows by xs us → Grows by ys vs → Grows by (xs ++ ys) (us ++ vs)
grows_append by [] ys [] vs h g = g
grows_append by [] ys (u ∷ us) vs h g = absurd h
grows_append by (x ∷ xs) ys [] vs h g = absurd h
grows_append by (x ∷ xs) ys (u ∷ us) vs h g = (h.0, grows_append by xs ys us vs h.1 g)

grows_sum : (by : Bound) (ns ms : List Need) → Grows by ns ms → sum_by (width_of by) ns ≤ sum_by (width_of by) ms
grows_sum by [] [] h = omega arith
grows_sum by [] (m ∷ ms) h = absurd h
grows_sum by (n ∷ ns) [] h = absurd h
grows_sum by (n ∷ ns) (m ∷ ms) h =
    let here = h.0 in
    let rest = grows_sum by ns ms h.1 in
    rw (sum_by-cons (width_of by) n ns, sum_by-cons (width_of by) m ms) (omega arith)

widened_grows : (by bound : Bound) (more : ℕ) (n : Need) → IsNoLess by n (widened bound more n)
widened_grows Least Least more n = omega arith
widened_grows Least Greatest more n = omega arith
widened_grows Greatest Least more n = omega arith
widened_grows Greatest Greatest more n = omega arith

spread_grows : (by : Bound) (bound : Bound) (each rest : ℕ) (ns : List Need) → Grows by ns (spread bound each rest ns)
spread_grows by bound each rest [] = tt
spread_grows by bound each rest (n ∷ ns) = (widened_grows by bound (each + min 1 rest) n, spread_grows by bound each (rest - 1) ns)

filled_grows : (by : Bound) (bound : Bound) (line asked : ℕ) (ns : List Need) → Grows by ns (filled bound line asked ns)
filled_grows by bound line asked ns =
    let lack = missing bound line asked ns in
    elim (eqb lack 0) as (λ b. Grows by ns (cond b ns (spread bound (lack / length ns) (lack % length ns) ns)))
    [ true ↦ grows_refl by ns | false ↦ spread_grows by bound (lack / length ns) (lack % length ns) ns ]

spanned_grows : (by : Bound) (line : ℕ) (c : CellNeed) (ns : List Need) → Grows by ns (spanned_after line c ns)
spanned_grows by line c ns =
    let first = filled Least line c.least ns in
    grows_trans by ns first (filled Greatest line c.greatest first) (filled_grows by Least line c.least ns) (filled_grows by Greatest line c.greatest first)

after_cell_grows : (by : Bound) (line : ℕ) (ns : List Need) (c : CellNeed) → Grows by ns (after_cell line ns c)
after_cell_grows by line ns c =
    let from = drop c.column ns in
    let spanned = take c.span from in
    let front = take c.column ns in
    let behind = drop c.span from in
    let whole : front ++ (spanned ++ behind) ≡ ns = ap (λ xs. front ++ xs) (take-append-drop c.span from) ∙ take-append-drop c.column ns in
    subst (λ (xs : List Need). Grows by xs (after_cell line ns c)) whole
    (grows_append by front (spanned ++ behind) front (spanned_after line c spanned ++ behind) (grows_refl by front)
    (grows_append by spanned behind (spanned_after line c spanned) behind (spanned_grows by line c spanned) (grows_refl by behind)))

cells_grow : (by : Bound) (line : ℕ) (cells : List CellNeed) (ns : List Need) → Grows by ns (fold (after_cell line) ns cells)
cells_grow by line [] ns = grows_refl by ns
cells_grow by line (c ∷ cells) ns =
    grows_trans by ns (after_cell line ns c) _ (after_cell_grows by line ns c) (cells_grow by line cells (after_cell line ns c))

-- what is spread over columns is all there afterwards
widened_by : (by : Bound) (more : ℕ) (n : Need) → width_of by (widened by more n) ≡ width_of by n + more
widened_by Least more n = refl
widened_by Greatest more n = refl

spread_sum : (by : Bound) (each rest : ℕ) (ns : List Need) → rest ≤ length ns →
    sum_by (width_of by) (spread by each rest ns) ≡ sum_by (width_of by) ns + each * length ns + rest
spread_sum by each rest [] h = omega arith
spread_sum by each rest (n ∷ ns) h =
    let later = spread_sum by each (rest - 1) ns (omega arith) in
    let here = widened_by by (each + min 1 rest) n in
    rw (sum_by-cons (width_of by) (widened by (each + min 1 rest) n) (spread by each (rest - 1) ns), sum_by-cons (width_of by) n ns)
    (omega (arith, here, later))

filled_enough : (by : Bound) (line asked : ℕ) (ns : List Need) → 1 ≤ length ns →
    asked ≤ sum_by (width_of by) (filled by line asked ns) + line * (length ns - 1)
filled_enough by line asked ns some =
    let lack = missing by line asked ns in
    let count = length ns in
    let parts = div-add-mod' lack count in
    let few = mod-lt lack {m = count} some in
    let sums = spread_sum by (lack / count) (lack % count) ns (omega arith) in
    let go : (b : Bool) → eqb lack 0 ≡ b → asked ≤ sum_by (width_of by) (cond b ns (spread by (lack / count) (lack % count) ns)) + line * (count - 1) = λ b.
    elim b as (λ v. eqb lack 0 ≡ v → asked ≤ sum_by (width_of by) (cond v ns (spread by (lack / count) (lack % count) ns)) + line * (count - 1))
    [ true ↦ λ h. let none = eqb-true lack 0 h in omega arith | false ↦ λ h. omega arith ] in
    go (eqb lack 0) refl

-- the columns of a cell, and the lines between them, are as wide as it asks
abbrev pub Met : Bound → ℕ → List Need → CellNeed → Type 0
Met by line ns c = asked_by by c ≤ sum_by (width_of by) (take c.span (drop c.column ns)) + line * (c.span - 1)

-- so are the columns that it spans after it
spanned_enough : (by : Bound) (line : ℕ) (c : CellNeed) (ns : List Need) → 1 ≤ length ns →
    asked_by by c ≤ sum_by (width_of by) (spanned_after line c ns) + line * (length ns - 1)
spanned_enough Least line c ns some =
    let first = filled Least line c.least ns in
    let enough = filled_enough Least line c.least ns some in
    let more = grows_sum Least first (spanned_after line c ns) (filled_grows Least Greatest line c.greatest first) in omega arith
spanned_enough Greatest line c ns some =
    let first = filled Least line c.least ns in
    let same = zip_length (IsNoLess Least) ns first (filled_grows Least Least line c.least ns) in
    let enough = filled_enough Greatest line c.greatest first (omega arith) in
    let lines : line * (length first - 1) ≡ line * (length ns - 1) = ap (λ n. line * (n - 1)) (sym same) in omega arith

met_grows : (by : Bound) (line : ℕ) (ns ms : List Need) (c : CellNeed) → Grows by ns ms → Met by line ns c → Met by line ms c
met_grows by line ns ms c h met =
    let more = grows_sum by _ _ (zip_take (IsNoLess by) c.span _ _ (zip_drop (IsNoLess by) c.column ns ms h)) in omega arith

after_cell_met : (by : Bound) (line : ℕ) (ns : List Need) (c : CellNeed) → IsWithin (length ns) c → Met by line (after_cell line ns c) c
after_cell_met by line ns c within =
    let from = drop c.column ns in
    let spanned = take c.span from in
    let front = take c.column ns in
    let least = within.0 in
    let most = within.1 in
    let long : length spanned ≡ c.span = length-take-le c.span from (rw length-drop (omega arith)) in
    let after = spanned_after line c spanned in
    let same : length after ≡ c.span = sym (zip_length (IsNoLess by) spanned after (spanned_grows by line c spanned)) ∙ long in
    let at_front : drop c.column (after_cell line ns c) ≡ after ++ drop c.span from = drop_at front (after ++ drop c.span from) c.column (length-take-le c.column ns (omega arith)) in
    let enough = spanned_enough by line c spanned (omega arith) in
    let lines : line * (length spanned - 1) ≡ line * (c.span - 1) = ap (λ n. line * (n - 1)) long in
    let is_met : asked_by by c ≤ sum_by (width_of by) after + line * (c.span - 1) = omega arith in
    rw (at_front, take_at after (drop c.span from) c.span same) is_met

cells_met : (by : Bound) (line : ℕ) (cells : List CellNeed) (ns : List Need) →
    ((c : CellNeed) → IsIn c cells → IsWithin (length ns) c) →
    (c : CellNeed) → IsIn c cells → Met by line (fold (after_cell line) ns cells) c
cells_met by line [] ns within c i = absurd i
cells_met by line (d ∷ cells) ns within c (inl e) =
    let next = after_cell line ns d in
    met_grows by line next (fold (after_cell line) next cells) c (cells_grow by line cells next)
    (subst (λ (x : CellNeed). Met by line next x) (sym e) (after_cell_met by line ns d (within d (inl refl))))
cells_met by line (d ∷ cells) ns within c (inr i) =
    let next = after_cell line ns d in
    let same = zip_length (IsNoLess by) ns next (after_cell_grows by line ns d) in
    cells_met by line cells next (λ x k. subst (λ (n : ℕ). IsWithin n x) same (within x (inr k))) c i

in_filter : (p : CellNeed → Bool) (cells : List CellNeed) (c : CellNeed) → IsIn c cells → p c ≡ true → IsIn c (filter p cells)
in_filter p [] c i h = absurd i
in_filter p (d ∷ cells) c (inl e) h = let d_passes : p d ≡ true = sym (ap p e) ∙ h in rw d_passes (inl e)
in_filter p (d ∷ cells) c (inr i) h =
    elim (p d) as (λ b. IsIn c (cond b (d ∷ filter p cells) (filter p cells))) [ true ↦ inr (in_filter p cells c i h) | false ↦ in_filter p cells c i h ]

of_filter : (p : CellNeed → Bool) (cells : List CellNeed) (c : CellNeed) → IsIn c (filter p cells) → IsIn c cells
of_filter p [] c i = i
of_filter p (d ∷ cells) c i =
    let go : (b : Bool) → IsIn c (cond b (d ∷ filter p cells) (filter p cells)) → IsIn c (d ∷ cells) = λ b.
    elim b as (λ v. IsIn c (cond v (d ∷ filter p cells) (filter p cells)) → IsIn c (d ∷ cells))
    [ true ↦ λ k. ⊎_elim (λ e. inl e) (λ j. inr (of_filter p cells c j)) k | false ↦ λ k. inr (of_filter p cells c k) ] in
    go (p d) i

in_at : (cells : List CellNeed) (k : ℕ) (d : CellNeed) → k < length cells → IsIn (get_or cells k d) cells
in_at [] k d h = absurd (omega arith)
in_at (c ∷ cells) zero d h = inl refl
in_at (c ∷ cells) (suc k) d h = inr (in_at cells k d (omega arith))

at_in : (P : CellNeed → Type 0) (cells : List CellNeed) → All P cells → (c : CellNeed) → IsIn c cells → P c
at_in P [] h c i = absurd i
at_in P (d ∷ cells) h c (inl e) = subst P (sym e) (h 0 d (omega arith))
at_in P (d ∷ cells) h c (inr i) = at_in P cells (λ k x l. h (suc k) x (omega arith)) c i

-- every cell of a table has room in what its columns need
needs_met : (by : Bound) (t : Table) → All (IsWithin t.columns) t.cells → (c : CellNeed) → IsIn c t.cells → Met by t.line (needs_of t) c
needs_met by t within c i =
    let start = replicate t.columns unspanned in
    let alone = filter (is_of true) t.cells in
    let others = filter (is_of false) t.cells in
    let first = fold (after_cell t.line) start alone in
    let start_long : length start ≡ t.columns = length-replicate t.columns unspanned in
    let first_long : length first ≡ t.columns = sym (zip_length (IsNoLess by) start first (cells_grow by t.line alone start)) ∙ start_long in
    let each = at_in (IsWithin t.columns) t.cells within in
    let go : (b : Bool) → eqb c.span 1 ≡ b → Met by t.line (needs_of t) c = λ b.
    elim b as (λ v. eqb c.span 1 ≡ v → Met by t.line (needs_of t) c) [
      | true ↦ λ h. met_grows by t.line first (needs_of t) c (cells_grow by t.line others first)
          (cells_met by t.line alone start (λ x k. rw start_long (each x (of_filter (is_of true) t.cells x k))) c (in_filter (is_of true) t.cells c i h))
      | false ↦ λ h. cells_met by t.line others first (λ x k. rw first_long (each x (of_filter (is_of false) t.cells x k))) c
          (in_filter (is_of false) t.cells c i (ap not h))
    ] in
    go (eqb c.span 1) refl

-- as many needs as columns
pub needs_length : (t : Table) → length (needs_of t) ≡ t.columns
needs_length t =
    let start = replicate t.columns unspanned in
    let first = fold (after_cell t.line) start (filter (is_of true) t.cells) in
    sym (zip_length (IsNoLess Least) first (needs_of t) (cells_grow Least t.line (filter (is_of false) t.cells) first))
    ∙ sym (zip_length (IsNoLess Least) start first (cells_grow Least t.line (filter (is_of true) t.cells) start))
    ∙ length-replicate t.columns unspanned

-- no column needs less than one that no cell spans
pub needs_grow : (t : Table) → Grows Least (replicate t.columns unspanned) (needs_of t)
needs_grow t =
    let start = replicate t.columns unspanned in
    let first = fold (after_cell t.line) start (filter (is_of true) t.cells) in
    grows_trans Least start first (needs_of t) (cells_grow Least t.line (filter (is_of true) t.cells) start)
    (cells_grow Least t.line (filter (is_of false) t.cells) first)

-- no width is below what its column needs at least, or at most
abbrev pub IsEnough : Bound → Need → ℕ → Type 0
IsEnough by n width = width_of by n ≤ width

-- widths that are enough have no smaller sum
enough_sum : (by : Bound) (ns : List Need) (ws : List ℕ) → AllZip (IsEnough by) ns ws → sum_by (width_of by) ns ≤ sum ws
enough_sum by [] [] h = omega arith
enough_sum by [] (w ∷ ws) h = absurd h
enough_sum by (n ∷ ns) [] h = absurd h
enough_sum by (n ∷ ns) (w ∷ ws) h =
    let here = h.0 in
    let rest = enough_sum by ns ws h.1 in
    rw (sum_by-cons (width_of by) n ns, sum_by-cons (λ x. x) w ws) (omega arith)

-- widths that are enough have room for every cell
pub widths_met : (by : Bound) (t : Table) (ws : List ℕ) → All (IsWithin t.columns) t.cells →
    AllZip (IsEnough by) (needs_of t) ws → All (HasRoom by t.line ws) t.cells
widths_met by t ws within h k d l =
    let c = get_or t.cells k d in
    let met = needs_met by t within c (in_at t.cells k d l) in
    let wide = enough_sum by _ _ (zip_take (IsEnough by) c.span _ _ (zip_drop (IsEnough by) c.column (needs_of t) ws h)) in
    let span : c.column + c.span - c.column ≡ c.span = omega arith in
    rw span (omega (arith, met, wide))

-- widths within the needs are enough for the longest words
pub within_enough : (ns : List Need) (ws : List ℕ) → AllZip IsWithinNeed ns ws → AllZip (IsEnough Least) ns ws
within_enough [] [] h = tt
within_enough [] (w ∷ ws) h = absurd h
within_enough (n ∷ ns) [] h = absurd h
within_enough (n ∷ ns) (w ∷ ws) h = (h.0.0, within_enough ns ws h.1)

pub greatest_enough : (ns : List Need) → AllZip (IsEnough Greatest) ns (map (width_of Greatest) ns)
greatest_enough [] = tt
greatest_enough (n ∷ ns) = (omega arith, greatest_enough ns)

-- widths that are enough for columns which need one at least are at least one
pub each_seen : (k : ℕ) (ns : List Need) (ws : List ℕ) → Grows Least (replicate k unspanned) ns →
    AllZip (IsEnough Least) ns ws → Each (λ w. 1 ≤ w) ws
each_seen k [] [] g h = tt
each_seen k [] (w ∷ ws) g h = absurd h
each_seen k (n ∷ ns) [] g h = absurd h
each_seen zero (n ∷ ns) (w ∷ ws) g h = absurd g
each_seen (suc k) (n ∷ ns) (w ∷ ws) g h =
    let a = g.0 in let b = h.0 in (omega arith, each_seen k ns ws g.1 h.1)
