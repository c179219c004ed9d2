-- Cells that are changed, stretched and joined.
use Rattle.tbr_border.proofs.Common.{one_more_at, lt-ltb, ◌≡◌, ℕ, zero, suc, ◌+◌, ◌-◌, ◌<◌, ◌≤◌, Bool, true, false, List, [], ◌∷◌, ◌++◌, map, length, get_or, take, drop, drop-cons, refl, ap, sym, ◌∙◌}
use Rattle.tbr_border.proofs.Common.{arith, append_assoc, append-nil, replicate, take_all, take-append-drop, map-append, length-map, Cell, slash, arms, joined, joins_end, joined_under}
use Rattle.tbr_border.proofs.BorderText.{map-copies}
use Rattle.std.proofs.lemmas.Bool.{or_left, or_right, or_parts}
use Rattle.std.proofs.Common.{max, cond, ◌||◌, set, length-append, nat_lt}
use Rattle.std.proofs.lemmas.List.{length-take-le, length-replicate, replicate-append-replicate}
use Rattle.tbr_border.specs.Cell.{horizontal, Side, above, below, merges}
use Rattle.tbr_border.specs.Border.{stretched, changed_at, joined_at, any_joins}

-- ---- one cell

pub joined_twice : (side : Side) (c : Cell) → joined side (joined side c) ≡ joined side c
joined_twice side slash = refl
joined_twice above (arms l r u d) = refl
joined_twice below (arms l r u d) = refl

pub joined_both : (side other : Side) (c : Cell) → joined side (joined other c) ≡ joined other (joined side c)
joined_both side other slash = refl
joined_both above above (arms l r u d) = refl
joined_both above below (arms l r u d) = refl
joined_both below above (arms l r u d) = refl
joined_both below below (arms l r u d) = refl

-- ---- changes

pub set_changed : {X : Type 0} (cell : X → Cell) (f : Cell → Cell) (xs : List X) (i : ℕ) (d y : X) → i < length xs →
    cell y ≡ f (cell (get_or xs i d)) → map cell (set xs i y) ≡ changed_at f i (map cell xs)
set_changed cell f [] i d y h e = absurd (omega arith)
set_changed cell f (x ∷ xs) zero d y h e = ap (λ c. c ∷ map cell xs) e
set_changed cell f (x ∷ xs) (suc i) d y h e = ap (λ cs. cell x ∷ cs) (set_changed cell f xs i d y (omega arith) e)

pub changed_past : (f : Cell → Cell) (i : ℕ) (cs : List Cell) → length cs ≤ i → changed_at f i cs ≡ cs
changed_past f i [] h = refl
changed_past f zero (c ∷ cs) h = absurd (omega arith)
changed_past f (suc i) (c ∷ cs) h = ap (λ ds. c ∷ ds) (changed_past f i cs (omega arith))

pub length-changed : (f : Cell → Cell) (i : ℕ) (cs : List Cell) → length (changed_at f i cs) ≡ length cs
length-changed f i [] = refl
length-changed f zero (c ∷ cs) = refl
length-changed f (suc i) (c ∷ cs) = omega (arith, length-changed f i cs)

changed-append : (f : Cell → Cell) (i : ℕ) (cs ds : List Cell) → i < length cs → changed_at f i (cs ++ ds) ≡ changed_at f i cs ++ ds
changed-append f i [] ds h = absurd (omega arith)
changed-append f zero (c ∷ cs) ds h = refl
changed-append f (suc i) (c ∷ cs) ds h = ap (λ es. c ∷ es) (changed-append f i cs ds (omega arith))

changed_twice : (f : Cell → Cell) → ((c : Cell) → f (f c) ≡ f c) → (i : ℕ) (cs : List Cell) → changed_at f i (changed_at f i cs) ≡ changed_at f i cs
changed_twice f h i [] = refl
changed_twice f h zero (c ∷ cs) = ap (λ d. d ∷ cs) (h c)
changed_twice f h (suc i) (c ∷ cs) = ap (λ ds. c ∷ ds) (changed_twice f h i cs)

changed_both : (f g : Cell → Cell) → ((c : Cell) → f (g c) ≡ g (f c)) → (i j : ℕ) (cs : List Cell) → changed_at f i (changed_at g j cs) ≡ changed_at g j (changed_at f i cs)
changed_both f g h i j [] = refl
changed_both f g h zero zero (c ∷ cs) = ap (λ d. d ∷ cs) (h c)
changed_both f g h zero (suc j) (c ∷ cs) = refl
changed_both f g h (suc i) zero (c ∷ cs) = refl
changed_both f g h (suc i) (suc j) (c ∷ cs) = ap (λ ds. c ∷ ds) (changed_both f g h i j cs)

-- ---- stretching

pub length-stretched : (n : ℕ) (cs : List Cell) → length (stretched n cs) ≡ max n (length cs)
length-stretched n cs = omega (arith, length-append cs (replicate (n - length cs) horizontal), length-replicate (n - length cs) horizontal)

pub stretched_wide : (n : ℕ) (cs : List Cell) → n ≤ length cs → stretched n cs ≡ cs
stretched_wide n cs h = let none : n - length cs ≡ 0 = omega arith in rw (none, append-nil) refl

stretched_again : (m n : ℕ) (cs : List Cell) → stretched n (stretched m cs) ≡ stretched (max m n) cs
stretched_again m n cs = grind (arith, length-stretched, append_assoc, replicate-append-replicate)

stretched_changed : (f : Cell → Cell) (i n : ℕ) (cs : List Cell) → i < length cs → stretched n (changed_at f i cs) ≡ changed_at f i (stretched n cs)
stretched_changed f i n cs h = rw (length-changed f i cs, changed-append f i cs (replicate (n - length cs) horizontal) h) refl

-- what `resize` gives
pub stretched_items : {X : Type 0} (cell : X → Cell) (xs : List X) (d : X) (n m : ℕ) → cell d ≡ horizontal →
    m ≡ length xs → m ≤ n → map cell (take n xs ++ replicate (n - m) d) ≡ stretched n (map cell xs)
stretched_items cell xs d n m drawn count h = grind (arith, take_all, length-map, map-append, map-copies)

-- ---- joins at places

pub joined_at_twice : (side : Side) (x : ℕ) (cs : List Cell) → joined_at side x (joined_at side x cs) ≡ joined_at side x cs
joined_at_twice side x cs = grind (arith, length-changed, length-stretched, stretched_wide, changed_twice, joined_twice)

joined_at_two : (side other : Side) (x y : ℕ) (cs : List Cell) → joined_at side x (joined_at other y cs) ≡ changed_at (joined side) x (changed_at (joined other) y (stretched (max (y + 1) (x + 1)) cs))
joined_at_two side other x y cs = grind (arith, length-stretched, stretched_changed, stretched_again)

pub joined_at_both : (side other : Side) (x y : ℕ) (cs : List Cell) → joined_at side x (joined_at other y cs) ≡ joined_at other y (joined_at side x cs)
joined_at_both side other x y cs =
    let one : max (y + 1) (x + 1) ≡ max (x + 1) (y + 1) = omega arith in
    rw (joined_at_two side other x y cs, one, changed_both (joined side) (joined other) (joined_both side other) x y (stretched (max (x + 1) (y + 1)) cs)) (sym (joined_at_two other side y x cs))

-- ---- merging

any_push : (side : Side) (os : List Cell) (o : Cell) → any_joins side (os ++ o ∷ []) ≡ (merges side o || any_joins side os)
any_push side [] o = refl
any_push side (p ∷ os) o = rw (any_push side os o) (go (merges side p) (merges side o) (any_joins side os))
  where
    go : (a b c : Bool) → (a || (b || c)) ≡ (b || (a || c))
    go true true c = refl
    go true false c = refl
    go false b c = refl

pub joins_end-push : (side : Side) (os : List Cell) (o : Cell) → joins_end side (os ++ o ∷ []) ≡ cond (merges side o) (length os + 1) (joins_end side os)
joins_end-push side [] o = go (merges side o)
  where
    go : (b : Bool) → cond {A = ℕ} (b || false) 1 0 ≡ cond {A = ℕ} b 1 0
    go true = refl
    go false = refl
joins_end-push side (p ∷ os) o =
    rw (any_push side os o, joins_end-push side os o) (go (merges side p) (merges side o) (any_joins side os))
  where
    go : (a b c : Bool) → cond (a || (b || c)) (suc (cond b (length os + 1) (joins_end side os))) 0 ≡ cond b (length (p ∷ os) + 1) (cond (a || c) (suc (joins_end side os)) 0)
    go true true c = omega arith
    go false true c = omega arith
    go true false c = refl
    go false false true = refl
    go false false false = refl

-- one joins where they end after the beginning
pub any_by_end : (side : Side) (os : List Cell) → any_joins side os ≡ nat_lt 0 (joins_end side os)
any_by_end side [] = refl
any_by_end side (o ∷ os) = go (merges side o || any_joins side os)
  where
    go : (b : Bool) → b ≡ nat_lt 0 (cond b (suc (joins_end side os)) 0)
    go true = sym (lt-ltb 0 (suc (joins_end side os)) (omega arith))
    go false = refl

any_within : (side : Side) (before bs : List Cell) (o : Cell) → merges side o ≡ true → any_joins side (before ++ (o ∷ bs)) ≡ true
any_within side [] bs o h = or_left (merges side o) (any_joins side bs) h
any_within side (a ∷ before) bs o h = or_right (merges side a) (any_joins side (before ++ (o ∷ bs))) (any_within side before bs o h)

-- a cell that joins is before their end
pub joins_end-within : (side : Side) (before bs : List Cell) (o : Cell) → merges side o ≡ true → length before < joins_end side (before ++ (o ∷ bs))
joins_end-within side [] bs o h = rw (any_within side [] bs o h) (omega arith)
joins_end-within side (a ∷ before) bs o h = rw (any_within side (a ∷ before) bs o h) (omega (arith, joins_end-within side before bs o h))

-- nothing joins, nothing changes
pub under_all_none : (side : Side) (cs : List Cell) (place : ℕ) (os : List Cell) → any_joins side os ≡ false → joined_under side cs place os ≡ cs
under_all_none side [] place os h = refl
under_all_none side (c ∷ cs) (suc place) os h = ap (λ ds. c ∷ ds) (under_all_none side cs place os h)
under_all_none side (c ∷ cs) zero [] h = refl
under_all_none side (c ∷ cs) zero (o ∷ os) h =
    let none = or_parts (merges side o) (any_joins side os) h in rw (none.0, under_all_none side cs zero os none.1) refl

cond_into : {X Y : Type 0} (f : X → Y) (b : Bool) (x y : X) → f (cond b x y) ≡ cond b (f x) (f y)
cond_into f true x y = refl
cond_into f false x y = refl

-- one more cell that may join
pub under-push : (side : Side) (cs : List Cell) (place : ℕ) (os : List Cell) (o : Cell) →
    joined_under side cs place (os ++ o ∷ []) ≡ cond (merges side o) (changed_at (joined side) (place + length os) (joined_under side cs place os)) (joined_under side cs place os)
under-push side [] place os o = cond_into (λ (c : Cell). []) (merges side o) slash slash
under-push side (c ∷ cs) (suc place) os o = grind (arith, cond_into, under-push side cs place os o)
under-push side (c ∷ cs) zero [] o = rw (under_all_none side cs zero [] refl) (cond_into (λ d. d ∷ cs) (merges side o) (joined side c) c)
under-push side (c ∷ cs) zero (p ∷ os) o = grind (arith, cond_into, cond, under-push side cs zero os o)

module _ {X : Type 0} (cell : X → Cell) (side : Side) (xs : List X) (i : ℕ) (d : X) (below : i < length xs) where
  one_cell : map cell (take (i + 1) xs) ≡ map cell (take i xs) ++ cell (get_or xs i d) ∷ []
  one_cell = one_more_at cell xs i d below

  cells_so_far : length (map cell (take i xs)) ≡ i
  cells_so_far = length-map (take i xs) cell ∙ length-take-le i xs (omega arith)

  -- one more cell may end the joins
  pub end_more : joins_end side (map cell (take (i + 1) xs)) ≡ cond (merges side (cell (get_or xs i d))) (i + 1) (joins_end side (map cell (take i xs)))
  end_more = rw (one_cell, joins_end-push, cells_so_far) refl

  -- and may join
  pub under_more : (cs : List Cell) (place : ℕ) → joined_under side cs place (map cell (take (i + 1) xs))
      ≡ cond (merges side (cell (get_or xs i d))) (changed_at (joined side) (place + i) (joined_under side cs place (map cell (take i xs)))) (joined_under side cs place (map cell (take i xs)))
  under_more cs place = rw (one_cell, under-push, cells_so_far) refl

  -- a cell that joins is before the joins' end
  pub joins_below_end : merges side (cell (get_or xs i d)) ≡ true → i < joins_end side (map cell xs)
  joins_below_end h =
      let parts : map cell xs ≡ map cell (take i xs) ++ (cell (get_or xs i d) ∷ map cell (drop (suc i) xs)) =
      ap (map cell) (sym (take-append-drop i xs) ∙ ap (λ ys. take i xs ++ ys) (drop-cons xs i d below)) ∙ map-append cell (take i xs) (get_or xs i d ∷ drop (suc i) xs) in
      omega (arith, cells_so_far, ap (joins_end side) parts, joins_end-within side (map cell (take i xs)) (map cell (drop (suc i) xs)) (cell (get_or xs i d)) h)
