-- Steps of walks over columns.
use Rattle.column_widths.proofs.Common.{◌≡◌, ℕ, ◌+◌, ◌<◌, ◌≤◌, Bool, true, false, List, length, get_or, take, drop, ap, sym, ◌∙◌, refl, add-zero, zero-add, cond, sum_by, count_by, enumerate_from}
use Rattle.column_widths.proofs.Common.{fold, filter, length-enumerate_from, get_or-enumerate_from, Need}
use Rattle.std.proofs.lemmas.List.{get_or-drop, drop_more}
use Rattle.std.proofs.lemmas.List.Sums.{get_or-le-sum_by, count_by_more_yes, count_by_more_no}

-- lists with the same rest have the same element there
pub same_there : (xs ys : List Need) (i : ℕ) (d : Need) → drop i xs ≡ drop i ys → get_or xs i d ≡ get_or ys i d
same_there xs ys i d e =
    let at_xs : get_or (drop i xs) 0 d ≡ get_or xs i d = rw (get_or-drop, add-zero) refl in
    let at_ys : get_or (drop i ys) 0 d ≡ get_or ys i d = rw (get_or-drop, add-zero) refl in
    sym at_xs ∙ ap (λ (zs : List Need). get_or zs 0 d) e ∙ at_ys

-- an element of a list whose tail is still to be walked is within the sum of them all
pub element_in_sum : (f : Need → ℕ) (xs ys : List Need) (i : ℕ) (d : Need) → drop i xs ≡ drop i ys → i < length ys →
    f (get_or xs i d) ≤ sum_by f ys
element_in_sum f xs ys i d e h = rw (same_there xs ys i d e) (get_or-le-sum_by f ys i d h)

-- the step of a count over columns with their places
pub count_step : (p : ℕ × Need → Bool) (b : Bool) (xs : List Need) (i : ℕ) (d : Need) → i < length xs →
    p (i, get_or xs i d) ≡ b →
    count_by p (take (i + 1) (enumerate_from 0 xs)) ≡ count_by p (take i (enumerate_from 0 xs)) + (cond b 1 0)
count_step p b xs i d h e =
    let within : i < length (enumerate_from 0 xs) = rw length-enumerate_from h in
    let here : get_or (enumerate_from 0 xs) i (0, d) ≡ (i, get_or xs i d) =
    rw (get_or-enumerate_from 0 xs i (0, d) h) (rw zero-add refl) in
    let test : p (get_or (enumerate_from 0 xs) i (0, d)) ≡ b = rw here e in
    elim b as (λ v. p (get_or (enumerate_from 0 xs) i (0, d)) ≡ v → count_by p (take (i + 1) (enumerate_from 0 xs)) ≡ count_by p (take i (enumerate_from 0 xs)) + cond v 1 0) [
      | true ↦ λ t. count_by_more_yes p (enumerate_from 0 xs) i (0, d) within t
      | false ↦ λ t. count_by_more_no p (enumerate_from 0 xs) i (0, d) within t ∙ sym (add-zero _)
    ] test

-- the step of a fold over the elements that pass a test
pub filter_step : {A B : Type 0} (f : B → A → B) (p : A → Bool) (b : Bool) (a : B) (xs : List A) (i : ℕ) (d : A) →
    i < length xs → p (get_or xs i d) ≡ b →
    fold f a (filter p (drop i xs)) ≡ fold f (cond b (f a (get_or xs i d)) a) (filter p (drop (i + 1) xs))
filter_step f p true a xs i d h e = rw (drop_more xs i d h, e) refl
filter_step f p false a xs i d h e = rw (drop_more xs i d h, e) refl
