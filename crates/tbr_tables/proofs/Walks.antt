-- The steps of a walk over elements with their places.
use Rattle.std.proofs.Common.{◌≡◌, ℕ, ◌+◌, ◌<◌, List, length, get_or, take, refl, ap, ◌∙◌, zero-add}
use Rattle.std.specs.Prelude.{fold}
use Rattle.std.specs.List.{enumerate_from}
use Rattle.std.proofs.lemmas.List.{take_more}
use Rattle.std.proofs.lemmas.List.Sums.{fold-append}
use Rattle.std.proofs.lemmas.List.FromFn.{length-enumerate_from, get_or-enumerate_from}

-- one more of them is folded
pub fold_step : {X B : Type 0} (f : B → ℕ × X → B) (b : B) (xs : List X) (i : ℕ) (d : X) → i < length xs →
    fold f b (take (i + 1) (enumerate_from 0 xs)) ≡ f (fold f b (take i (enumerate_from 0 xs))) (i, get_or xs i d)
fold_step {X} f b xs i d h =
    let ys = enumerate_from 0 xs in
    let within : i < length ys = rw length-enumerate_from h in
    let here : get_or ys i (0, d) ≡ (i, get_or xs i d) =
    get_or-enumerate_from 0 xs i (0, d) h ∙ ap (λ (n : ℕ). (n, get_or xs i d)) (zero-add i) in
    rw (take_more ys i (0, d) within, fold-append, here) refl
