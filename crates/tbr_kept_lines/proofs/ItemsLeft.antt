-- A vector that gives its items: those that are left, and all of them.
use Rattle.tbr_kept_lines.proofs.Common.{◌≡◌, None, List, [], ◌∷◌, ◌++◌, ap, sym, ◌∙◌}
use Rattle.std.specs.Iterator.{Yields}
use Rattle.std.specs.Vec.Iter.{into_iter_items, into_iter_steps}
use Rattle.std.specs.declared.vec.IntoIter.{IntoIter}
use Rattle.std.proofs.IntoIterSteps.{All-taken}

-- what is left of a vector where the first items were taken
taken_front : {X Z : Type 0} (xs : List X) (s t : IntoIter X Z) → Yields into_iter_steps s xs t → into_iter_items s ≡ xs ++ into_iter_items t
taken_front [] s t h = ap into_iter_items h
taken_front (x ∷ xs) s t h = h.1.0 ∙ ap (λ ys. x ∷ ys) (taken_front xs h.0 t h.2)

pub items_left : {X Z : Type 0} (first s t u : IntoIter X Z) (xs : List X) (x : X) → s ≡ first →
    Yields into_iter_steps s xs t → into_iter_items t ≡ x ∷ into_iter_items u →
    into_iter_items first ≡ xs ++ x ∷ into_iter_items u
items_left first s t u xs x is taken next = ap into_iter_items (sym is) ∙ taken_front xs s t taken ∙ ap (λ ys. xs ++ ys) next

pub items_taken : {X Z : Type 0} (first s t u : IntoIter X Z) (xs : List X) → s ≡ first → Yields into_iter_steps s xs t → into_iter_steps t None u → into_iter_items first ≡ xs
items_taken first s t u xs is taken none = ap into_iter_items (sym is) ∙ sym (All-taken s xs (u, (t, taken, none)))
