-- The top of a stack, which comes last in memory.
use Rattle.std.proofs.Common.{◌≡◌, ℕ, ◌<◌, ◌-◌, List, [], ◌∷◌, ◌++◌, reverse, length, sym, subst, ap, ◌∙◌, arith}
use Rattle.std.specs.Prelude.{slice_set, slice_index_or}
use Rattle.std.proofs.lemmas.List.{length-append, reverse-append, reverse-reverse}
use Rattle.std.proofs.Math.Seq.{set-append_seam, get_or-append_seam}
use Rattle.tbr_stack.specs.Stack.{in_first}

-- a list with a last element
split_last : {X : Type 0} (P : List X → Type 0) (xs : List X) → 0 < length xs → ((front : List X) (x : X) → P (front ++ x ∷ [])) → P xs
split_last {X} P xs some ends = subst P (reverse-reverse xs) (go (reverse xs) (rw (reverse-reverse xs) some))
  where
    go : (rs : List X) → 0 < length (reverse rs) → P (reverse rs)
    go [] h = absurd (omega (arith, h))
    go (r ∷ rs) h = rw (reverse-append (r ∷ []) rs) (ends (reverse rs) r)

-- the last item of a list is the first in reverse, and stays so where it is changed
pub record IsLast {X : Type 0} (xs : List X) (n : ℕ) (x : X) : Type 0 where
  pub others : List X
  pub found : reverse xs ≡ x ∷ others
  pub changed : (y : X) → reverse (slice_set xs n y) ≡ y ∷ others

pub last_at : {X : Type 0} (xs : List X) (n : ℕ) (x : X) → 0 < length xs → n ≡ length xs - 1 → x ≡ slice_index_or xs n x → IsLast xs n x
last_at {X} xs n x some is at = split_last P xs some ends n is at
  where
    P : List X → Type 0
    P ys = (k : ℕ) → k ≡ length ys - 1 → x ≡ slice_index_or ys k x → IsLast ys k x

    ends : (front : List X) (y : X) → P (front ++ y ∷ [])
    ends front y k k_is x_is =
        let last : k ≡ length front = omega (arith, length-append front (y ∷ []), k_is) in
        let same : x ≡ y = x_is ∙ rw last (get_or-append_seam front y [] x) in
        record {
          others = reverse front;
          found = reverse-append front (y ∷ []) ∙ ap (λ z. z ∷ reverse front) (sym same);
          changed = λ z. rw (last, set-append_seam front y [] z) (reverse-append front (z ∷ []));
        }

-- a change of the last
pub changed_by : {X : Type 0} (f : X → X) (xs : List X) (n : ℕ) (x y : X) → IsLast xs n x → y ≡ f x → reverse (slice_set xs n y) ≡ in_first f (reverse xs)
changed_by f xs n x y h is = h.changed y ∙ ap (λ z. z ∷ h.others) is ∙ sym (ap (in_first f) h.found)
