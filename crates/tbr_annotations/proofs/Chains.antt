-- Equality from the last annotation down is equality from the first one up.
use Rattle.std.proofs.Common.{◌≡◌, ◌++◌, ◌∷◌, [], ◌&&◌, Bool, true, false, List, refl, sym, arith}
use Rattle.std.specs.Cmp.Lexicographic.{pointwise}
use Rattle.tbr_annotations.specs.declared.chain.Chain.{Chain, End, Last'}
use Rattle.tbr_annotations.specs.Chain.{annotations_of, equal_down}

both : (s t : Bool) → s && t ≡ t && s
both true true = refl
both true false = refl
both false true = refl
both false false = refl

first_of_three : (s t u : Bool) → s && (t && u) ≡ (s && t) && u
first_of_three true t u = refl
first_of_three false t u = refl

module _ {A : Type 0} (eq : A → A → Bool) where
  up_to_the_last : (xs ys : List A) (x y : A) →
      pointwise eq (xs ++ x ∷ []) (ys ++ y ∷ []) ≡ pointwise eq xs ys && eq x y
  up_to_the_last [] [] x y = both (eq x y) true
  up_to_the_last [] (b ∷ []) x y = both (eq x b) false
  up_to_the_last [] (b ∷ (c ∷ ys)) x y = both (eq x b) false
  up_to_the_last (a ∷ []) [] x y = both (eq a y) false
  up_to_the_last (a ∷ (c ∷ xs)) [] x y = both (eq a y) false
  up_to_the_last (a ∷ xs) (b ∷ ys) x y = grind (arith, first_of_three, up_to_the_last xs ys x y)

  some_against_none : (xs : List A) (x : A) → pointwise eq (xs ++ x ∷ []) [] ≡ false
  some_against_none [] x = refl
  some_against_none (a ∷ xs) x = refl

  none_against_some : (xs : List A) (x : A) → pointwise eq [] (xs ++ x ∷ []) ≡ false
  none_against_some [] x = refl
  none_against_some (a ∷ xs) x = refl

  pub down_is_up : (a b : Chain A) → equal_down eq a b ≡ pointwise eq (annotations_of a) (annotations_of b)
  down_is_up End End = refl
  down_is_up End (Last' q y n ys) = sym (none_against_some (annotations_of ys) y)
  down_is_up (Last' p x m xs) End = sym (some_against_none (annotations_of xs) x)
  down_is_up (Last' p x m xs) (Last' q y n ys) = grind (arith, both, up_to_the_last, down_is_up xs ys)
