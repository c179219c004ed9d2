-- What tells meanings apart.
use Rattle.std.specs.Prelude.{◌≡◌, ◌↔◌, ℕ, ◌==◌, Bool, true, false, ◌&&◌, List, [], ◌∷◌, IsTrue, refl}
use Rattle.std.proofs.Common.{ap, sym, ◌∙◌}
use Rattle.std.proofs.Math.Bool.{beq}
use Rattle.std.proofs.lemmas.Bool.{eqb-true, eq-eqb}
use Rattle.std.specs.Cmp.{IsPartialEquivalence, IsEquivalence, partial_equiv_from_equiv}
use Rattle.std.specs.Cmp.Lexicographic.{pointwise}

-- it is true exactly of one meaning and itself
abbrev pub Tells : {M : Type 0} → (M → M → Bool) → Type 0
Tells decides = (a b : _) → IsTrue (decides a b) ↔ (a ≡ b)

pub numbers_tell : (a b : ℕ) → IsTrue (a == b) ↔ (a ≡ b)
numbers_tell a b = (λ h. eqb-true a b h, λ e. eq-eqb a b e)

pub numbers_equal : (a b : ℕ) → b ≡ a → (a == b) ≡ true
numbers_equal a b e = eq-eqb a b (sym e)

pub same_flag : (x y : Bool) → IsTrue (beq x y) → x ≡ y
same_flag true true h = refl
same_flag false false h = refl
same_flag true false h = cc
same_flag false true h = cc

pub one_flag : (x y : Bool) → x ≡ y → IsTrue (beq x y)
one_flag true true e = refl
one_flag false false e = refl
one_flag true false e = cc
one_flag false true e = cc

pub flags_tell : (x y : Bool) → IsTrue (beq x y) ↔ (x ≡ y)
flags_tell x y = (same_flag x y, one_flag x y)

pub flags_equal : (x y : Bool) → y ≡ x → beq x y ≡ true
flags_equal x y e = one_flag x y (sym e)

pub both_true : (p q : Bool) → (p && q) ≡ true → (p ≡ true) × (q ≡ true)
both_true true true h = (refl, refl)
both_true true false h = cc
both_true false q h = cc

pub true_both : (p q : Bool) → p ≡ true → q ≡ true → (p && q) ≡ true
true_both p q h k = rw (h, k) refl

module _ {M : Type 0} (decides : M → M → Bool) (tells : (a b : M) → IsTrue (decides a b) ↔ (a ≡ b)) where
  pub lists_tell : (xs ys : List M) → IsTrue (pointwise decides xs ys) ↔ (xs ≡ ys)
  lists_tell [] [] = (λ _. refl, λ _. refl)
  lists_tell [] (y ∷ ys) = (λ h. cc, λ h. cc)
  lists_tell (x ∷ xs) [] = (λ h. cc, λ h. cc)
  lists_tell (x ∷ xs) (y ∷ ys) = (
    λ h. let e = both_true (decides x y) (pointwise decides xs ys) h in
        (λ k. (tells x y).0 e.0 k ∷ (lists_tell xs ys).0 e.1 k),
    λ h. let first : x ≡ y = cc in let rest : xs ≡ ys = cc in
        true_both (decides x y) (pointwise decides xs ys) ((tells x y).1 first) ((lists_tell xs ys).1 rest),
  )

  pub either : (p q : Bool) → (IsTrue p → IsTrue q) → (IsTrue q → IsTrue p) → p ≡ q
  either true true f g = refl
  either false false f g = refl
  either true false f g = sym (f refl)
  either false true f g = g refl

  pub equal_as_told : (p : Bool) (a b : M) → IsTrue p ↔ (a ≡ b) → p ≡ decides a b
  equal_as_told p a b h = either p (decides a b) (λ t. (tells a b).1 (h.0 t)) (λ t. h.1 ((tells a b).0 t))

  pub told_equiv : IsEquivalence decides
  told_equiv = record {
    refl = λ x. (tells x x).1 refl;
    symm = λ x y. either (decides x y) (decides y x)
        (λ h. (tells y x).1 (sym ((tells x y).0 h))) (λ h. (tells x y).1 (sym ((tells y x).0 h)));
    congr = λ x y z h. ap (λ w. decides w z) ((tells x y).0 h);
  }

  pub told_per : IsPartialEquivalence decides
  told_per = partial_equiv_from_equiv told_equiv

  pub equal_itself : (a b : M) → b ≡ a → decides a b ≡ true
  equal_itself a b e = (tells a b).1 (sym e)
