-- Lists of tags are equal exactly where they mean the same, and copies of them are equal.
use Rattle.std.specs.Prelude.{◌≡◌, ◌↔◌, Bool, true, false, ◌&&◌, List, [], ◌∷◌, map, Vec, IsTrue, refl}
use Rattle.std.specs.declared.alloc.Global.{Global}
use Rattle.std.proofs.Common.{sym}
use Rattle.std.specs.List.{AllZip}
use Rattle.std.specs.Cmp.Lexicographic.{pointwise}
use Rattle.tbr_tags.specs.Tells.{both_true, true_both, equal_as_told, lists_tell}

-- the equality of `Vec`
abbrev pub equal_lists : {A : Type 0} → (A → A → Bool) → Vec A Global → Vec A Global → Bool
equal_lists eq v w = pointwise eq v.items w.items

module _ {A M : Type 0} (meaning : A → M) (eq : A → A → Bool)
    (equal_by_meaning : (a b : A) → IsTrue (eq a b) ↔ (meaning a ≡ meaning b)) where
  pub lists_equal_by_meaning : (xs ys : List A) → IsTrue (pointwise eq xs ys) ↔ (map meaning xs ≡ map meaning ys)
  lists_equal_by_meaning [] [] = (λ _. refl, λ _. refl)
  lists_equal_by_meaning [] (y ∷ ys) = (λ h. cc, λ h. cc)
  lists_equal_by_meaning (x ∷ xs) [] = (λ h. cc, λ h. cc)
  lists_equal_by_meaning (x ∷ xs) (y ∷ ys) = (
    λ h. let e = both_true (eq x y) (pointwise eq xs ys) h in
        (λ k. (equal_by_meaning x y).0 e.0 k ∷ (lists_equal_by_meaning xs ys).0 e.1 k),
    λ h. let first : meaning x ≡ meaning y = cc in let rest : map meaning xs ≡ map meaning ys = cc in
        true_both (eq x y) (pointwise eq xs ys)
        ((equal_by_meaning x y).1 first) ((lists_equal_by_meaning xs ys).1 rest),
  )

pub list_copies_equal : {A : Type 0} (IsClone : A → A → Type 0) (eq : A → A → Bool) →
    ((a b : A) → IsClone a b → eq a b ≡ true) → (xs ys : List A) → AllZip IsClone xs ys → pointwise eq xs ys ≡ true
list_copies_equal C eq same [] [] h = refl
list_copies_equal C eq same (x ∷ xs) (y ∷ ys) h = rw (same x y h.0) (list_copies_equal C eq same xs ys h.1)
list_copies_equal C eq same xs ys h = absurd h

-- copies of tags mean the same, in order
pub copies_mean_the_same : {A M : Type 0} (meaning : A → M) (IsClone : A → A → Type 0) (eq : A → A → Bool) →
    ((a b : A) → IsTrue (eq a b) ↔ (meaning a ≡ meaning b)) → ((a b : A) → IsClone a b → eq a b ≡ true) →
    (xs ys : List A) → AllZip IsClone xs ys → map meaning ys ≡ map meaning xs
copies_mean_the_same meaning C eq by_meaning copies xs ys h =
    sym ((lists_equal_by_meaning meaning eq by_meaning xs ys).0 (list_copies_equal C eq copies xs ys h))

-- lists are equal as their meanings are the same
pub lists_eq_is_same : {A M : Type 0} (meaning : A → M) (eq : A → A → Bool) (same : M → M → Bool) →
    ((a b : A) → IsTrue (eq a b) ↔ (meaning a ≡ meaning b)) → ((a b : M) → IsTrue (same a b) ↔ (a ≡ b)) →
    (xs ys : List A) → pointwise eq xs ys ≡ pointwise same (map meaning xs) (map meaning ys)
lists_eq_is_same meaning eq same by_meaning tells xs ys =
    equal_as_told (pointwise same) (lists_tell same tells) (pointwise eq xs ys) (map meaning xs) (map meaning ys)
    (lists_equal_by_meaning meaning eq by_meaning xs ys)
