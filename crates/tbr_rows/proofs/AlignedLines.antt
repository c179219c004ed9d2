-- A block's lines, filled up to a width.
use Rattle.tbr_rows.proofs.Common.{◌≡◌, ℕ, ◌-◌, ◌≤◌, suc, Bool, Option, drop, List, [], ◌∷◌, ◌++◌, map, length, refl, ap, sym, ◌∙◌, subst, arith, append_assoc, IsEquivalence, Item}
use Rattle.tbr_rows.proofs.Common.{items_width, CellAlign, SameItems, aligned_items, same_items, same_items_trans, same_items_append, each_aligned}

module _ {A : Type 0} (align : CellAlign) (a : A) where
  pub length_aligned : (lines : List (List (Item A))) (missing : List ℕ) → length missing ≤ length lines → length missing ≡ length (each_aligned align a lines missing)
  length_aligned [] [] h = refl
  length_aligned [] (n ∷ missing) h = absurd (omega (arith, h))
  length_aligned (is ∷ lines) [] h = refl
  length_aligned (is ∷ lines) (n ∷ missing) h = ap suc (length_aligned lines missing (omega (arith, h)))

  -- each lacks what it has not to the width
  pub all_aligned : (columns : ℕ → Option ℕ) (width : ℕ) (lines : List (List (Item A))) →
      each_aligned align a lines (map (λ is. width - items_width columns is) lines) ≡ map (λ is. aligned_items align is (width - items_width columns is) a) lines
  all_aligned columns width [] = refl
  all_aligned columns width (is ∷ lines) = ap (λ ls. aligned_items align is (width - items_width columns is) a ∷ ls) (all_aligned columns width lines)

  pub none_aligned : (lines : List (List (Item A))) (missing : List ℕ) → missing ≡ [] → each_aligned align a lines missing ≡ []
  none_aligned [] missing e = refl
  none_aligned (is ∷ lines) missing e = rw e refl

  -- the first one
  pub first_aligned : (lines : List (List (Item A))) (missing ns : List ℕ) (n : ℕ) (now rest : List (List (Item A)))
      (is : List (Item A)) → missing ≡ n ∷ ns → each_aligned align a lines missing ≡ now → now ≡ is ∷ rest →
      (js : List (Item A)) × (others : List (List (Item A))) × (lines ≡ js ∷ others) × (aligned_items align js n a ≡ is)
  first_aligned [] missing ns n now rest is m seen e = absurd (let none : [] ≡ is ∷ rest = seen ∙ e in cc)
  first_aligned (js ∷ others) missing ns n now rest is m seen e =
      let both : aligned_items align js n a ∷ each_aligned align a others ns ≡ is ∷ rest = ap (each_aligned align a (js ∷ others)) (sym m) ∙ seen ∙ e in
      (js, others, refl, cc)

  -- all but the first
  pub rest_aligned : (lines after : List (List (Item A))) (missing ns : List ℕ) (n : ℕ) → missing ≡ n ∷ ns →
      length missing ≤ length lines → after ≡ drop 1 lines → each_aligned align a after ns ≡ drop 1 (each_aligned align a lines missing)
  rest_aligned [] after missing ns n m within rest = absurd (omega (arith, within, ap length m))
  rest_aligned (is ∷ lines) after missing ns n m within rest = rw (rest, m) refl

-- spaces, a line and spaces are moved to the end of a line, one after another
pub aligned_moved : {A : Type 0} (eq : A → A → Bool) (laws : IsEquivalence eq)
    (old one two three front is after : List (Item A)) → SameItems eq one (old ++ front) →
    SameItems eq two (one ++ is) → SameItems eq three (two ++ after) →
    SameItems eq three (old ++ (front ++ is ++ after))
aligned_moved eq laws old one two three front is after h j k =
    let same = same_items eq laws in
    let join = same_items_append eq laws in
    subst (SameItems eq three) (ap (λ is. is ++ after) (append_assoc old front is) ∙ append_assoc old (front ++ is) after)
    (same_items_trans eq laws three (two ++ after) (((old ++ front) ++ is) ++ after) k
    (join two ((old ++ front) ++ is) after after (same_items_trans eq laws two (one ++ is) ((old ++ front) ++ is) j (join one (old ++ front) is is h (same is))) (same after)))
