-- A word that begins a line is cut only where its next item doesn't fit.
use Rattle.tbr_model.proofs.Common.{◌≡◌, ℕ, ◌+◌, ◌<◌, ◌≤◌, ◌==◌, nat_le, false, Option, List, [], ◌∷◌, ◌++◌, refl, ap, sym, ◌∙◌, subst, append_assoc, append-nil, arith, leb-false, cond_both, eqb-true}
use Rattle.tbr_model.proofs.Common.{Item, item_width, items_width, Laid, nothing_laid, extended, end_line, put_items}
use Rattle.tbr_model.specs.Shown.{first_columns, EndWhereFull, word_lines}
use Rattle.tbr_model.proofs.words.Items.{items_width-append}

module _ {A : Type 0} (columns : ℕ → Option ℕ) (width : ℕ) where
  -- The open line goes on with the first items, and with lines after it each ends where it is full.
  record IsCutWhereFull (l r : Laid A) : Type 0 where
    front : List (Item A)
    others : List (List (Item A))
    done : (end_line r).done ≡ l.done ++ ((l.line ++ front) ∷ others)
    full : EndWhereFull columns width ((l.line ++ front) ∷ others)

  first_item : (i : Item A) (is : List (Item A)) → item_width columns i ≤ first_columns columns (i ∷ is)
  first_item i is =
      cond_both (item_width columns i == 0) _ _ (λ (n : ℕ). item_width columns i ≤ n) (λ e. let none : item_width columns i ≡ 0 = eqb-true _ 0 e in omega arith) (λ _. omega arith)

  -- the same from a line that is ended after items
  abbrev goes_on : (l : Laid A) (is : List (Item A)) (n : ℕ) (r : Laid A) → IsCutWhereFull (extended l is n) r → IsCutWhereFull l r
  goes_on l is n r k =
      let line : (l.line ++ is) ++ k.front ≡ l.line ++ (is ++ k.front) = append_assoc l.line is k.front in
      record {
        front = is ++ k.front;
        others = k.others;
        done = k.done ∙ ap (λ (m : List (Item A)). l.done ++ (m ∷ k.others)) line;
        full = subst (λ (m : List (Item A)). EndWhereFull columns width (m ∷ k.others)) line k.full;
      }

  -- a line that is full, with the lines from the next on
  ends_full : (l r : Laid A) (k : IsCutWhereFull (end_line l) r) → width < items_width columns l.line + first_columns columns k.front → IsCutWhereFull l r
  ends_full l r k over =
      let line : l.line ++ [] ≡ l.line = append-nil l.line in
      record {
        front = [];
        others = k.front ∷ k.others;
        done = k.done ∙ append_assoc l.done (l.line ∷ []) (k.front ∷ k.others) ∙ ap (λ (m : List (Item A)). l.done ++ (m ∷ k.front ∷ k.others)) (sym line);
        full = (subst (λ (m : List (Item A)). width < items_width columns m + first_columns columns k.front) (sym line) over, k.full);
      }

  -- the same where the next line begins with an item
  ends_before : (l r : Laid A) (i : Item A) (n : ℕ) → width < items_width columns l.line + item_width columns i → IsCutWhereFull (extended (end_line l) (i ∷ []) n) r → IsCutWhereFull l r
  ends_before l r i n over k = ends_full l r (goes_on (end_line l) (i ∷ []) n r k) (let more = first_item i k.front in omega (arith, over, more))

  one_width : (l : Laid A) (i : Item A) → l.width ≡ items_width columns l.line → l.width + item_width columns i ≡ items_width columns (l.line ++ i ∷ [])
  one_width l i same = omega (arith, same, items_width-append columns l.line (i ∷ []))

  -- an item that fits no line
  too_wide : (l : Laid A) (i : Item A) → nat_le (item_width columns i) width ≡ false → (front : List (Item A)) → width < items_width columns (l.line ++ i ∷ []) + first_columns columns front
  too_wide l i wide front = omega (arith, leb-false _ _ wide, items_width-append columns l.line (i ∷ []))

  put_full : (is : List (Item A)) (l : Laid A) → l.width ≡ items_width columns l.line → IsCutWhereFull l (put_items columns width l is)
  put_full [] l same = record {
    front = [];
    others = [];
    done = ap (λ (m : List (Item A)). l.done ++ m ∷ []) (sym (append-nil l.line));
    full = tt;
  }
  put_full (i ∷ is) l same =
      cond_both (nat_le (l.width + n) width) _ _ (λ (m : Laid A). IsCutWhereFull l (put_items columns width m is))
      (λ _. goes_on l (i ∷ []) n (put_items columns width (extended l (i ∷ []) n) is) (put_full is (extended l (i ∷ []) n) (one_width l i same)))
      (λ over. cond_both (nat_le n width) _ _ (λ (m : Laid A). IsCutWhereFull l (put_items columns width m is))
      (λ _. ends_before l (put_items columns width (extended (end_line l) (i ∷ []) n) is) i n (omega (arith, same, leb-false _ _ over)) (put_full is (extended (end_line l) (i ∷ []) n) (omega arith)))
      (λ wide. cond_both (l.width == 0) _ _ (λ (m : Laid A). IsCutWhereFull l (put_items columns width (end_line (extended m (i ∷ []) n)) is))
      (λ _. let m : Laid A = extended l (i ∷ []) n in
      goes_on l (i ∷ []) n (put_items columns width (end_line m) is) (let k = put_full is (end_line m) refl in ends_full m (put_items columns width (end_line m) is) k (too_wide l i wide k.front)))
      (λ _. let m : Laid A = extended (end_line l) (i ∷ []) n in
      ends_before l (put_items columns width (end_line m) is) i n (omega (arith, same, leb-false _ _ over))
      (let k = put_full is (end_line m) refl in ends_full m (put_items columns width (end_line m) is) k (too_wide (end_line l) i wide k.front)))))
    where
      n : ℕ
      n = item_width columns i

  pub word_ends_full : (word : List (Item A)) → EndWhereFull columns width (word_lines columns width word)
  word_ends_full word =
      let k = put_full word nothing_laid refl in
      subst (EndWhereFull columns width) (sym k.done) k.full
