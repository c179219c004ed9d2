-- Lines that stay where rows come: texts as they are, and borders with the text in front of them.
use Rattle.text_block_renderer.proofs.Common.{◌≡◌, ℕ, ◌-◌, Bool, fold, if◌then◌else◌, Option, Some, List, [], ◌∷◌, ◌++◌, take, length, suc, refl, ap, sym, ◌∙◌, subst, arith, append-nil, AllZip}
use Rattle.text_block_renderer.proofs.Common.{Border, Side, joined_at_each, above_row, merged_with, merged_below, border_above, Line, text, border, without_last, last_border, before_border}
use Rattle.text_block_renderer.proofs.Common.{border_lines, text_of_lines, KeepsText, StaysLine}
use Rattle.tbr_rows.specs.declared.LineSet.{LineSet as Cell}
use Rattle.tbr_rows.specs.Borders.{joined}
use Rattle.text_block_renderer.proofs.LineContents.{text_of_lines-append}

module _ {T : Type 0} where
  stays_itself : (l : Line T) → StaysLine l l
  stays_itself l = grind arith

  pub all_stay : (ls : List (Line T)) → AllZip StaysLine ls ls
  all_stay [] = tt
  all_stay (l ∷ ls) = (stays_itself l, all_stay ls)

  pub stay_on : (ls ms ns : List (Line T)) → AllZip StaysLine ls ms → AllZip StaysLine ms ns → AllZip StaysLine ls ns
  stay_on [] [] ns h k = k
  stay_on (l ∷ ls) (m ∷ ms) [] h k = k
  stay_on (l ∷ ls) (m ∷ ms) (n ∷ ns) h k = grind (arith, stay_on ls ms ns h.1 k.1)
  stay_on ls ms ns h k = absurd h

  -- Whoever reads lines one after another, and of borders their tag and the text in front, reads the same.
  pub stay_alike : {Y : Type 0} (read : List (Line T) → List Y) → ((ls ms : List (Line T)) → read (ls ++ ms) ≡ read ls ++ read ms) →
      ((b c : Border T) → KeepsText b c → read (border c ∷ []) ≡ read (border b ∷ [])) → (ls ms : List (Line T)) → AllZip StaysLine ls ms → read ms ≡ read ls
  stay_alike read append keeps [] [] h = refl
  stay_alike read append keeps (text is ∷ ls) (text js ∷ ms) h =
      append (text js ∷ []) ms ∙ ap (λ ks. read (text ks ∷ []) ++ read ms) h.0 ∙ ap (λ ys. read (text is ∷ []) ++ ys) (stay_alike read append keeps ls ms h.1) ∙ sym (append (text is ∷ []) ls)
  stay_alike read append keeps (border b ∷ ls) (border c ∷ ms) h =
      append (border c ∷ []) ms ∙ ap (λ ys. ys ++ read ms) (keeps b c h.0) ∙ ap (λ ys. read (border b ∷ []) ++ ys) (stay_alike read append keeps ls ms h.1) ∙ sym (append (border b ∷ []) ls)
  stay_alike read append keeps (l ∷ ls) (m ∷ ms) h = absurd h.0
  stay_alike read append keeps ls ms h = absurd h

  -- the same text
  pub stay_texts : (ls ms : List (Line T)) → AllZip StaysLine ls ms → text_of_lines ms ≡ text_of_lines ls
  stay_texts = stay_alike text_of_lines text_of_lines-append (λ b c h. refl)

  -- ---- the border above a row

  joins_keep : (side : Side) (b : Border T) (xs : List ℕ) → KeepsText b (joined_at_each side b xs)
  joins_keep side b [] = (refl, refl)
  joins_keep side b (x ∷ xs) = joins_keep side (joined side b x) xs

  merge_keeps : (side : Side) (place : ℕ) (b : Border T) (o : Option (Border T)) → KeepsText b (merged_with side place b o)
  merge_keeps side place b o = grind arith

  merges_keep : (cs : List (Cell T)) (b : Border T) → KeepsText b (fold merged_below b cs)
  merges_keep [] b = (refl, refl)
  merges_keep (c ∷ cs) b = grind (arith, merge_keeps, merges_keep cs (merged_below b c))

  above_keeps : (collapses : Bool) (cs : List (Cell T)) (b : Border T) → KeepsText b (if collapses then fold merged_below (above_row cs b) cs else above_row cs b)
  above_keeps collapses cs b = grind (arith, joins_keep, merges_keep)

  -- it is put back with other cells
  put_back : (ls : List (Line T)) (b c : Border T) → KeepsText b c → last_border ls ≡ Some b → AllZip StaysLine ls (without_last ls ++ border c ∷ [])
  put_back (border d ∷ []) b c keeps e = grind arith
  put_back (l ∷ m ∷ ls) b c keeps e =
      let next : length (l ∷ m ∷ ls) - 1 ≡ suc (length (m ∷ ls) - 1) = omega arith in
      subst (λ (n : ℕ). AllZip StaysLine (l ∷ m ∷ ls) (take n (l ∷ m ∷ ls) ++ border c ∷ [])) (sym next) (stays_itself l, put_back (m ∷ ls) b c keeps e)
  put_back ls b c keeps e = cc

  pub top_put_back : (collapses : Bool) (cells : List (Cell T)) (ls : List (Line T)) → AllZip StaysLine ls (before_border ls ++ border_lines (border_above collapses cells (last_border ls)))
  top_put_back collapses cells ls = grind (arith, append-nil, all_stay, put_back, above_keeps)
