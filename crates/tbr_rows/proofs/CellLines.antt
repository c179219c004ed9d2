-- The lines of a cell, where they are in a block's text.
use Rattle.tbr_rows.proofs.Common.{◌≡◌, ℕ, ◌-◌, Bool, true, Option, None, Some, List, [], ◌∷◌, ◌++◌, drop, length, map, refl, ap, sym, ◌∙◌, subst, IfOk, IsEquivalence, drop-map, AllZip}
use Rattle.tbr_rows.proofs.Common.{Item, items_width, RenderLine, Text, Line, line_items, items_under, CellAlign, spaces, aligned_items, Element, items_of, text_items, SameItems}
use Rattle.tbr_rows.proofs.Common.{SameElements, IsMerged, same_items, same_items_trans, same_items_append, same_texts, first_mergeable, last_mergeable, after_mergeable, before_mergeable}
use Rattle.tbr_rows.proofs.Common.{first_line, FillsText, IsGapText, longest}
use Rattle.std.proofs.Common.{Ok, Err}
use Rattle.std.specs.declared.result.Result.{Result}
use Rattle.tbr_border.specs.RenderLine.{IsItself, IsMergedText}
use Rattle.tbr_tagged.specs.declared.error.OutOfMemory.{OutOfMemory}
use Rattle.tbr_tagged.specs.Padding.{columns_in_front}
use Rattle.tbr_tagged.proofs.TextAfter.{same_elements}
use Rattle.tbr_rows.specs.CellLines.{as_lines}
use Rattle.tbr_rows.proofs.Stretches.{stretches_show, stretches_merged, merged_once, same_back}

module _ {A : Type 0} (eq : A → A → Bool) where
  -- ---- no text is merged into a border

  pub no_first : (texts : List (List (Item A))) → first_mergeable (as_lines eq texts) ≡ None
  no_first [] = refl
  no_first (is ∷ texts) = refl

  pub no_last : (texts : List (List (Item A))) → last_mergeable (as_lines eq texts) ≡ None
  no_last texts = let n = length (as_lines eq texts) - 1 in ap first_mergeable (drop-map (λ is. Text (longest eq is)) n texts) ∙ no_first (drop n texts)

  pub all_after : (texts : List (List (Item A))) → after_mergeable (as_lines eq texts) ≡ as_lines eq texts
  all_after texts = rw (no_first texts) refl

  pub all_before : (texts : List (List (Item A))) → before_mergeable (as_lines eq texts) ≡ as_lines eq texts
  all_before texts = rw (no_last texts) refl

  -- ---- the first one

  pub first_text : (texts : List (List (Item A))) (l : RenderLine A) (rest : List (RenderLine A)) → as_lines eq texts ≡ l ∷ rest →
      (is : List (Item A)) × (others : List (List (Item A))) × (texts ≡ is ∷ others) × (Text (longest eq is) ≡ l)
  first_text [] l rest e = absurd (cc)
  first_text (is ∷ others) l rest e = (is, others, refl, cc)

  module _ (laws : IsEquivalence eq) where
    -- in a row, after what is there
    pub text_moved : (old new is : List (Item A)) (l : RenderLine A) (a : A) → Text (longest eq is) ≡ l → SameItems eq new (old ++ is) → SameItems eq new (old ++ items_under a l)
    text_moved old new is l a e h =
        let shown = items_of (longest eq is) in
        subst (λ l. SameItems eq new (old ++ items_under a l)) e
        (same_items_trans eq laws new (old ++ is) (old ++ shown) h (same_items_append eq laws old old is shown (same_items eq laws old) (same_back eq laws shown is (stretches_show eq laws is))))

    -- and in the border below
    pub gap_of_text : (a : A) (width : ℕ) (texts others : List (List (Item A))) (is : List (Item A)) (es : List (Element A)) → texts ≡ is ∷ others → SameItems eq (items_of es) is → IsMerged eq es →
        IsGapText eq a width (first_line (as_lines eq texts)) es
    gap_of_text a width texts others is es e h merged =
        let shown = items_of (longest eq is) in
        subst (λ ts. IsGapText eq a width (first_line (as_lines eq ts)) es) (sym e)
        (merged_once eq laws es (longest eq is) merged (stretches_merged eq laws is) (same_items_trans eq laws (items_of es) is shown h (same_back eq laws shown is (stretches_show eq laws is))))

    -- lines that are filled under a copy of a tag
    pub texts_fill : (columns : ℕ → Option ℕ) (align : CellAlign) (width : ℕ) (a b : A) → eq b a ≡ true → (texts : List (List (Item A))) →
        AllZip (FillsText columns eq align width a) texts (as_lines eq (map (λ is. aligned_items align is (width - items_width columns is) b) texts))
    texts_fill columns align width a b h [] = tt
    texts_fill columns align width a b h (is ∷ texts) =
        let missing = width - items_width columns is in
        let front : A → List (Item A) = λ t. text_items (spaces (columns_in_front align missing)) t in
        let after : A → List (Item A) = λ t. text_items (spaces (missing - columns_in_front align missing)) t in
        let join = same_items_append eq laws in
        let same : SameItems eq (front b ++ is ++ after b) (front a ++ is ++ after a) =
        join (front b ++ is) (front a ++ is) (after b) (after a) (join (front b) (front a) is is (same_texts eq laws (spaces (columns_in_front align missing)) b a h) (same_items eq laws is))
        (same_texts eq laws (spaces (missing - columns_in_front align missing)) b a h) in
        let js = front b ++ is ++ after b in
        ((same_items_trans eq laws (items_of (longest eq js)) js (front a ++ is ++ after a) (stretches_show eq laws js) same, stretches_merged eq laws js), texts_fill columns align width a b h texts)

    -- a line by itself in the border below
    pub gap_of_line : (a : A) (width : ℕ) (line : RenderLine A) (r : Result (List (Element A)) OutOfMemory) → IfOk r (λ es. SameItems eq (items_of es) (line_items line)) → IfOk r (IsItself line) →
        (IsMergedText eq line → IfOk r (IsMerged eq)) → IfOk r (IsGapText eq a width (Some line))
    gap_of_line a width (Text es) (Ok fs) items itself merged = subst (λ gs. SameElements eq gs es) (sym itself) (same_elements eq laws es)
    gap_of_line a width (Line b) (Ok fs) items itself merged = (items, merged tt)
    gap_of_line a width line (Err e) items itself merged = tt
