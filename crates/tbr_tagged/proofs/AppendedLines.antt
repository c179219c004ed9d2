-- A line after another.
use Rattle.tbr_tagged.proofs.Common.{Bool, List, [], ◌∷◌, ◌++◌, fold, sym, subst, append_assoc, append-nil, IsEquivalence, Element, element_items, items_of, SameItems, push_element, IsMerged}
use Rattle.tbr_tagged.proofs.SameItems.{same_items, same_from_path, same_items_trans, same_items_append, element_pushed}
use Rattle.tbr_tagged.proofs.TextAfter.{merged_element}

module _ {A : Type 0} (eq : A → A → Bool) where
  pub appended_items : IsEquivalence eq → (es fs : List (Element A)) → SameItems eq (items_of (fold (push_element eq) es fs)) (items_of es ++ items_of fs)
  appended_items laws es [] = same_from_path eq laws (items_of es) (items_of es ++ []) (sym (append-nil (items_of es)))
  appended_items laws es (f ∷ fs) =
      let pushed = push_element eq es f in
      same_items_trans eq laws (items_of (fold (push_element eq) pushed fs)) (items_of pushed ++ items_of fs) (items_of es ++ items_of (f ∷ fs)) (appended_items laws pushed fs)
      (subst (SameItems eq (items_of pushed ++ items_of fs)) (append_assoc (items_of es) (element_items f) (items_of fs))
      (same_items_append eq laws (items_of pushed) (items_of es ++ element_items f) (items_of fs) (items_of fs) (element_pushed eq laws es f) (same_items eq laws (items_of fs))))

  pub appended_merged : (es fs : List (Element A)) → IsMerged eq es → IsMerged eq (fold (push_element eq) es fs)
  appended_merged es [] h = h
  appended_merged es (f ∷ fs) h = appended_merged (push_element eq es f) fs (merged_element eq es f h)
