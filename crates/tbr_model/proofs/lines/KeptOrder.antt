-- The visible characters and the markers of a run keep their order.
use Rattle.tbr_model.proofs.Common.{◌≡◌, ℕ, ◌⊎◌, inl, inr, Option, List, [], ◌∷◌, ◌++◌, filter, refl, ap, sym, ◌∙◌, subst, arith, AllZip, and_left, cases_Bool, filter-append, WhiteSpace, Entry}
use Rattle.tbr_model.proofs.Common.{character, Item, glyph, marker, joined, Event, run_of, progress, waiting, lines_of, marker_items, is_visible}
use Rattle.tbr_model.specs.Shown.{names_waiting, is_visible_or_marker, is_entry_to_show, ShowsEntry, ShowsInOrder}
use Rattle.tbr_model.proofs.rule.Content.{LooksAtKept, AnyEntry, AnyMode, by_entry, found_at_end}
use Rattle.tbr_model.proofs.rule.Walk.{any_entries}
use Rattle.tbr_model.proofs.rule.Markers.{waiting_none, marker_items_alone}
use Rattle.tbr_model.proofs.rule.VisibleCharacters.{white_not_visible, under}

looks_in_order : {A : Type 0} (columns : ℕ → Option ℕ) → LooksAtKept {A = A} columns AnyEntry AnyMode (filter (is_visible_or_marker columns))
looks_in_order columns = grind (arith, filter-append, and_left, white_not_visible)

markers_all : {A : Type 0} (columns : ℕ → Option ℕ) (names : List (List ℕ)) → filter (is_visible_or_marker {A = A} columns) (marker_items names) ≡ marker_items names
markers_all columns [] = refl
markers_all {A} columns (name ∷ names) = ap (λ (is : List (Item A)). marker name ∷ is) (markers_all columns names)

module _ {A : Type 0} (columns : ℕ → Option ℕ) (width : ℕ) (Same : A → A → Type 0) (same : (x : A) → Same x x) where
  abbrev InOrder : List (Item A) → List (Entry A) → Type 0
  InOrder is es = AllZip (ShowsEntry Same) (filter (is_visible_or_marker columns) is) (filter (is_entry_to_show columns) es)

  one_in_order : (c : ℕ) (x a b : A) (m : WhiteSpace) (is : List (Item A)) (es : List (Entry A)) → (x ≡ a) ⊎ ((x ≡ b) × Unit {0}) → InOrder is es → InOrder (glyph c x ∷ is) (character c a b m ∷ es)
  one_in_order c x a b m is es either rest = elim (cases_Bool (is_visible columns c)) [ inl e ↦ rw e ((refl, under columns width Same same x a b either), rest) | inr e ↦ rw e rest ]

  -- The visible characters and the markers of a run are on its lines and then wait, in their order.
  pub shown_in_order : (es : List (Event A)) → ShowsInOrder columns Same (run_of es) (lines_of columns width es) (names_waiting columns width es)
  shown_in_order es =
      let g = found_at_end (looks_in_order columns) width es (any_entries (run_of es)) in
      let seen : List (Item A) → List (Item A) = filter (is_visible_or_marker columns) in
      let left : List (Item A) = waiting columns width (progress columns width es) in
      let wait : seen left ≡ marker_items (names_waiting columns width es) =
      ap seen (marker_items_alone left (waiting_none columns width (progress columns width es))) ∙ markers_all columns (names_waiting columns width es) in
      let all : seen (joined (lines_of columns width es)) ++ marker_items (names_waiting columns width es) ≡ seen g.items =
      ap (λ is. seen (joined (lines_of columns width es)) ++ is) (sym wait) ∙ sym (filter-append (is_visible_or_marker columns) (joined (lines_of columns width es)) left) ∙ g.are in
      subst (λ (is : List (Item A)). AllZip (ShowsEntry Same) is (filter (is_entry_to_show columns) (run_of es)))
      (sym all)
      (by_entry AnyMode InOrder tt one_in_order (λ name is fs rest. (refl, rest)) g.items (run_of es) g.stand)
