-- A run of `Normal` keeps its kept characters and its markers, each character under its own annotation.
use Rattle.tbr_model.proofs.Common.{◌≡◌, ℕ, ◌⊎◌, inl, inr, ◌==◌, false, not, if◌then◌else◌, Option, List, [], ◌∷◌, ◌++◌, refl, ap, sym, ◌∙◌, AllZip, Each, eqb-true, not_from_false, cases_Bool}
use Rattle.tbr_model.proofs.Common.{WhiteSpace, Normal, Pre, PreWrap, Entry, character, marker_entry, Item, glyph, marker, is_kept, kept_items, joined, Event, run_of, is_space_item, progress, waiting}
use Rattle.tbr_model.proofs.Common.{lines_of, HasMode}
use Rattle.tbr_model.specs.Shown.{without_spaces}
use Rattle.tbr_model.proofs.words.Items.{break_lost}
use Rattle.tbr_model.proofs.rule.Content.{StandsFor, by_entry, found_at_end, item_passes, passing, passing-append, markers_pass}
use Rattle.tbr_model.proofs.rule.Walk.{MayJoin}
use Rattle.tbr_model.proofs.rule.Markers.{waiting_none}
use Rattle.tbr_model.proofs.lines.WaitingMarkers.{IsNormalMode, looks_at_kept}
use Rattle.tbr_model.proofs.lines.EachItem.{Brings, each_on_lines}

module _ {A : Type 0} (columns : ℕ → Option ℕ) (width : ℕ) where
  abbrev kept : List (Item A) → List (Item A)
  kept is = passing (is_kept columns) is

  -- the kept ones among items that stand for entries
  one_kept : (c : ℕ) (x a b : A) (m : WhiteSpace) (is : List (Item A)) (es : List (Entry A)) →
      (x ≡ a) ⊎ ((x ≡ b) × IsNormalMode Pre) → kept is ≡ kept_items columns es →
      kept (glyph c x ∷ is) ≡ kept_items columns (character c a b m ∷ es)
  one_kept c x a b m is es (inr e) rest = absurd (let never : Pre ≡ Normal = e.1 in cc)
  one_kept c x a b m is es (inl e) rest = rw e (elim (cases_Bool (is_kept columns c)) [ inl v ↦ rw v (ap (λ (js : List (Item A)). glyph c a ∷ js) rest) | inr v ↦ rw v rest ])

  kept_alike : (is : List (Item A)) (es : List (Entry A)) → AllZip (StandsFor IsNormalMode) is es → kept is ≡ kept_items columns es
  kept_alike = by_entry IsNormalMode (λ is es. kept is ≡ kept_items columns es) refl one_kept (λ name is es rest. ap (λ (js : List (Item A)). marker name ∷ js) rest)

  -- the kept characters and the markers on the lines of a run, and the markers that wait
  kept_at_end : (es : List (Event A)) → Each (HasMode Normal) (run_of es) →
      kept (joined (lines_of columns width es)) ++ waiting columns width (progress columns width es) ≡ kept_items columns (run_of es)
  kept_at_end es modes =
      let left : List (Item A) = waiting columns width (progress columns width es) in
      let g = found_at_end (looks_at_kept columns) width es modes in
      ap (λ (is : List (Item A)). kept (joined (lines_of columns width es)) ++ is) (sym (markers_pass (is_kept columns) left (waiting_none columns width (progress columns width es))))
      ∙ sym (passing-append (is_kept columns) (joined (lines_of columns width es)) left)
      ∙ g.are ∙ kept_alike g.items (run_of es) g.stand

  -- ---- the lines have nothing else

  -- an item is a space, or it is kept
  abbrev SpaceOrKept : Item A → Type 0
  SpaceOrKept i = not (is_space_item i) ≡ item_passes (is_kept columns) i

  joins_so : (c : ℕ) (x : A) → MayJoin columns Normal c → SpaceOrKept (glyph c x)
  joins_so c x (inr blank) = absurd (blank.1 refl)
  joins_so c x (inl keeps) = elim (cases_Bool (c == 32)) [
    | inl e ↦ absurd (let lost : is_kept columns c ≡ false = ap (is_kept columns) (eqb-true c 32 e) ∙ break_lost columns 32 refl in cc)
    | inr e ↦ not_from_false (c == 32) e ∙ sym keeps
  ]

  all_so : (run : List (Entry A)) → Each (HasMode Normal) run → Each (Brings columns SpaceOrKept (λ a. Unit {0})) run
  all_so [] h = tt
  all_so (character c a b Normal ∷ run) h = ((tt, tt, λ x _ may. joins_so c x may), all_so run h.1)
  all_so (character c a b Pre ∷ run) h = cc
  all_so (character c a b PreWrap ∷ run) h = cc
  all_so (marker_entry name ∷ run) h = (refl, all_so run h.1)

  without_spaces_kept : (is : List (Item A)) → Each SpaceOrKept is → without_spaces is ≡ kept is
  without_spaces_kept [] h = refl
  without_spaces_kept (i ∷ is) h = rw (h.0) (ap (λ (js : List (Item A)). if item_passes (is_kept columns) i then i ∷ js else js) (without_spaces_kept is h.1))

  -- In a run of `Normal` the run's kept characters and markers are on the lines, and then in what waits, each character
  -- under its own annotation. Nothing else is there but the spaces that gaps are.
  pub normal_keeps : (es : List (Event A)) → Each (HasMode Normal) (run_of es) →
      without_spaces (joined (lines_of columns width es)) ++ waiting columns width (progress columns width es) ≡ kept_items columns (run_of es)
  normal_keeps es modes =
      let so = each_on_lines columns SpaceOrKept (λ a. Unit {0}) (λ a _. sym (break_lost columns 32 refl)) width es (all_so (run_of es) modes) in
      ap (λ (is : List (Item A)). is ++ waiting columns width (progress columns width es)) (without_spaces_kept (joined (lines_of columns width es)) so) ∙ kept_at_end es modes
