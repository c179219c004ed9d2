-- Markers at the end of the word under way can be taken out of the run.
use Rattle.tbr_model.proofs.Common.{◌≡◌, ℕ, ◌+◌, ◌-◌, ◌≤◌, ◌⊎◌, inl, inr, ◌==◌, ◌&&◌, ◌||◌, Bool, true, false, nat_le, nat_lt, if◌then◌else◌, is_some, Option, Some, None, List, [], ◌∷◌, ◌++◌, length}
use Rattle.tbr_model.proofs.Common.{refl, ap, sym, ◌∙◌, arith, append-nil, length-append, ltb-true, ltb-false, lt-ltb, cond_both, le-ltb, or_parts, cases_Bool, fold-append, WhiteSpace, Normal, Pre}
use Rattle.tbr_model.proofs.Common.{PreWrap, Entry, character, marker_entry, Item, items_width, has_character, is_blank, is_break, Event, call, entry, run_of, Space, Progress, at_start, pending_width}
use Rattle.tbr_model.proofs.Common.{space_of, is_white_item, without_leading, wrap_space_by, wrap_space, lay_here, lay_fresh, lay, flush_word, break_word, join, collapse, newline, tab, keep_space}
use Rattle.tbr_model.proofs.Common.{is_pre, passes, tag_of, keep_character, preserve, enter_normal, enter, step, progress, names_in_run, or-false}
use Rattle.tbr_model.specs.TakenOut.{without_markers}
use Rattle.tbr_model.proofs.lists.Each.{from_front}
use Rattle.tbr_model.proofs.words.Items.{items_width-append, has_character-append, back_has, no_character_no_width}
use Rattle.tbr_model.proofs.rule.HardLines.{run_of-append}
use Rattle.tbr_model.proofs.rule.Markers.{names_in_run-append}

-- ---- the last markers among events

pub without_no_event : {A : Type 0} (es : List (Event A)) → without_markers 0 es ≡ es
without_no_event [] = refl
without_no_event {A} (call ∷ es) = ap (λ (fs : List (Event A)). call ∷ fs) (without_no_event es)
without_no_event {A} (entry (character c a b mode) ∷ es) = ap (λ (fs : List (Event A)). entry (character c a b mode) ∷ fs) (without_no_event es)
without_no_event {A} (entry (marker_entry name) ∷ es) =
    rw (le-ltb (length (names_in_run (run_of es))) 0 (omega arith))
    (ap (λ (fs : List (Event A)). entry (marker_entry name) ∷ fs) (without_no_event es))

without_events-append : {A : Type 0} (n : ℕ) (es fs : List (Event A)) → length (names_in_run (run_of fs)) ≤ n →
    without_markers n (es ++ fs) ≡ without_markers (n - length (names_in_run (run_of fs))) es ++ without_markers n fs
without_events-append n [] fs h = refl
without_events-append {A} n (call ∷ es) fs h = ap (λ (gs : List (Event A)). call ∷ gs) (without_events-append n es fs h)
without_events-append {A} n (entry (character c a b mode) ∷ es) fs h = ap (λ (gs : List (Event A)). entry (character c a b mode) ∷ gs) (without_events-append n es fs h)
without_events-append {A} n (entry (marker_entry name) ∷ es) fs h = elim (cases_Bool (nat_lt (length (names_in_run (run_of es))) (n - length (names_in_run (run_of fs))))) [
  | inl e ↦
      let test : nat_lt (length (names_in_run (run_of (es ++ fs)))) n ≡ true = lt-ltb _ _ (omega (arith, both, ltb-true _ _ e)) in
      rw (test, e) (without_events-append n es fs h)
  | inr e ↦
      let test : nat_lt (length (names_in_run (run_of (es ++ fs)))) n ≡ false = le-ltb _ _ (omega (arith, both, ltb-false _ _ e)) in
      rw (test, e) (ap (λ (gs : List (Event A)). entry (marker_entry name) ∷ gs) (without_events-append n es fs h))
]
  where
    both : length (names_in_run (run_of (es ++ fs))) ≡ length (names_in_run (run_of es)) + length (names_in_run (run_of fs))
    both =
        ap (λ (gs : List (Entry A)). length (names_in_run gs)) (run_of-append es fs)
        ∙ ap length (names_in_run-append (run_of es) (run_of fs))
        ∙ length-append (names_in_run (run_of es)) (names_in_run (run_of fs))

-- one more event that is no marker, and one more marker that goes
without_plain : {A : Type 0} (n : ℕ) (es : List (Event A)) (x : Event A) → length (names_in_run (run_of (x ∷ []))) ≡ 0 →
    without_markers n (es ++ x ∷ []) ≡ without_markers n es ++ without_markers n (x ∷ [])
without_plain n es x none = grind (arith, without_events-append)

without_one : {A : Type 0} (n : ℕ) (es : List (Event A)) (name : List ℕ) → without_markers (n + 1) (es ++ entry (marker_entry name) ∷ []) ≡ without_markers n es
without_one {A} n es name = grind (arith, lt-ltb, without_events-append, append-nil)

-- ---- markers at the end of items

append_none : {X : Type 0} (a b : List X) → [] ≡ a ++ b → b ≡ []
append_none [] b h = sym h
append_none (x ∷ a) b h = cc

-- the back of a list is nothing, or it has the last item
last_of_back : {X : Type 0} (w : List X) (x : X) (front back : List X) → w ++ x ∷ [] ≡ front ++ back →
    (back ≡ []) ⊎ ((rest : List X) × (back ≡ rest ++ x ∷ []) × (w ≡ front ++ rest))
last_of_back w x [] back h = inr (w, sym h, refl)
last_of_back [] x (y ∷ front) back h = let none : [] ≡ front ++ back = cc in inl (append_none front back none)
last_of_back (z ∷ w) x (y ∷ front) back h =
    let same : z ≡ y = cc in
    let others : w ++ x ∷ [] ≡ front ++ back = cc in
    elim (last_of_back w x front back others) [
      | inl none ↦ inl none
      | inr r ↦ inr (r.0, r.1, (let p : w ≡ front ++ r.0 = r.2 in cc))
    ]

has_front : {A : Type 0} (is front ms : List (Item A)) → is ≡ front ++ ms → has_character ms ≡ false → has_character front ≡ has_character is
has_front is front ms e h = sym (ap has_character e ∙ has_character-append front ms ∙ ap (λ x. has_character front || x) h ∙ or-false (has_character front))

width_front : {A : Type 0} (columns : ℕ → Option ℕ) (is front ms : List (Item A)) → is ≡ front ++ ms → has_character ms ≡ false → items_width columns front ≡ items_width columns is
width_front columns is front ms e h = omega (arith, ap (items_width columns) e, items_width-append columns front ms, no_character_no_width columns ms h)

-- what is left after white space, with the white space
leading_front : {A : Type 0} (is front ms : List (Item A)) → without_leading is ≡ front ++ ms → (before : List (Item A)) × (is ≡ before ++ ms) × (without_leading before ≡ front)
leading_front [] [] ms h = ([], h, refl)
leading_front [] (j ∷ front) ms h = cc
leading_front {A} (i ∷ is) front ms h = elim (cases_Bool (is_white_item i)) [
  | inl w ↦ let (before, whole, left) = leading_front is front ms (rw w at h) in (i ∷ before, ap (λ (js : List (Item A)). i ∷ js) whole, rw w left)
  | inr w ↦ let e : i ∷ is ≡ front ++ ms = rw w at h in (front, e, kept front e w)
]
  where
    kept : (front : List (Item A)) → i ∷ is ≡ front ++ ms → is_white_item i ≡ false → without_leading front ≡ front
    kept [] e w = refl
    kept (j ∷ front) e w = let same : i ≡ j = cc in let not : is_white_item j ≡ false = rw (← same) w in rw not refl

-- ---- a step of the rule

module _ {A : Type 0} where
  abbrev with_word : Progress A → List (Item A) → Progress A
  with_word p is = record p { word = is }

  -- no markers end the word
  abbrev EndsWhole : Progress A → Type 0
  EndsWhole p = (front ms : List (Item A)) → has_character ms ≡ false → p.word ≡ front ++ ms → ms ≡ []

  -- markers that end the word after the step end it before, and the step goes the same way without them
  abbrev Leaves : (Progress A → Progress A) → Progress A → Type 0
  Leaves f p = (front ms : List (Item A)) → has_character ms ≡ false → (f p).word ≡ front ++ ms →
      (ms ≡ []) ⊎ ((before : List (Item A)) × (p.word ≡ before ++ ms) × (f (with_word p before) ≡ with_word (f p) front))

  joined_whole : (c : ℕ) (a : A) (mode : WhiteSpace) (p : Progress A) → EndsWhole (join c a mode p)
  joined_whole c a mode p front ms h e = grind (arith, last_of_back, back_has)

  whole_leaves : (f : Progress A → Progress A) (p : Progress A) → EndsWhole (f p) → Leaves f p
  whole_leaves f p whole front ms h e = inl (whole front ms h e)

  leaves_then : (f g : Progress A → Progress A) (p : Progress A) → Leaves f p → Leaves g (f p) → Leaves (λ q. g (f q)) p
  leaves_then f g p first second front ms h e = grind arith

  -- a test that markers at the end of the word don't change
  abbrev IsBlind : (Progress A → Bool) → Type 0
  IsBlind t = (p : Progress A) (before ms : List (Item A)) → p.word ≡ before ++ ms → has_character ms ≡ false → t (with_word p before) ≡ t p

  leaves_as : (F f : Progress A → Progress A) (p : Progress A) → F p ≡ f p →
      ((before ms : List (Item A)) → p.word ≡ before ++ ms → has_character ms ≡ false → F (with_word p before) ≡ f
      (with_word p before)) → Leaves f p → Leaves F p
  leaves_as F f p here there h front ms none e = grind arith

  leaves_if : (t : Progress A → Bool) (f g : Progress A → Progress A) (p : Progress A) → IsBlind t → (t p ≡ true → Leaves f p) → (t p ≡ false → Leaves g p) → Leaves (λ q. if t q then f q else g q) p
  leaves_if t f g p blind h k = grind (arith, cases_Bool, leaves_as)

  blind_character : IsBlind (λ q. has_character q.word)
  blind_character p before ms e h = has_front p.word before ms e h

  -- ---- what leaves the word

  collapse_leaves : (c : ℕ) (a : A) (p : Progress A) → Leaves (collapse c a) p
  collapse_leaves c a p = grind (arith, leaves_if)

  keep_space_leaves : (c : ℕ) (a : A) (mode : WhiteSpace) (o : Option ℕ) (p : Progress A) → Leaves (keep_space c a mode o) p
  keep_space_leaves c a mode None p = λ front ms h e. inr (front, e, refl)
  keep_space_leaves c a mode (Some n) p =
      leaves_if (λ q. has_character q.word) (join c a mode) (λ q. record q { space = space_of (pending_width q.space + n) a mode }) p blind_character
      (λ _. whole_leaves (join c a mode) p (joined_whole c a mode p)) (λ _ front ms h e. inr (front, e, refl))

module _ {A : Type 0} (columns : ℕ → Option ℕ) (width : ℕ) where
  unfit_by_leaves : (p : Progress A) (s : Space A) (mode : WhiteSpace) → Leaves (λ q. wrap_space_by columns width q s mode) p
  unfit_by_leaves p s Normal = λ front ms h e. inr (front, e, refl)
  unfit_by_leaves p s Pre = grind (arith, leaves_if)
  unfit_by_leaves p s PreWrap = grind (arith, leading_front)

  unfit_leaves : (p : Progress A) (o : Option (Space A)) → Leaves (λ q. wrap_space columns width q o) p
  unfit_leaves p None = λ front ms h e. inr (front, e, refl)
  unfit_leaves p (Some s) = unfit_by_leaves p s s.mode

  lay_fresh_leaves : (p : Progress A) → Leaves (lay_fresh columns width) p
  lay_fresh_leaves p = grind (arith, leaves_if, blind_character, append_none)

  lay_leaves : (p : Progress A) → Leaves (lay columns width) p
  lay_leaves p =
      leaves_if (λ q. nat_le (q.laid.width + (pending_width q.space + items_width columns q.word)) width) (lay_here columns) (λ q. lay_fresh columns width (wrap_space columns width q q.space)) p
      (λ q before ms e h. ap (λ n. nat_le (q.laid.width + (pending_width q.space + n)) width) (width_front columns q.word before ms e h))
      (λ _ front ms h e. inl (append_none front ms e))
      (λ _. leaves_then (λ q. wrap_space columns width q p.space) (lay_fresh columns width) p (unfit_leaves p p.space) (lay_fresh_leaves (wrap_space columns width p p.space)))

  flush_word_leaves : (p : Progress A) → Leaves (flush_word columns width) p
  flush_word_leaves p = leaves_if (λ q. has_character q.word) (lay columns width) (λ q. q) p blind_character
      (λ _. lay_leaves p) (λ _ front ms h e. inr (front, e, refl))

  break_word_leaves : (p : Progress A) → Leaves (break_word columns width) p
  break_word_leaves p = grind (arith, leaves_if, width_front, lay_leaves)

  -- ---- an event

  keep_character_leaves : (c : ℕ) (a b : A) (mode : WhiteSpace) (o : Option ℕ) (p : Progress A) → Leaves (keep_character columns width c a b mode o) p
  keep_character_leaves c a b mode None p = λ front ms h e. inr (front, e, refl)
  keep_character_leaves c a b mode (Some n) p =
      whole_leaves (keep_character columns width c a b mode (Some n)) p
      (cond_both (is_pre mode && passes columns width n p) _ _ EndsWhole
      (λ _. joined_whole c b mode (record p { continuation_flag = true; in_continuation = true }))
      (λ _. joined_whole c (tag_of p a b) mode p))

  preserve_leaves : (c : ℕ) (a b : A) (mode : WhiteSpace) (p : Progress A) → Leaves (preserve columns width c a b mode) p
  preserve_leaves c a b mode p = go (c == 8203) (c == 10) (c == 9) (is_blank c)
    where
      go : (zero_width newlines tabs blank : Bool) → Leaves
          (λ q. if zero_width then q
          else if newlines then newline (flush_word columns width q)
          else if tabs then tab width (tag_of q a b) (flush_word columns width q)
          else if blank then keep_space c (tag_of q a b) mode (columns c) q
          else keep_character columns width c a b mode (columns c) q) p
      go true newlines tabs blank = λ front ms h e. inr (front, e, refl)
      go false true tabs blank = leaves_then (flush_word columns width) newline p (flush_word_leaves p) (λ front ms h e. inr (front, e, refl))
      go false false true blank = leaves_then (flush_word columns width) (tab width (tag_of p a b)) p (flush_word_leaves p) (λ front ms h e. inr (front, e, refl))
      go false false false true = keep_space_leaves c (tag_of p a b) mode (columns c) p
      go false false false false = keep_character_leaves c a b mode (columns c) p

  enter_normal_leaves : (c : ℕ) (a : A) (p : Progress A) → Leaves (enter_normal columns width c a) p
  enter_normal_leaves c a p = go (is_break c) (is_some (columns c))
    where
      go : (breaks known : Bool) → Leaves (λ q. if breaks then collapse c a (break_word columns width q) else if known then join c a Normal q else q) p
      go true known = leaves_then (break_word columns width) (collapse c a) p (break_word_leaves p) (collapse_leaves c a (break_word columns width p))
      go false true = whole_leaves (join c a Normal) p (joined_whole c a Normal p)
      go false false = λ front ms h e. inr (front, e, refl)

  enter_leaves : (c : ℕ) (a b : A) (mode : WhiteSpace) (p : Progress A) → Leaves (λ q. enter columns width q (character c a b mode)) p
  enter_leaves c a b Normal p = enter_normal_leaves c (tag_of p a b) p
  enter_leaves c a b Pre p = preserve_leaves c a b Pre p
  enter_leaves c a b PreWrap p =
      leaves_then (λ q. if is_break c then break_word columns width q else q) (preserve columns width c a b PreWrap) p
      (leaves_if (λ q. is_break c) (break_word columns width) (λ q. q) p (λ q before ms e h. refl) (λ _. break_word_leaves p) (λ _ front ms h e. inr (front, e, refl)))
      (preserve_leaves c a b PreWrap (if is_break c then break_word columns width p else p))

  -- ---- a run

  -- without the markers that end the word
  abbrev Without : List (Event A) → List (Item A) → List (Item A) → Type 0
  Without es front ms = progress columns width (without_markers (length ms) es) ≡ with_word (progress columns width es) front

  abbrev CanTakeOut : List (Event A) → Type 0
  CanTakeOut es = (front ms : List (Item A)) → (progress columns width es).word ≡ front ++ ms → has_character ms ≡ false → Without es front ms

  -- no markers
  nothing_out : (es : List (Event A)) (front ms : List (Item A)) → (progress columns width es).word ≡ front ++ ms → ms ≡ [] → Without es front ms
  nothing_out es front ms e none = grind (arith, append-nil, without_no_event)

  progress-push : (es : List (Event A)) (x : Event A) → progress columns width (es ++ x ∷ []) ≡ step columns width (progress columns width es) x
  progress-push es x = fold-append (step columns width) at_start es (x ∷ [])

  -- an event that is no marker
  out_after : (es : List (Event A)) (x : Event A) → CanTakeOut es → Leaves (λ q. step columns width q x) (progress columns width es) →
      ((n : ℕ) → without_markers n (es ++ x ∷ []) ≡ without_markers n es ++ x ∷ []) → CanTakeOut (es ++ x ∷ [])
  out_after es x can leaves stays front ms e h = grind (arith, progress-push, nothing_out)

  out_marker : (es : List (Event A)) (name : List ℕ) → CanTakeOut es → CanTakeOut (es ++ entry (marker_entry name) ∷ [])
  out_marker es name can front ms e h = grind (arith, progress-push, last_of_back, nothing_out, or_parts, has_character-append, length-append, without_one)

  out_event : (es : List (Event A)) (x : Event A) → CanTakeOut es → CanTakeOut (es ++ x ∷ [])
  out_event es call can = out_after es call can (λ front ms h e. inr (front, e, refl)) (λ n. without_plain n es call refl)
  out_event es (entry (marker_entry name)) can = out_marker es name can
  out_event es (entry (character c a b mode)) can =
      out_after es (entry (character c a b mode)) can (enter_leaves c a b mode (progress columns width es)) (λ n. without_plain n es (entry (character c a b mode)) refl)

  -- Without the markers that end the word under way, a run is at the same place but for them.
  pub taken_events : (es : List (Event A)) (front ms : List (Item A)) → (progress columns width es).word ≡ front ++ ms → has_character ms ≡ false →
      progress columns width (without_markers (length ms) es) ≡ record (progress columns width es) { word = front }
  taken_events es = from_front CanTakeOut out_event [] es (λ front ms e h. nothing_out [] front ms e (append_none front ms e))
