-- A hard line of `Pre` that fits isn't cut, and is under its own annotations.
use Rattle.tbr_wrap.proofs.Common.{◌≡◌, ℕ, ◌+◌, ◌-◌, ◌%◌, ◌≤◌, ◌==◌, inl, inr, nat_le, nat_lt, Bool, true, false, if◌then◌else◌, Option, Some, None, unwrap_or, List, [], ◌∷◌, map, fold, length, refl}
use Rattle.tbr_wrap.proofs.Common.{ap, sym, ◌∙◌, arith, subst, le-leb, lt-ltb, le-ltb, AllZip, Each, cond_both, Pre, Entry, character, marker_entry, Item, marker, items_width, has_character, is_blank}
use Rattle.tbr_wrap.proofs.Common.{joined, Laid, extended, end_if_character, Event, call, entry, run_of, Progress, spaces, pending_width, flush_word, join, newline, tab, tag_of, keep_space, passes}
use Rattle.tbr_wrap.proofs.Common.{keep_character, enter, step, finished, lines_of, HasMode, visible_glyphs, visible_entries, IsShown, items_width-append, no_character_no_width}
use Rattle.std.proofs.Common.{Contains}
use Rattle.std.proofs.lemmas.List.Elements.{All-contains_itself, recursion_from_All}
use Rattle.tbr_model.specs.Hard.{is_newline, is_visible_entry, ShowsVisible, hard_lines, Parted}
use Rattle.tbr_model.specs.Shown.{StandsUnderOwn, ShowsOwn, next_stop}
use Rattle.tbr_model.proofs.lists.Each.{filter-map}
use Rattle.tbr_model.proofs.words.Items.{pending_width-of}
use Rattle.tbr_model.proofs.lines.EachItem.{Brings, each_from}
use Rattle.tbr_model.proofs.rule.BlankLines.{mode_preserves}
use Rattle.tbr_model.proofs.rule.HardLineStart.{BeginsHardLine}
use Rattle.tbr_model.proofs.rule.HardLines.{NoNewline, hard_lines_parted}
use Rattle.tbr_model.proofs.rule.VisibleCharacters.{visible_from, visible_ended}
use Rattle.tbr_wrap.specs.Runs.{column_after, LineFits, HasOwnAnnotation, IsUnderOwn, ShowsFitting}

-- ---- columns

grows : {A : Type 0} (columns : ℕ → Option ℕ) (n : ℕ) (e : Entry A) → n ≤ column_after columns n e
grows columns n (marker_entry name) = omega arith
grows columns n (character c a b m) = go (c == 8203) (c == 9)
  where
    go : (u t : Bool) → n ≤ (let k : ℕ = if u then n else (if t then next_stop n else n + unwrap_or (columns c) 0) in k)
    go true t = omega arith
    go false true = omega arith
    go false false = omega arith

all_grow : {A : Type 0} (columns : ℕ → Option ℕ) (es : List (Entry A)) (n : ℕ) → n ≤ fold (column_after columns) n es
all_grow columns [] n = omega arith
all_grow columns (e ∷ es) n = omega (arith, grows columns n e, all_grow columns es (column_after columns n e))

-- ---- entries with their own annotation alone

abbrev own : {A : Type 0} → Entry A → Entry A
own (character c a b m) = character c a a m
own (marker_entry name) = marker_entry name

abbrev own_event : {A : Type 0} → Event A → Event A
own_event call = call
own_event (entry e) = entry (own e)

run_own : {A : Type 0} (es : List (Event A)) → run_of (map own_event es) ≡ map own (run_of es)
run_own [] = refl
run_own (call ∷ es) = run_own es
run_own {A} (entry e ∷ es) = ap (λ (rs : List (Entry A)). own e ∷ rs) (run_own es)

visible_own : {A : Type 0} (columns : ℕ → Option ℕ) (es : List (Entry A)) → visible_entries columns (map own es) ≡ map own (visible_entries columns es)
visible_own {A} columns = filter-map own (is_visible_entry columns) (is_visible_entry columns) same
  where
    same : (d : Entry A) → is_visible_entry columns (own d) ≡ is_visible_entry columns d
    same (character c a b m) = refl
    same (marker_entry name) = refl

under_own : {A : Type 0} (Same : A → A → Type 0) (gs : List (ℕ × A)) (es : List (Entry A)) → AllZip (IsShown Same) gs (map own es) → AllZip (StandsUnderOwn Same) gs es
under_own Same [] [] h = tt
under_own Same (g ∷ gs) (character c a b m ∷ es) h = ((h.0.0, elim h.0.1 [ inl s ↦ s | inr s ↦ s ]), under_own Same gs es h.1)
under_own Same (g ∷ gs) (marker_entry name ∷ es) h = absurd h.0
under_own Same _ _ h = absurd h

module _ {A : Type 0} (columns : ℕ → Option ℕ) (width : ℕ) where
  -- What came of the hard line takes n columns, and is on no ended line. No line goes on.
  record FitsSoFar (n : ℕ) (p : Progress A) : Type 0 where
    done : p.laid.done ≡ []
    reaches : p.laid.width + (pending_width p.space + items_width columns p.word) ≡ n
    flag : p.continuation_flag ≡ false
    in_continuation : p.in_continuation ≡ false

  -- ---- a word

  flush_fits : (n : ℕ) (p : Progress A) → n ≤ width → FitsSoFar n p → FitsSoFar n (flush_word columns width p) × has_character (flush_word columns width p).word ≡ false
  flush_fits n p fits k = grind (arith, le-leb, cond_both)

  -- ---- an entry

  join_fits : (c : ℕ) (x : A) (n m : ℕ) (p : Progress A) → columns c ≡ Some m → FitsSoFar n p → FitsSoFar (n + m) (join c x Pre p)
  join_fits c x n m p known k = grind (arith, items_width-append)

  unmoved : (n : ℕ) (p : Progress A) → FitsSoFar n p → FitsSoFar (n + 0) p
  unmoved n p k = subst (λ m. FitsSoFar m p) (let e : n ≡ n + 0 = omega arith in e) k

  kept_space_fits : (c : ℕ) (x : A) (n : ℕ) (o : Option ℕ) (p : Progress A) → columns c ≡ o → FitsSoFar n p → FitsSoFar (n + unwrap_or o 0) (keep_space c x Pre o p)
  kept_space_fits c x n None p known k = unmoved n p k
  kept_space_fits c x n (Some m) p known k =
      cond_both (has_character p.word) _ _ (FitsSoFar (n + m)) (λ _. join_fits c x n m p known k)
      (λ _. record { done = k.done; reaches = omega (arith, k.reaches, pending_width-of (pending_width p.space + m) x Pre); flag = k.flag; in_continuation = k.in_continuation })

  tag_own : (a b : A) (p : Progress A) → p.in_continuation ≡ false → tag_of p a b ≡ a
  tag_own a b p e = rw e refl

  character_fits : (c : ℕ) (a b : A) (n : ℕ) (o : Option ℕ) (p : Progress A) → columns c ≡ o → n + unwrap_or o 0 ≤ width → FitsSoFar n p →
      FitsSoFar (n + unwrap_or o 0) (keep_character columns width c a b Pre o p) × (keep_character columns width c a b Pre o p ≡ keep_character columns width c a a Pre o p)
  character_fits c a b n None p known fits k = (unmoved n p k, refl)
  character_fits c a b n (Some m) p known fits k =
      let within : passes columns width m p ≡ false = le-ltb _ _ (omega (arith, fits, k.reaches)) in
      rw (within, tag_own a b p k.in_continuation, tag_own a a p k.in_continuation) (join_fits c a n m p known k, refl)

  tab_fits : (a : A) (n : ℕ) (p : Progress A) → next_stop n ≤ width → has_character p.word ≡ false → FitsSoFar n p → FitsSoFar (next_stop n) (tab width a p)
  tab_fits a n p fits none k =
      subst (λ (l : Laid A). FitsSoFar (next_stop n) (record p { laid = l })) (sym put)
      (record { done = k.done; reaches = omega (arith, k.reaches); flag = k.flag; in_continuation = k.in_continuation })
    where
      column : p.laid.width + pending_width p.space ≡ n
      column = omega (arith, k.reaches, no_character_no_width columns p.word none)

      put : (tab width a p).laid ≡ extended p.laid (spaces (8 - n % 8) a) (8 - n % 8)
      put =
          let some : nat_lt n width ≡ true = lt-ltb _ _ (omega (arith, fits)) in
          let room : nat_le (8 - n % 8) (width - n) ≡ true = le-leb _ _ (omega (arith, fits)) in
          rw (column, some, room) refl

  -- it goes on to fit, and its continuation annotation makes no difference
  abbrev GoesOn : ℕ → Progress A → Entry A → Type 0
  GoesOn n p e = FitsSoFar (column_after columns n e) (enter columns width p e) × (enter columns width p e ≡ enter columns width p (own e))

  preserve_fits : (c : ℕ) (a b : A) (n : ℕ) (p : Progress A) → (c == 10) ≡ false → column_after columns n (character c a b Pre) ≤ width → FitsSoFar n p → GoesOn n p (character c a b Pre)
  preserve_fits c a b n p other fits k = go (c == 8203) refl (c == 9) refl
    where
      go : (u : Bool) → (c == 8203) ≡ u → (t : Bool) → (c == 9) ≡ t → GoesOn n p (character c a b Pre)
      go true e t f = rw e (k, refl)
      go false e true f =
          let small : next_stop n ≤ width = rw (e, f) at fits in
          let flushed = flush_fits n p (omega (arith, small)) k in
          rw (e, other, f, tag_own a b p k.in_continuation, tag_own a a p k.in_continuation) (tab_fits a n (flush_word columns width p) small flushed.1 flushed.0, refl)
      go false e false f =
          let small : n + unwrap_or (columns c) 0 ≤ width = rw (e, f) at fits in
          rw (e, other, f, tag_own a b p k.in_continuation, tag_own a a p k.in_continuation)
          (either (is_blank c) (kept_space_fits c a n (columns c) p refl k, refl)
          (character_fits c a b n (columns c) p refl small k))
        where
          either : (v : Bool) → {q r s t : Progress A} → FitsSoFar (n + unwrap_or (columns c) 0) q × (q ≡ r) → FitsSoFar (n + unwrap_or (columns c) 0) s × (s ≡ t) →
              FitsSoFar (n + unwrap_or (columns c) 0) (if v then q else s) × ((let x : Progress A = if v then q else s in x) ≡ (if v then r else t))
          either true x y = x
          either false x y = y

  enter_fits : (n : ℕ) (p : Progress A) (e : Entry A) → HasMode Pre e → is_newline e ≡ false → column_after columns n e ≤ width → FitsSoFar n p → GoesOn n p e
  enter_fits n p (character c a b m) mode other fits k = rw mode (preserve_fits c a b n p other fits k)
  enter_fits n p (marker_entry name) mode other fits k =
      (record { done = k.done; reaches = omega (arith, k.reaches, items_width-append columns p.word (marker name ∷ [])); flag = k.flag; in_continuation = k.in_continuation }, refl)

  -- ---- a hard line

  line_fits : (es : List (Event A)) (n : ℕ) (p : Progress A) → Each (HasMode Pre) (run_of es) → NoNewline (run_of es) → fold (column_after columns) n (run_of es) ≤ width → FitsSoFar n p →
      FitsSoFar (fold (column_after columns) n (run_of es)) (fold (step columns width) p es) × (fold (step columns width) p es ≡ fold (step columns width) p (map own_event es))
  line_fits [] n p pre plain fits k = (k, refl)
  line_fits (call ∷ es) n p pre plain fits k =
      line_fits es n (record p { in_continuation = p.continuation_flag }) pre plain fits (record { done = k.done; reaches = k.reaches; flag = k.flag; in_continuation = k.flag })
  line_fits (entry e ∷ es) n p pre plain fits k =
      let one = enter_fits n p e pre.0 plain.0 (omega (arith, fits, all_grow columns (run_of es) (column_after columns n e))) k in
      let rest = line_fits es (column_after columns n e) (enter columns width p e) pre.1 plain.1 fits one.0 in
      (rest.0, rest.1 ∙ ap (λ (q : Progress A). fold (step columns width) q (map own_event es)) one.1)

  start_fits : (p : Progress A) → BeginsHardLine p → FitsSoFar 0 p
  start_fits p f = grind (arith, no_character_no_width)

  -- its lines, before a newline and at the end of the run
  uncut : (n : ℕ) (p : Progress A) → FitsSoFar n p → (length (newline p).laid.done ≤ 1) × (length (end_if_character p.laid).done ≤ 1)
  uncut n p k = grind (arith, cond_both)

module _ {A : Type 0} (columns : ℕ → Option ℕ) (Same : A → A → Type 0) (same : (x : A) → Same x x) (width : ℕ) where
  brings_own : (h es : List (Entry A)) → Each (Contains h) es → Each (Brings columns (IsUnderOwn Same h) (HasOwnAnnotation Same h)) (map own es)
  brings_own h [] k = tt
  brings_own h (character c a b m ∷ es) k = let has : HasOwnAnnotation Same h a = (character c a b m, k.0, same a) in ((has, has, λ x under may. under), brings_own h es k.1)
  brings_own h (marker_entry name ∷ es) k = (tt, brings_own h es k.1)

  module _ (p : Progress A) (es : List (Event A)) (f : BeginsHardLine p) (pre : Each (HasMode Pre) (run_of es)) (plain : NoNewline (run_of es)) where
    abbrev q : Progress A
    q = fold (step columns width) p es

    stands : LineFits columns width (run_of es) → FitsSoFar columns width (fold (column_after columns) 0 (run_of es)) q × (q ≡ fold (step columns width) p (map own_event es))
    stands fits = line_fits columns width es 0 p pre plain fits (start_fits columns width p f)

    short : LineFits columns width (run_of es) → (length (newline (flush_word columns width q)).laid.done ≤ 1) × (length (finished columns width q).done ≤ 1)
    short fits =
        let n = fold (column_after columns) 0 (run_of es) in
        uncut columns width n (flush_word columns width q) (flush_fits columns width n q fits (stands fits).0).0

    shows_own : (ls : List (List (Item A))) → ShowsVisible columns Same (run_of (map own_event es)) ls → ShowsOwn columns Same (run_of es) ls
    shows_own ls shown =
        under_own Same (visible_glyphs columns (joined ls)) (visible_entries columns (run_of es))
        (subst (AllZip (IsShown Same) (visible_glyphs columns (joined ls))) (ap (visible_entries columns) (run_own es) ∙ visible_own columns (run_of es)) shown)

    -- what is shown of entries with their own annotation alone
    abbrev ShowsBoth : List (List (Item A)) → Type 0
    ShowsBoth ls = ShowsOwn columns Same (run_of es) ls × Each (IsUnderOwn Same (run_of es)) (joined ls)

    both : LineFits columns width (run_of es) → ShowsBoth (newline (flush_word columns width q)).laid.done × ShowsBoth (finished columns width q).done
    both fits =
        let h = run_of es in
        let has = brings_own h h (recursion_from_All (Contains h) h (All-contains_itself h)) in
        let under = each_from columns (IsUnderOwn Same h) (HasOwnAnnotation Same h) (λ a own. own) (λ name. tt) width p (map own_event es) f
        (subst (Each (Brings columns (IsUnderOwn Same h) (HasOwnAnnotation Same h))) (sym (run_own es)) has) in
        subst (λ (r : Progress A). ShowsBoth (newline (flush_word columns width r)).laid.done × ShowsBoth (finished columns width r).done) (sym (stands fits).1) (
          (shows_own (newline (flush_word columns width (fold (step columns width) p (map own_event es)))).laid.done (visible_ended columns width Same same p (map own_event es) f), under.0),
          (shows_own (finished columns width (fold (step columns width) p (map own_event es))).done (visible_from columns width Same same p (map own_event es) f), under.1),
        )

  -- In a run of `Pre` alone each hard line that fits isn't cut, and is under its own annotations.
  pub fitting_lines : (es : List (Event A)) → Each (HasMode Pre) (run_of es) → Parted (ShowsFitting columns Same width) (hard_lines (run_of es)) (lines_of columns width es)
  fitting_lines es pre =
      hard_lines_parted columns width (ShowsFitting columns Same width) (HasMode Pre) (mode_preserves Pre (λ e. cc))
      (λ p fs f modes plain. let s = short p fs f modes plain in let b = both p fs f modes plain in (
        record { uncut = λ fits. (s fits).0; own = λ fits. (b fits).0.0; under = λ fits. (b fits).0.1 },
        record { uncut = λ fits. (s fits).1; own = λ fits. (b fits).1.0; under = λ fits. (b fits).1.1 },
      )) es pre
