-- A line ends only at a newline, or where what comes next doesn't fit.
use Rattle.tbr_model.proofs.Common.{◌≡◌, ◌≢◌, ℕ, ◌+◌, ◌≤◌, ◌⊎◌, inl, inr, ◌==◌, ◌&&◌, ◌||◌, nat_lt, false, if◌then◌else◌, is_some, Option, Some, None, List, [], ◌∷◌, ◌++◌, refl, ap, ◌∙◌, arith}
use Rattle.tbr_model.proofs.Common.{le-leb, lt-ltb, cond_both, or_parts, WhiteSpace, Normal, Pre, PreWrap, Entry, character, marker_entry, Item, items_width, has_character, is_break, Laid, Progress}
use Rattle.tbr_model.proofs.Common.{pending_width, lay, flush_word, break_word, newline, tab, keep_space, is_pre, passes, tag_of, keep_character, preserve, enter, finished}
use Rattle.tbr_model.specs.Shown.{columns_so_far, next_stop, is_newline_or_tab, HasOneMore}
use Rattle.tbr_model.proofs.normal.StaysLaid.{collapse_laid}
use Rattle.tbr_model.proofs.words.Items.{no_character_no_width}
use Rattle.tbr_model.proofs.rule.HardLines.{flush_flushes}

module _ {A : Type 0} (columns : ℕ → Option ℕ) (width : ℕ) where
  -- the same lines are done, and as many columns are under way
  record Rests (p q : Progress A) : Type 0 where
    done : q.laid.done ≡ p.laid.done
    so_far : columns_so_far columns q ≡ columns_so_far columns p

  unchanged : (p : Progress A) → Rests p p
  unchanged p = record { done = refl; so_far = refl }

  lay_rests : (p : Progress A) → columns_so_far columns p ≤ width → Rests p (lay columns width p)
  lay_rests p fits = grind (arith, le-leb)

  flush_rests : (p : Progress A) → columns_so_far columns p ≤ width → Rests p (flush_word columns width p)
  flush_rests p fits = cond_both (has_character p.word) _ _ (Rests p) (λ _. lay_rests p fits) (λ _. unchanged p)

  break_rests : (p : Progress A) → columns_so_far columns p ≤ width → Rests p (break_word columns width p)
  break_rests p fits = cond_both (nat_lt 0 (items_width columns p.word)) _ _ (Rests p) (λ _. lay_rests p fits) (λ _. unchanged p)

  -- ---- entries that end no line

  abbrev Ends : Progress A → Progress A → Type 0
  Ends p q = q.laid.done ≡ p.laid.done

  keep_space_done : (c : ℕ) (a : A) (mode : WhiteSpace) (o : Option ℕ) (p : Progress A) → Ends p (keep_space c a mode o p)
  keep_space_done c a mode None p = refl
  keep_space_done c a mode (Some n) p = cond_both (has_character p.word) _ _ (Ends p) (λ _. refl) (λ _. refl)

  keep_character_done : (c : ℕ) (a b : A) (mode : WhiteSpace) (o : Option ℕ) (p : Progress A) → Ends p (keep_character columns width c a b mode o p)
  keep_character_done c a b mode None p = refl
  keep_character_done c a b mode (Some n) p = cond_both (is_pre mode && passes columns width n p) _ _ (Ends p) (λ _. refl) (λ _. refl)

  preserve_done : (c : ℕ) (a b : A) (mode : WhiteSpace) (p : Progress A) → (c == 10) || (c == 9) ≡ false → Ends p (preserve columns width c a b mode p)
  preserve_done c a b mode p other = grind (arith, or_parts, cond_both, keep_space_done, keep_character_done)

  pub entry_ends_none : (p : Progress A) (e : Entry A) → columns_so_far columns p ≤ width → is_newline_or_tab e ≡ false → (enter columns width p e).laid.done ≡ p.laid.done
  entry_ends_none p (marker_entry name) fits other = refl
  entry_ends_none p (character c a b Normal) fits other =
      cond_both (is_break c) _ _ (Ends p) (λ _. ap (λ (l : Laid A). l.done) (collapse_laid c (tag_of p a b) (break_word columns width p)) ∙ (break_rests p fits).done)
      (λ _. cond_both (is_some (columns c)) _ _ (Ends p) (λ _. refl) (λ _. refl))
  entry_ends_none p (character c a b Pre) fits other = preserve_done c a b Pre p other
  entry_ends_none p (character c a b PreWrap) fits other =
      let q : Progress A = if is_break c then break_word columns width p else p in
      preserve_done c a b PreWrap q other ∙ cond_both (is_break c) _ _ (Ends p) (λ _. (break_rests p fits).done) (λ _. refl)

  -- ---- a newline and a tab

  flushed_newline : (p : Progress A) → columns_so_far columns p ≤ width → HasOneMore p.laid.done (newline (flush_word columns width p)).laid.done
  flushed_newline p fits =
      let q : Progress A = flush_word columns width p in
      (q.laid.line, ap (λ (ls : List (List (Item A))). ls ++ q.laid.line ∷ []) (flush_rests p fits).done)

  pub newline_ends_one : (p : Progress A) (a b : A) (mode : WhiteSpace) → mode ≢ Normal → columns_so_far columns p ≤ width →
      HasOneMore p.laid.done (enter columns width p (character 10 a b mode)).laid.done
  newline_ends_one p a b Normal preserving fits = absurd (preserving refl)
  newline_ends_one p a b Pre preserving fits = flushed_newline p fits
  newline_ends_one p a b PreWrap preserving fits =
      let r = break_rests p fits in
      let q : Progress A = break_word columns width p in
      let (line, is) = flushed_newline q (omega (arith, fits, r.so_far)) in
      (line, is ∙ ap (λ (ls : List (List (Item A))). ls ++ line ∷ []) r.done)

  tab_done : (q : Progress A) (a : A) → next_stop (q.laid.width + pending_width q.space) ≤ width → Ends q (tab width a q)
  tab_done q a fits = grind (arith, lt-ltb, le-leb)

  flushed_tab : (p : Progress A) (a : A) → next_stop (columns_so_far columns p) ≤ width → Ends p (tab width a (flush_word columns width p))
  flushed_tab p a fits = grind (arith, flush_rests, no_character_no_width, flush_flushes, tab_done, ℕ)

  pub tab_ends_none : (p : Progress A) (a b : A) (mode : WhiteSpace) → mode ≢ Normal → next_stop (columns_so_far columns p) ≤ width →
      (enter columns width p (character 9 a b mode)).laid.done ≡ p.laid.done
  tab_ends_none p a b Normal preserving fits = absurd (preserving refl)
  tab_ends_none p a b Pre preserving fits = flushed_tab p (tag_of p a b) fits
  tab_ends_none p a b PreWrap preserving fits = grind (arith, break_rests, flushed_tab, ℕ)

  -- ---- the end of a run

  pub end_ends_one : (p : Progress A) → columns_so_far columns p ≤ width → ((finished columns width p).done ≡ p.laid.done) ⊎ HasOneMore p.laid.done (finished columns width p).done
  end_ends_one p fits =
      let q : Progress A = flush_word columns width p in
      let r = flush_rests p fits in
      cond_both (has_character q.laid.line) _ _ (λ (l : Laid A). (l.done ≡ p.laid.done) ⊎ HasOneMore p.laid.done l.done)
      (λ _. inr (q.laid.line, ap (λ (ls : List (List (Item A))). ls ++ q.laid.line ∷ []) r.done)) (λ _. inl r.done)

pub ruleset end_laws = (entry_ends_none, tab_ends_none, newline_ends_one, end_ends_one)
