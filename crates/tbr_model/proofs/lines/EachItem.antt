-- What holds of each item that the rule lays holds of each item on the lines of a run.
use Rattle.tbr_model.proofs.Common.{ℕ, inl, inr, Option, List, [], ◌∷◌, fold, sym, subst, Each, Entry, character, marker_entry, Item, glyph, marker, item_width, joined, Laid, extended, end_line}
use Rattle.tbr_model.proofs.Common.{Event, run_of, Progress, flush_word, newline, step, without_trailing, progress, finished, lines_of}
use Rattle.tbr_model.proofs.lists.Each.{each_append, each_front, each_back}
use Rattle.tbr_model.proofs.words.Items.{each_marker}
use Rattle.tbr_model.proofs.rule.HardLineStart.{BeginsHardLine}
use Rattle.tbr_model.proofs.rule.LaidText.{text, text-extended, text-end_line, trailing_cases}
use Rattle.tbr_model.proofs.rule.Walk.{MayJoin, KeptByRule, word_flushed, line_ended, run_ended, walked, run_walked}

-- an entry's annotations, and what it leaves in a word, have the properties
abbrev pub Brings : {A : Type 0} → (ℕ → Option ℕ) → (Item A → Type 0) → (A → Type 0) → Entry A → Type 0
Brings {A} columns P Of (character c a b mode) = Of a × Of b × ((x : A) → Of x → MayJoin columns mode c → P (glyph c x))
Brings columns P Of (marker_entry name) = P (marker name)

each_trailing : {A : Type 0} (P : Item A → Type 0) (is : List (Item A)) → Each P is → Each P (without_trailing is)
each_trailing P = trailing_cases (λ is js. Each P is → Each P js) (λ h. h) (λ i is js rest h. (h.0, rest h.1)) (λ i is s rest h. tt)

module _ {A : Type 0} (columns : ℕ → Option ℕ) (P : Item A → Type 0) (Of : A → Type 0) (space : (a : A) → Of a → P (glyph 32 a)) where
  abbrev AllLaid : Laid A → Type 0
  AllLaid l = Each P (text l)

  item_laid : (l : Laid A) (i : Item A) (n : ℕ) → P i → AllLaid l → AllLaid (extended l (i ∷ []) n)
  item_laid l i n h r = subst (Each P) (sym (text-extended l (i ∷ []) n)) (each_append P (text l) (i ∷ []) r (h, tt))

  line_laid : (l : Laid A) → AllLaid l → AllLaid (end_line l)
  line_laid l r = subst (Each P) (sym (text-end_line l)) r

  each_laid : (width : ℕ) → KeptByRule columns width (Brings columns P Of) Of (λ m. Unit {0}) ⊥ (λ es l w. AllLaid l × Each P w)
  each_laid width = record {
    tags = λ c a b m h. (h.0, h.1, tt);
    some = λ none. absurd none;
    bare = λ none es l w r h. absurd none;
    item = λ es l i w _ r. (item_laid l i (item_width columns i) r.1.0 r.0, r.1.1);
    wide = λ es l i w _ _ r. (line_laid (extended l (i ∷ []) (item_width columns i)) (item_laid l i (item_width columns i) r.1.0 r.0), r.1.1);
    space = λ es l w a _ h r. (item_laid l (glyph 32 a) 1 (space a h) r.0, r.1);
    ended = λ es l w r. (line_laid l r.0, r.1);
    trims = λ _ es l w r. (each_append P (joined l.done) (without_trailing l.line) (each_front P (joined l.done) l.line r.0) (each_trailing P l.line (each_back P (joined l.done) l.line r.0)), r.1);
    white = λ _ es l i w _ r. (r.0, r.1.1);
    joins = λ es l w c a b m x h either may r. (
      r.0,
      each_append P w (glyph c x ∷ []) r.1 (h.2 x (elim either [ inl e ↦ subst Of (sym e) h.0 | inr e ↦ subst Of (sym e.0) h.1 ]) may, tt),
    );
    marks = λ es l w name h r. (r.0, each_append P w (marker name ∷ []) r.1 (h, tt));
    lost = λ es l w c a b m _ r. r;
  }

  -- a property of spaces, and of the items that the run's entries bring
  pub each_on_lines : (width : ℕ) (es : List (Event A)) → Each (Brings columns P Of) (run_of es) → Each P (joined (lines_of columns width es))
  each_on_lines width es h =
      let s = run_walked (each_laid width) es (tt, tt) h in
      each_front P (joined (lines_of columns width es)) (finished columns width (progress columns width es)).line (run_ended (each_laid width) (run_of es) (progress columns width es) s).0

  -- the same of the lines from where a hard line begins, before a newline and at the end of the run
  pub each_from : ((name : List ℕ) → P (marker name)) → (width : ℕ) (p : Progress A) (es : List (Event A)) → BeginsHardLine p → Each (Brings columns P Of) (run_of es) →
      let q = fold (step columns width) p es in
      Each P (joined (newline (flush_word columns width q)).laid.done) × Each P (joined (finished columns width q).done)
  each_from mark width p es f h =
      let q : Progress A = fold (step columns width) p es in
      let r : Progress A = flush_word columns width q in
      let k = each_laid width in
      let s = walked k es [] p h (record { laid = (rw (f.done, f.line) tt, each_marker P mark p.word f.word); space = rw (f.space) tt; flags = ((λ _. tt), (λ _. tt), (λ _. tt)) }) in (
        each_front P (joined (newline r).laid.done) [] (line_ended k (run_of es) r (word_flushed k (run_of es) q s)).laid.0,
        each_front P (joined (finished columns width q).done) (finished columns width q).line (run_ended k (run_of es) q s).0,
      )
