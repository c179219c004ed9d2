-- A hard line of spaces alone leaves an empty line before a newline, and none at the end of a run.
use Rattle.tbr_model.proofs.Common.{◌≡◌, ◌≢◌, ℕ, true, false, Option, None, Some, List, [], ◌∷◌, fold, refl, ap, sym, ◌∙◌, subst, arith, Each, WhiteSpace, Normal, Pre, PreWrap, Entry, character}
use Rattle.tbr_model.proofs.Common.{marker_entry, marker, items_width, has_character, Event, call, entry, run_of, Progress, flush_word, break_word, tag_of, newline, keep_space, enter, step, finished}
use Rattle.tbr_model.proofs.Common.{HasMode, Preserves, entry_letters, IsSpaces, blank_lines}
use Rattle.tbr_model.proofs.lists.Each.{each_weaker}
use Rattle.tbr_model.proofs.words.Items.{has_character-append, no_character_no_width}
use Rattle.tbr_model.proofs.rule.HardLineStart.{BeginsHardLine}
use Rattle.tbr_model.proofs.rule.HardLines.{not_flushed}

-- an entry of a mode that isn't `Normal` preserves
pub mode_preserves : {A : Type 0} (mode : WhiteSpace) → mode ≢ Normal → (e : Entry A) → HasMode mode e → Preserves e
mode_preserves mode kept (character c a b m) h = λ e. kept (sym h ∙ e)
mode_preserves mode kept (marker_entry name) h = tt

-- Nothing is laid, and no character is in the word.
pub record IsBlankSoFar {A : Type 0} (p : Progress A) : Type 0 where
  pub done : p.laid.done ≡ []
  pub line : p.laid.line ≡ []
  pub word : has_character p.word ≡ false

module _ {A : Type 0} (columns : ℕ → Option ℕ) (width : ℕ) where
  pub not_broken : (p : Progress A) → has_character p.word ≡ false → break_word columns width p ≡ p
  not_broken p h = let none : items_width columns p.word ≡ 0 = no_character_no_width columns p.word h in rw none refl

  space_waits : (a : A) (mode : WhiteSpace) (o : Option ℕ) (p : Progress A) → IsBlankSoFar p → IsBlankSoFar (keep_space 32 a mode o p)
  space_waits a mode None p k = k
  space_waits a mode (Some n) p k = rw (k.word) (record { done = k.done; line = k.line; word = k.word })

  space_blank : (a b : A) (mode : WhiteSpace) (p : Progress A) → mode ≢ Normal → IsBlankSoFar p → IsBlankSoFar (enter columns width p (character 32 a b mode))
  space_blank a b Normal p preserving k = absurd (preserving refl)
  space_blank a b Pre p preserving k = space_waits (tag_of p a b) Pre (columns 32) p k
  space_blank a b PreWrap p preserving k =
      subst (λ (q : Progress A). IsBlankSoFar (keep_space 32 (tag_of q a b) PreWrap (columns 32) q)) (sym (not_broken p k.word)) (space_waits (tag_of p a b) PreWrap (columns 32) p k)

  pub fold_blank : (es : List (Event A)) (p : Progress A) → Each Preserves (run_of es) → IsSpaces (entry_letters (run_of es)) → IsBlankSoFar p → IsBlankSoFar (fold (step columns width) p es)
  fold_blank [] p modes spaces k = k
  fold_blank (call ∷ es) p modes spaces k = fold_blank es (record p { in_continuation = p.continuation_flag }) modes spaces (record { done = k.done; line = k.line; word = k.word })
  fold_blank (entry (marker_entry name) ∷ es) p modes spaces k =
      fold_blank es (enter columns width p (marker_entry name)) modes.1 spaces
      (record { done = k.done; line = k.line; word = has_character-append p.word (marker name ∷ []) ∙ rw (k.word) refl })
  fold_blank (entry (character c a b mode) ∷ es) p modes spaces k =
      fold_blank es (enter columns width p (character c a b mode)) modes.1 spaces.1
      (subst (λ (d : ℕ). IsBlankSoFar (enter columns width p (character d a b mode))) (sym spaces.0) (space_blank a b mode p modes.0 k))

  ended_blank : (p : Progress A) → IsBlankSoFar p → (newline (flush_word columns width p)).laid.done ≡ blank_lines true
  ended_blank p k = ap (λ (q : Progress A). (newline q).laid.done) (not_flushed columns width p k.word) ∙ rw (k.done, k.line) refl

  finished_blank : (p : Progress A) → IsBlankSoFar p → (finished columns width p).done ≡ blank_lines false
  finished_blank p k = grind (arith, not_flushed)

  -- the lines of a hard line of spaces alone, before a newline and at the end of the run
  pub blank_line : (p : Progress A) (es : List (Event A)) → BeginsHardLine p → Each Preserves (run_of es) → IsSpaces (entry_letters (run_of es)) →
      ((newline (flush_word columns width (fold (step columns width) p es))).laid.done ≡ blank_lines true) × ((finished columns width (fold (step columns width) p es)).done ≡ blank_lines false)
  blank_line p es f modes spaces = grind (arith, fold_blank, ended_blank, finished_blank)

  -- in a run of one preserving mode
  pub blank_line_of : (mode : WhiteSpace) → mode ≢ Normal → (p : Progress A) (es : List (Event A)) → BeginsHardLine p → Each (HasMode mode) (run_of es) → IsSpaces (entry_letters (run_of es)) →
      ((newline (flush_word columns width (fold (step columns width) p es))).laid.done ≡ blank_lines true) × ((finished columns width (fold (step columns width) p es)).done ≡ blank_lines false)
  blank_line_of mode kept p es f modes = blank_line p es f (each_weaker (HasMode mode) Preserves (mode_preserves mode kept) (run_of es) modes)
