-- What a block shows of one hard line of Pre.
use Rattle.tbr_model.proofs.Common.{◌≡◌, ℕ, if◌then◌else◌, Option, List, ◌∷◌, filter, fold, refl, ap, ◌∙◌, suc, ◌<◌, ◌≤◌, Bool, true, false, Some, None, [], ◌++◌, map, length, sym, arith, subst}
use Rattle.tbr_model.proofs.Common.{replicate, AllZip, Each, WhiteSpace, Pre, Entry, Item, is_kept, character, marker_entry, has_character, joined, Event, run_of, Progress, flush_word, step, newline}
use Rattle.tbr_model.proofs.Common.{finished, Space, pending_width, lines_of, HasMode, entry_letters, glyphs_of, letters_of, IsPrintableEntry, IsPrintableLine, IsSpaces, BeginsWithNonBlank}
use Rattle.tbr_model.proofs.Common.{IsCutEvery, blank_lines, ShowsPre, hard_lines, Parted, Laid, end_line}
use Rattle.tbr_model.proofs.rule.HardLines.{ShowsOne, hard_lines_parted}
use Rattle.tbr_model.proofs.tabs.HardLine.{IsLine, end_reads}
use Rattle.tbr_model.proofs.rule.HardLineStart.{BeginsHardLine}
use Rattle.tbr_model.proofs.rule.LaidText.{kept_of, kept-append, none_kept, joined-end_line}
use Rattle.tbr_model.proofs.rule.Content.{LooksAtKept, StandsFor, by_entry, found_from}
use Rattle.std.proofs.lemmas.Bool.{true_from_ne_false}
use Rattle.tbr_model.proofs.rule.BlankLines.{blank_line_of, mode_preserves}
use Rattle.tbr_model.proofs.prewrap.OneWay.{begins_not_spaces}
use Rattle.tbr_model.proofs.pre.WaitingWord.{Waits, line_waits, fresh_waits}
use Rattle.tbr_model.proofs.pre.CutWord.{IsCutOn, cut_laid}
use Rattle.tbr_model.proofs.pre.Tags.{IsTagged, tagged_main, tagged_continuation, pre_tags}

abbrev IsPre : WhiteSpace → Type 0
IsPre mode = mode ≡ Pre

looks_at_kept : {A : Type 0} (columns : ℕ → Option ℕ) → LooksAtKept {A = A} columns (HasMode Pre) IsPre (kept_of columns)
looks_at_kept columns = record { modes = λ c a b m h. h; append = kept-append columns; nothing = refl; lost = λ c a h. rw h refl; white = λ m c a h. cc }

-- the kept ones among items that stand for entries
kept_alike : {A : Type 0} (columns : ℕ → Option ℕ) (is : List (Item A)) (es : List (Entry A)) → AllZip (StandsFor IsPre) is es → kept_of columns is ≡ filter (is_kept columns) (entry_letters es)
kept_alike columns =
    by_entry IsPre (λ is es. kept_of columns is ≡ filter (is_kept columns) (entry_letters es)) refl
    (λ c x a b m is es either rest. ap (λ cs. if is_kept columns c then c ∷ cs else cs) rest) (λ name is es rest. rest)

-- the kept characters of a hard line's own lines are its own, before a newline and at the end
pub pre_kept : {A : Type 0} (columns : ℕ → Option ℕ) (width : ℕ) (p : Progress A) (es : List (Event A)) → BeginsHardLine p → Each (HasMode Pre) (run_of es) →
    let q = fold (step columns width) p es in
    let ks = filter (is_kept columns) (entry_letters (run_of es)) in
    (kept_of columns (joined (newline (flush_word columns width q)).laid.done) ≡ ks) × (kept_of columns (joined (finished columns width q).done) ≡ ks)
pre_kept columns width p es f pre =
    let (ended, finished) = found_from (looks_at_kept columns) (none_kept columns) width p es f (λ _. refl) pre in
    (ended.are ∙ kept_alike columns ended.items (run_of es) ended.stand, finished.are ∙ kept_alike columns finished.items (run_of es) finished.stand)

printable_length : {A : Type 0} (columns : ℕ → Option ℕ) (h : List (Entry A)) → Each (IsPrintableEntry columns) h → length (entry_letters h) ≡ length h
printable_length columns [] printable = refl
printable_length columns (character c a b m ∷ h) printable = ap suc (printable_length columns h printable.1)
printable_length columns (marker_entry name ∷ h) printable = absurd printable.0

-- ---- a hard line

module _ {A : Type 0} (columns : ℕ → Option ℕ) (width : ℕ) (p : Progress A) (es : List (Event A)) (one_space : columns 32 ≡ Some 1) (f : BeginsHardLine p) (pre : Each (HasMode Pre) (run_of es)) where
  abbrev q : Progress A
  q = fold (step columns width) p es

  abbrev laid : Laid A
  laid = (flush_word columns width q).laid

  waits : IsPrintableLine columns (run_of es) → Waits columns (entry_letters (run_of es)) q
  waits = line_waits columns width one_space es [] p (fresh_waits columns width one_space p f) pre

  some_waits : IsPrintableLine columns (run_of es) → ¬ (IsSpaces (entry_letters (run_of es))) → has_character q.word ≡ true
  some_waits printable other = true_from_ne_false (has_character q.word) (λ e. other ((waits printable).spaces e))

  line_fits : IsPrintableLine columns (run_of es) → ¬ (IsSpaces (entry_letters (run_of es))) → length (run_of es) ≤ width → IsLine (entry_letters (run_of es)) laid
  line_fits printable other fits =
      end_reads columns width (entry_letters (run_of es)) q (waits printable).text (omega (arith, fits, printable_length columns (run_of es) printable)) (some_waits printable other)

  line_cut : 0 < width → IsPrintableLine columns (run_of es) → BeginsWithNonBlank (entry_letters (run_of es)) → q.space ≡ None → IsCutOn width q.word laid
  line_cut wide printable begins none =
      cut_laid columns width (entry_letters (run_of es)) q wide (waits printable) none (some_waits printable (begins_not_spaces (entry_letters (run_of es)) begins))

  module _ (Same : A → A → Type 0) (wide : 0 < width) (reflexive : (x : A) → Same x x) where
    tags : IsPrintableLine columns (run_of es) → BeginsWithNonBlank (entry_letters (run_of es)) → IsTagged Same width 0 (glyphs_of q.word) (run_of es) × (q.space ≡ None)
    tags printable begins = pre_tags columns Same width reflexive one_space p es f pre printable begins

    -- the lines before a newline, or others that are the same where the last one has a character
    shows : (more : Bool) (ls : List (List (Item A))) → filter (is_kept columns) (letters_of (joined ls)) ≡ filter (is_kept columns) (entry_letters (run_of es)) →
        (IsSpaces (entry_letters (run_of es)) → ls ≡ blank_lines more) →
        (has_character laid.line ≡ true → (end_line laid).done ≡ ls) →
        (IsLine (entry_letters (run_of es)) laid → map letters_of ls ≡ entry_letters (run_of es) ∷ []) →
        ShowsPre columns Same width more (run_of es) ls
    shows more ls kept blank alike is_line = record {
      kept = kept;
      fits = λ printable other fits. is_line (line_fits printable other fits);
      cut = λ printable begins.
          (let none = (tags printable begins).1 in
          let k = line_cut wide printable begins none in
          let word : letters_of q.word ≡ entry_letters (run_of es) = ap (λ (o : Option (Space A)). replicate (pending_width o) 32 ++ letters_of q.word) (sym none)
          ∙ ap (λ (is : List (Item A)). letters_of is ++ (replicate (pending_width q.space) 32 ++ letters_of q.word)) (sym (waits printable).line) ∙ (waits printable).text.text in
          subst (λ (ms : List (List (Item A))). IsCutEvery width (entry_letters (run_of es)) (map letters_of ms))
          (alike k.last)
          (subst (λ (cs : List ℕ). IsCutEvery width cs (map letters_of (end_line laid).done)) word k.cut));
      blank = blank;
      main = λ printable begins. rw (glyphs printable begins) (tagged_main Same width 0 width (glyphs_of q.word) (run_of es) (omega arith) (tags printable begins).0);
      continuation = λ printable begins. rw (glyphs printable begins) (tagged_continuation Same width 0 width (glyphs_of q.word) (run_of es) (omega arith) (tags printable begins).0);
    }
      where
        glyphs : IsPrintableLine columns (run_of es) → BeginsWithNonBlank (entry_letters (run_of es)) → glyphs_of (joined ls) ≡ glyphs_of q.word
        glyphs printable begins =
            let k = line_cut wide printable begins (tags printable begins).1 in
            ap (λ (ms : List (List (Item A))). glyphs_of (joined ms)) (sym (alike k.last)) ∙ ap glyphs_of (joined-end_line laid ∙ k.whole)

-- one hard line of a run of Pre, before a newline and at the end of the run
pre_line : {A : Type 0} (columns : ℕ → Option ℕ) (Same : A → A → Type 0) (width : ℕ) → columns 32 ≡ Some 1 → 0 < width →
    ((x : A) → Same x x) → ShowsOne columns width (ShowsPre columns Same width) (HasMode Pre)
pre_line columns Same width one_space wide reflexive p es f pre more =
    let q = fold (step columns width) p es in
    let kept = pre_kept columns width p es f pre in
    let blank = λ (spaces : IsSpaces (entry_letters (run_of es))). blank_line_of columns width Pre (λ e. cc) p es f pre spaces in (
      shows columns width p es one_space f pre Same wide reflexive true (newline (flush_word columns width q)).laid.done kept.0 (λ spaces. (blank spaces).0) (λ _. refl) (λ k. k.0),
      shows columns width p es one_space f pre Same wide reflexive false (finished columns width q).done kept.1 (λ spaces. (blank spaces).1) (λ has. rw has refl) (λ k. k.1),
    )

-- each hard line of a run of `Pre` alone
pub pre_shown : {A : Type 0} (columns : ℕ → Option ℕ) (Same : A → A → Type 0) (width : ℕ) → columns 32 ≡ Some 1 → 0 < width → ((x : A) → Same x x) → (es : List (Event A)) →
    Each (HasMode Pre) (run_of es) → Parted (ShowsPre columns Same width) (hard_lines (run_of es)) (lines_of columns width es)
pre_shown columns Same width one some same =
    hard_lines_parted columns width (ShowsPre columns Same width) (HasMode Pre) (mode_preserves Pre (λ e. cc)) (pre_line columns Same width one some same)
