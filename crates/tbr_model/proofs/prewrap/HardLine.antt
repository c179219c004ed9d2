-- What a block shows of a hard line of `PreWrap`: all follows from how it is wrapped.
use Rattle.tbr_model.proofs.Common.{◌≡◌, ◌≢◌, ℕ, ◌<◌, ◌≤◌, ◌⊎◌, inl, inr, ◌==◌, Bool, true, false, Option, Some, List, [], ◌∷◌, ◌++◌, map, flat_map, fold, length, refl, ap, sym, ◌∙◌, arith, subst}
use Rattle.tbr_model.proofs.Common.{Each, eqb_tells, PreWrap, Entry, character, marker_entry, Item, Event, run_of, flush_word, newline, step, finished, lines_of, HasMode, letters_of, entry_letters}
use Rattle.tbr_model.proofs.Common.{IsPrintableLine, IsSpaces, EndsWithNonBlank, stretches, IsCutOf, IsWrapped, blank_lines, ShowsPreWrap, hard_lines, Parted}
use Rattle.tbr_model.proofs.rule.HardLines.{ShowsOne, hard_lines_parted}
use Rattle.tbr_model.specs.Hard.{without_last_spaces}
use Rattle.tbr_model.proofs.rule.BlankLines.{blank_line_of, mode_preserves}
use Rattle.tbr_model.proofs.prewrap.OneWay.{wrapped_in_one_way}
use Rattle.tbr_model.proofs.prewrap.Stretches.{stretches_spaces, cut_if_wrapped}
use Rattle.tbr_model.proofs.prewrap.WrappedLines.{wrapped_line}

-- ---- a text without the spaces at its end

spaces_or : (cs : List ℕ) → IsSpaces cs ⊎ ¬ (IsSpaces cs)
spaces_or [] = inl tt
spaces_or (c ∷ cs) = grind (arith, eqb_tells, spaces_or cs)

-- it ends with a non-blank, or is nothing, and spaces are after it
last_spaces : (cs : List ℕ) → Each (λ c. 32 ≤ c) cs →
    (rest : List ℕ) × IsSpaces rest × (cs ≡ without_last_spaces cs ++ rest) ×
    ((without_last_spaces cs ≡ []) ⊎ EndsWithNonBlank (without_last_spaces cs))
last_spaces [] h = ([], tt, refl, inl refl)
last_spaces (c ∷ cs) h = let (rest, spaces, whole, ends) = last_spaces cs h.1 in go (without_last_spaces cs) refl rest spaces whole ends (eqb_tells c 32)
  where
    go : (ds : List ℕ) → without_last_spaces cs ≡ ds → (rest : List ℕ) → IsSpaces rest → cs ≡ ds ++ rest →
        (ds ≡ []) ⊎ EndsWithNonBlank ds → (((c == 32) ≡ true) × (c ≡ 32)) ⊎ (((c == 32) ≡ false) × (c ≢ 32)) →
        (more : List ℕ) × IsSpaces more × (c ∷ cs ≡ without_last_spaces (c ∷ cs) ++ more) × ((without_last_spaces (c ∷ cs) ≡ []) ⊎ EndsWithNonBlank (without_last_spaces (c ∷ cs)))
    go [] e rest spaces whole ends (inl w) = (c ∷ rest, (w.1, spaces), rw (e, w.0) (ap (λ xs. c ∷ xs) whole), rw (e, w.0) (inl refl))
    go [] e rest spaces whole ends (inr w) = (rest, spaces, rw (e, w.0) (ap (λ xs. c ∷ xs) whole), rw (e, w.0) (inr (w.1, λ k. omega (arith, h.0, k))))
    go (d ∷ ds) e rest spaces whole (inl none) either = cc
    go (d ∷ ds) e rest spaces whole (inr ends) either = (rest, spaces, rw e (ap (λ xs. c ∷ xs) whole), rw e (inr ends))

printable_text : {A : Type 0} (columns : ℕ → Option ℕ) (es : List (Entry A)) → IsPrintableLine columns es → Each (λ c. 32 ≤ c) (entry_letters es)
printable_text columns [] h = tt
printable_text columns (character c a b m ∷ es) h = (h.0.0, printable_text columns es h.1)
printable_text columns (marker_entry name ∷ es) h = absurd h.0

-- where it fits, the text is one line
one_line : (width : ℕ) (cs : List ℕ) → Each (λ c. 32 ≤ c) cs → ¬ (IsSpaces cs) → length (without_last_spaces cs) ≤ width → IsWrapped width [] cs (without_last_spaces cs ∷ [])
one_line width cs printable other fits = grind (arith, last_spaces)

-- What is shown of a hard line in a run of `PreWrap` alone.
prewrap_line : {A : Type 0} (columns : ℕ → Option ℕ) (width : ℕ) → columns 32 ≡ Some 1 → 0 < width → ShowsOne columns width (ShowsPreWrap {A = A} columns width) (HasMode PreWrap)
prewrap_line {A} columns width one some p es f modes no_newline = (
  shows true (newline (flush_word columns width (fold (step columns width) p es))).laid.done
      (λ printable other. (wraps printable other).0)
      (λ spaces. (blank_line_of columns width PreWrap (λ e. cc) p es f modes spaces).0),
  shows false (finished columns width (fold (step columns width) p es)).done
      (λ printable other. (wraps printable other).1)
      (λ spaces. (blank_line_of columns width PreWrap (λ e. cc) p es f modes spaces).1),
)
  where
    text : List ℕ
    text = entry_letters (run_of es)

    wraps : IsPrintableLine columns (run_of es) → ¬ (IsSpaces text) →
        IsWrapped width [] text (map letters_of (newline (flush_word columns width (fold (step columns width) p es))).laid.done)
        × IsWrapped width [] text (map letters_of (finished columns width (fold (step columns width) p es)).done)
    wraps printable other = wrapped_line columns width some one p es f modes printable other

    no_stretch : (more : Bool) → flat_map stretches (map letters_of (blank_lines {A = A} more)) ≡ []
    no_stretch true = refl
    no_stretch false = refl

    shows : (more : Bool) (ls : List (List (Item A))) →
        (IsPrintableLine columns (run_of es) → ¬ (IsSpaces text) → IsWrapped width [] text (map letters_of ls)) →
        (IsSpaces text → ls ≡ blank_lines more) →
        ShowsPreWrap columns width more (run_of es) ls
    shows more ls wrapped blank = record {
      fits = λ printable other fits.
          wrapped_in_one_way width [] text (without_last_spaces text ∷ []) (map letters_of ls)
          (one_line width text (printable_text columns (run_of es) printable) other fits) (wrapped printable other);
      whole = λ printable. elim (spaces_or text) [
        | inl spaces ↦ subst (λ (ss : List (List ℕ)). IsCutOf width ss (flat_map stretches (map letters_of ls))) (sym (stretches_spaces text spaces))
            (ap (λ (ms : List (List (Item A))). flat_map stretches (map letters_of ms)) (blank spaces) ∙ no_stretch more)
        | inr other ↦ cut_if_wrapped width [] text (map letters_of ls) (wrapped printable other)
      ];
      wrapped = wrapped;
      blank = blank;
    }

-- each hard line of a run of `PreWrap` alone
pub prewrap_shown : {A : Type 0} (columns : ℕ → Option ℕ) (width : ℕ) → columns 32 ≡ Some 1 → 0 < width → (es : List (Event A)) →
    Each (HasMode PreWrap) (run_of es) → Parted (ShowsPreWrap columns width) (hard_lines (run_of es)) (lines_of columns width es)
prewrap_shown columns width one some =
    hard_lines_parted columns width (ShowsPreWrap columns width) (HasMode PreWrap) (mode_preserves PreWrap (λ e. cc)) (prewrap_line columns width one some)
