-- What a script gives that is shown raw or not, line after line.
use Rattle.tbr_runner.proofs.Common.{◌≡◌, ℕ, ◌+◌, ◌==◌, Bool, false, Option, None, Some, List, [], ◌∷◌, length, Result, Err, sym, ap, subst, ◌∙◌, false≢true, Decoration, RunError}
use Rattle.tbr_runner.proofs.Common.{NotACommand, lines_of, Decorator, Opening, opening_read, Place, Made, ended}
use Rattle.std.specs.Str.{IsUtf8}
use Rattle.std.proofs.lemmas.Str.{IsUtf8-nil}
use Rattle.tbr_script.specs.Script.{words_of}
use Rattle.tbr_commands.specs.Read.{line_read, opening_words}
use Rattle.tbr_commands.proofs.Commands.{unread}
use Rattle.tbr_program.specs.Safe.{shown_links}
use Rattle.tbr_program.specs.Commands.{after_shown_line, after_shown_read}
use Rattle.tbr_runner.specs.Scripts.{unless_refused, shown_on, shown_under, shown_by, shown_from, shown}

module _ {D M : Type 0} (raw : Bool) (columns : ℕ → Option ℕ) (decoration : Decoration D M) (number : ℕ) where
  pub at_shown_end : (p : Place columns decoration) (rest : List ℕ) → rest ≡ [] → shown_on raw columns decoration number (lines_of rest) p ≡ ended columns decoration number (shown_links raw p)
  at_shown_end p rest none = ap (λ bs. shown_on raw columns decoration number (lines_of bs) p) none

  -- a line that isn't UTF-8 is refused
  pub broken_refused : (p : Place columns decoration) (line : List ℕ) → (IsUtf8 line → ⊥) → after_shown_line columns decoration raw number line p ≡ Err (NotACommand number)
  broken_refused p [] broken = absurd (broken IsUtf8-nil)
  broken_refused p (b ∷ bs) broken = ap (λ read. after_shown_read columns decoration raw number read p) (sym (unread line_read (b ∷ bs) broken))

  -- what lines give from a place they give from the same one
  pub shown_same : (lines : List (List ℕ)) (p q : Place columns decoration) (given : Result (List ℕ) RunError) →
      p ≡ q → shown_on raw columns decoration number lines p ≡ given → shown_on raw columns decoration number lines q ≡ given
  shown_same lines p q given is h = subst (λ x. shown_on raw columns decoration number lines x ≡ given) is h

  -- what comes of the first line
  pub shown_line_made : (p : Place columns decoration) (rest line after : List ℕ) (made : Made columns decoration) → lines_of rest ≡ line ∷ lines_of after →
      after_shown_line columns decoration raw number line p ≡ made →
      shown_on raw columns decoration number (lines_of rest) p ≡ unless_refused (shown_on raw columns decoration (number + 1) (lines_of after)) made
  shown_line_made p rest line after made are is =
      ap (λ lines. shown_on raw columns decoration number lines p) are ∙ ap (unless_refused (shown_on raw columns decoration (number + 1) (lines_of after))) is

-- ---- the first command

module _ (raw : Bool) (columns : ℕ → Option ℕ) (number : ℕ) where
  pub first_shown : (rest line after : List ℕ) (found : Option Opening) → false ≡ (length line == 0) → lines_of rest ≡ line ∷ lines_of after → found ≡ opening_read line →
      shown_from raw columns number (lines_of rest) ≡ shown_by raw columns found number (lines_of after)
  first_shown rest [] after found some are is = absurd (false≢true some)
  first_shown rest (b ∷ bs) after found some are is = ap (shown_from raw columns number) are ∙ ap (λ o. shown_by raw columns o number (lines_of after)) (sym is)

  -- a line that isn't UTF-8 is no first command
  pub broken_first : (rest line after : List ℕ) → (IsUtf8 line → ⊥) → lines_of rest ≡ line ∷ lines_of after → shown_from raw columns number (lines_of rest) ≡ Err (NotACommand number)
  broken_first rest [] after broken are = absurd (broken IsUtf8-nil)
  broken_first rest (b ∷ bs) after broken are =
      ap (shown_from raw columns number) are ∙ ap (λ o. shown_by raw columns o number (lines_of after)) (sym (unread (λ ds. opening_words (words_of ds)) (b ∷ bs) broken))

-- what lines give under the decorator that it names, the script gives, which is another list with the same bytes
pub shown_opened : (raw : Bool) (columns : ℕ → Option ℕ) (decorator : Decorator) (opening : Opening) (number : ℕ)
    (lines : List (List ℕ)) (given outcome : Result (List ℕ) RunError) (script same : List ℕ) → script ≡ same → opening.decorator ≡ decorator →
    shown raw columns script ≡ shown_under raw columns opening.decorator opening number lines →
    shown_under raw columns decorator opening number lines ≡ given → given ≡ outcome → shown raw columns same ≡ outcome
shown_opened raw columns decorator opening number lines given outcome script same are is found gives ends =
    ap (shown raw columns) (sym are) ∙ found ∙ ap (λ d. shown_under raw columns d opening number lines) is ∙ gives ∙ ends
