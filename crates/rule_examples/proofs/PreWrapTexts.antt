-- Texts in `PreWrap`, whose white space is kept where no line breaks.
use Rattle.rule_examples.proofs.Common.{◌≡◌, refl, [], ◌∷◌, ◌++◌, codes, PreWrap, no_break_space, done, text, lines_in, line}

pub spaces_at_a_break_are_dropped : {A : Type 0} (a b : A) →
    lines_in 5 (text PreWrap a b (codes "ab  cd") ∷ []) ≡ done (line a (codes "ab") ∷ line a (codes "cd") ∷ [])
spaces_at_a_break_are_dropped a b = refl

-- with the white space at the beginning of the moved word
pub a_no_break_space_at_a_break_is_dropped : {A : Type 0} (a b : A) →
    lines_in 5 (text PreWrap a b (codes "ab " ++ no_break_space ∷ codes "cdef") ∷ [])
    ≡ done (line a (codes "ab") ∷ line a (codes "cdef") ∷ [])
a_no_break_space_at_a_break_is_dropped a b = refl

pub spaces_within_a_line_are_kept : {A : Type 0} (a b : A) →
    lines_in 6 (text PreWrap a b (codes "ab  cd ef") ∷ []) ≡ done (line a (codes "ab  cd") ∷ line a (codes "ef") ∷ [])
spaces_within_a_line_are_kept a b = refl

pub spaces_in_front_are_kept_and_last_ones_dropped : {A : Type 0} (a b : A) →
    lines_in 5 (text PreWrap a b (codes " ab  cd ") ∷ []) ≡ done (line a (codes " ab") ∷ line a (codes "cd") ∷ [])
spaces_in_front_are_kept_and_last_ones_dropped a b = refl

pub only_wider_words_are_cut : {A : Type 0} (a b : A) →
    lines_in 4 (text PreWrap a b (codes "a bcdefg hij") ∷ [])
    ≡ done (line a (codes "a") ∷ line a (codes "bcde") ∷ line a (codes "fg") ∷ line a (codes "hij") ∷ [])
only_wider_words_are_cut a b = refl

pub newlines_end_lines : {A : Type 0} (a b : A) →
    lines_in 5 (text PreWrap a b (codes "ab\n\ncd") ∷ []) ≡ done (line a (codes "ab") ∷ [] ∷ line a (codes "cd") ∷ [])
newlines_end_lines a b = refl

pub an_accent_ends_no_line : {A : Type 0} (a b : A) →
    lines_in 9 (text PreWrap a b (codes "éa b") ∷ []) ≡ done (line a (codes "éa b") ∷ [])
an_accent_ends_no_line a b = refl
