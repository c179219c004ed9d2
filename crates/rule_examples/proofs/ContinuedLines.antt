-- Lines of `Pre` that are too long, and the annotation for where they go on.
use Rattle.rule_examples.proofs.Common.{◌≡◌, refl, [], ◌∷◌, ◌++◌, codes, Normal, Pre, done, text, lines_in, line}

-- what passes the end of a line has it, up to the newline
pub long_lines_are_continued : {A : Type 0} (a b : A) →
    lines_in 3 (text Pre a b (codes "abcde\nf") ∷ [])
    ≡ done (line a (codes "abc") ∷ line b (codes "de") ∷ line a (codes "f") ∷ [])
long_lines_are_continued a b = refl

pub a_line_is_continued_more_than_once : {A : Type 0} (a b : A) →
    lines_in 4 (text Pre a b (codes "abcdefghi\njk") ∷ [])
    ≡ done (line a (codes "abcd") ∷ line b (codes "efgh") ∷ line b (codes "i") ∷ line a (codes "jk") ∷ [])
a_line_is_continued_more_than_once a b = refl

pub a_line_that_fits_is_not_continued : {A : Type 0} (a b : A) →
    lines_in 4 (text Pre a b (codes "abcdef\n c") ∷ [])
    ≡ done (line a (codes "abcd") ∷ line b (codes "ef") ∷ line a (codes " c") ∷ [])
a_line_that_fits_is_not_continued a b = refl

-- where the word is moved, what would have passed the line's end has it too
pub a_moved_word_is_continued_within_a_line : {A : Type 0} (a b : A) →
    lines_in 3 (text Pre a b (codes " abcd") ∷ [])
    ≡ done (line a (codes " ") ∷ (line a (codes "ab") ++ line b (codes "c")) ∷ line b (codes "d") ∷ [])
a_moved_word_is_continued_within_a_line a b = refl

pub a_line_after_an_accent_is_continued : {A : Type 0} (a b : A) →
    lines_in 3 (text Pre a b (codes "éabcd") ∷ []) ≡ done (line a (codes "éab") ∷ line b (codes "cd") ∷ [])
a_line_after_an_accent_is_continued a b = refl

-- a newline in `Normal` doesn't switch back
pub a_newline_in_normal_text_ends_no_continuation : {A : Type 0} (a b : A) →
    lines_in 3 (text Pre a b (codes "abcd") ∷ text Normal a b (codes "\nef") ∷ [])
    ≡ done (line a (codes "abc") ∷ line b (codes "d") ∷ line b (codes "ef") ∷ [])
a_newline_in_normal_text_ends_no_continuation a b = refl
