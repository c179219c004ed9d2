-- Texts in `Pre`, whose white space is kept and whose lines end at newlines.
use Rattle.rule_examples.proofs.Common.{◌≡◌, refl, [], ◌∷◌, ◌++◌, codes, WhiteSpace, Normal, Pre, PreWrap, done, text, lines_in, line}

pub lines_that_fit_stay_as_they_are : {A : Type 0} (a b : A) →
    lines_in 20 (text Pre a b (codes "foo\nbar\nwib   asdf;\n") ∷ [])
    ≡ done (line a (codes "foo") ∷ line a (codes "bar") ∷ line a (codes "wib   asdf;") ∷ [])
lines_that_fit_stay_as_they_are a b = refl

pub a_newline_ends_an_empty_line : {A : Type 0} (a b : A) →
    lines_in 5 (text Pre a b (codes "a\n\nb") ∷ []) ≡ done (line a (codes "a") ∷ [] ∷ line a (codes "b") ∷ [])
a_newline_ends_an_empty_line a b = refl

pub no_line_comes_after_the_last_newline : {A : Type 0} (a b : A) →
    lines_in 5 (text Pre a b (codes "ab\n\ncd\n") ∷ []) ≡ done (line a (codes "ab") ∷ [] ∷ line a (codes "cd") ∷ [])
no_line_comes_after_the_last_newline a b = refl

pub spaces_alone_are_an_empty_line : {A : Type 0} (a b : A) →
    lines_in 5 (text Pre a b (codes "   \n") ∷ []) ≡ done ([] ∷ [])
spaces_alone_are_an_empty_line a b = refl

pub spaces_stay : {A : Type 0} (a b : A) →
    lines_in 8 (text Pre a b (codes "  ab  c ") ∷ []) ≡ done (line a (codes "  ab  c ") ∷ [])
spaces_stay a b = refl

pub spaces_have_their_annotation : {A : Type 0} (a b : A) →
    lines_in 5 (text Pre a b (codes "ab cd") ∷ []) ≡ done (line a (codes "ab cd") ∷ [])
spaces_have_their_annotation a b = refl

-- spaces before a word that doesn't fit are dropped as far as they fill the line, and what is left begins the next
pub spaces_that_fill_the_line_are_dropped : {A : Type 0} (a b : A) →
    lines_in 5 (text Pre a b (codes "       ab") ∷ []) ≡ done ((line a (codes "  ") ++ line b (codes "ab")) ∷ [])
spaces_that_fill_the_line_are_dropped a b = refl

-- fewer stay on the line
pub spaces_that_do_not_fill_the_line_stay : {A : Type 0} (a b : A) →
    lines_in 5 (text Pre a b (codes "  ") ∷ text Normal a b (codes "abcd") ∷ [])
    ≡ done (line a (codes "  ") ∷ line a (codes "abcd") ∷ [])
spaces_that_do_not_fill_the_line_stay a b = refl

-- in every mode
pub a_letter_comes_out_alone : {A : Type 0} (a b : A) (mode : WhiteSpace) →
    lines_in 5 (text mode a b (codes "ä") ∷ []) ≡ done (line a (codes "ä") ∷ [])
a_letter_comes_out_alone a b Normal = refl
a_letter_comes_out_alone a b Pre = refl
a_letter_comes_out_alone a b PreWrap = refl
