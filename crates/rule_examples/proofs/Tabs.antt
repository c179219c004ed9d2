-- Tabs, in a mode that preserves white space.
use Rattle.rule_examples.proofs.Common.{◌≡◌, refl, [], ◌∷◌, ◌++◌, codes, Pre, done, text, lines_in, line}

pub a_tab_goes_to_a_multiple_of_eight : {A : Type 0} (a b : A) →
    lines_in 20 (text Pre a b (codes "ab\tc") ∷ []) ≡ done (line a (codes "ab      c") ∷ [])
a_tab_goes_to_a_multiple_of_eight a b = refl

pub a_tab_may_leave_one_column : {A : Type 0} (a b : A) →
    lines_in 9 (text Pre a b (codes "a\tb") ∷ []) ≡ done (line a (codes "a       b") ∷ [])
a_tab_may_leave_one_column a b = refl

-- or to the end of the line, which it ends
pub a_tab_ends_a_line_that_it_fills : {A : Type 0} (a b : A) →
    lines_in 5 (text Pre a b (codes "ab\tc") ∷ []) ≡ done (line a (codes "ab   ") ∷ line a (codes "c") ∷ [])
a_tab_ends_a_line_that_it_fills a b = refl

pub a_first_tab_ends_a_line_that_it_fills : {A : Type 0} (a b : A) →
    lines_in 5 (text Pre a b (codes "\tb") ∷ []) ≡ done (line a (codes "     ") ∷ line a (codes "b") ∷ [])
a_first_tab_ends_a_line_that_it_fills a b = refl

-- what then passes the end of the new line is continued
pub a_tab_after_a_full_line_begins_another : {A : Type 0} (a b : A) →
    lines_in 8 (text Pre a b (codes "abcdefgh\tb") ∷ [])
    ≡ done (line a (codes "abcdefgh") ∷ line a (codes "        ") ∷ line b (codes "b") ∷ [])
a_tab_after_a_full_line_begins_another a b = refl

pub a_tab_has_the_annotation_of_its_text : {A : Type 0} (a b c more : A) →
    lines_in 12 (text Pre a more (codes "a") ∷ text Pre b more (codes "\t") ∷ text Pre c more (codes "d") ∷ [])
    ≡ done ((line a (codes "a") ++ line b (codes "       ") ++ line c (codes "d")) ∷ [])
a_tab_has_the_annotation_of_its_text a b c more = refl

-- it counts space that waits, which is written after it
pub a_tab_comes_before_the_space_that_waits : {A : Type 0} (a b more : A) →
    lines_in 12 (text Pre a more (codes "  ") ∷ text Pre b more (codes "\tc") ∷ [])
    ≡ done ((line b (codes "      ") ++ line a (codes "  ") ++ line b (codes "c")) ∷ [])
a_tab_comes_before_the_space_that_waits a b more = refl
