-- White space that collapses, and other characters at which a line may break or not.
use Rattle.rule_examples.proofs.Common.{◌≡◌, refl, [], ◌∷◌, ◌++◌, codes, Normal, no_break_space, zero_width_space, done, text, flush, lines_in, line}

-- and none comes in front of the first word or after the last
pub a_gap_is_one_space : {A : Type 0} (a b : A) →
    lines_in 9 (text Normal a b (codes " ab  cd ") ∷ []) ≡ done (line a (codes "ab cd") ∷ [])
a_gap_is_one_space a b = refl

pub spaces_alone_are_no_line : {A : Type 0} (a b : A) → lines_in 5 (text Normal a b (codes "   ") ∷ []) ≡ done []
spaces_alone_are_no_line a b = refl

pub a_gap_has_an_annotation_of_its_own : {A : Type 0} (a b c more : A) →
    lines_in 5 (text Normal a more (codes "ab") ∷ text Normal b more (codes " ") ∷ text Normal c more (codes "cd") ∷ [])
    ≡ done ((line a (codes "ab") ++ line b (codes " ") ++ line c (codes "cd")) ∷ [])
a_gap_has_an_annotation_of_its_own a b c more = refl

-- that of its first white space
pub a_gap_has_its_first_annotation : {A : Type 0} (a b more : A) →
    lines_in 9 (text Normal a more (codes "ab ") ∷ text Normal b more (codes "  cd") ∷ [])
    ≡ done ((line a (codes "ab ") ++ line b (codes "cd")) ∷ [])
a_gap_has_its_first_annotation a b more = refl

-- a newline before a link is its gap, and U+200B after it ends its word without one
pub a_gap_may_be_a_newline : {A : Type 0} (a b more : A) →
    lines_in 9 (text Normal a more (codes "a") ∷ text Normal b more (codes "\n") ∷ text Normal b more (codes "b")
    ∷ text Normal b more (zero_width_space ∷ []) ∷ text Normal a more (codes "c") ∷ [])
    ≡ done ((line a (codes "a") ++ line b (codes " b") ++ line a (codes "c")) ∷ [])
a_gap_may_be_a_newline a b more = refl

pub pending_space_ends_with_the_run : {A : Type 0} (a b : A) →
    lines_in 9 (text Normal a b (codes "ab ") ∷ flush ∷ text Normal a b (codes "cd") ∷ [])
    ≡ done (line a (codes "ab") ∷ line a (codes "cd") ∷ [])
pending_space_ends_with_the_run a b = refl

-- ---- U+200B and U+00A0

pub zero_width_spaces_break_lines : {A : Type 0} (a b : A) →
    lines_in 40 (text Normal a b (codes "Do break a line somewhere in "
    ++ codes "foo" ++ zero_width_space ∷ codes "bar" ++ zero_width_space ∷ codes "foo" ++ zero_width_space ∷ codes "bar"
    ++ zero_width_space ∷ codes "foo" ++ zero_width_space ∷ codes "bar" ++ zero_width_space ∷ codes "foo"
    ++ zero_width_space ∷ codes "bar" ++ zero_width_space ∷ codes "foo" ++ zero_width_space ∷ codes "bar"
    ++ zero_width_space ∷ codes "foo" ++ zero_width_space ∷ codes "bar") ∷ [])
    ≡ done (line a (codes "Do break a line somewhere in foobarfoo") ∷ line a (codes "barfoobarfoobarfoobarfoobar") ∷ [])
zero_width_spaces_break_lines a b = refl

pub zero_width_spaces_leave_no_space : {A : Type 0} (a b : A) →
    lines_in 5 (text Normal a b (codes "ab" ++ zero_width_space ∷ codes "cd") ∷ []) ≡ done (line a (codes "abcd") ∷ [])
zero_width_spaces_leave_no_space a b = refl

pub no_break_spaces_break_no_line : {A : Type 0} (a b : A) →
    lines_in 40 (text Normal a b (codes "Don't break a line between the words Foo" ++ no_break_space ∷ codes "and"
    ++ no_break_space ∷ codes "Bar") ∷ [])
    ≡ done (line a (codes "Don't break a line between the words")
    ∷ line a (codes "Foo" ++ no_break_space ∷ codes "and" ++ no_break_space ∷ codes "Bar") ∷ [])
no_break_spaces_break_no_line a b = refl

pub a_no_break_space_is_moved_with_its_word : {A : Type 0} (a b : A) →
    lines_in 4 (text Normal a b (codes "ab c" ++ no_break_space ∷ codes "d") ∷ [])
    ≡ done (line a (codes "ab") ∷ line a (codes "c" ++ no_break_space ∷ codes "d") ∷ [])
a_no_break_space_is_moved_with_its_word a b = refl

pub one_vanishes_and_the_other_stays : {A : Type 0} (a b : A) →
    lines_in 9 (text Normal a b (codes "a" ++ zero_width_space ∷ codes "b" ++ no_break_space ∷ codes "c") ∷ [])
    ≡ done (line a (codes "ab" ++ no_break_space ∷ codes "c") ∷ [])
one_vanishes_and_the_other_stays a b = refl
