-- Markers that are on no line where a run ends, and begin the next one.
use Rattle.rule_examples.proofs.Common.{◌≡◌, refl, true, false, [], ◌∷◌, codes, Normal, Pre, PreWrap, no_break_space, marker, done, example_columns, text, mark, flush, made, lines_in}
use Rattle.rule_examples.proofs.Common.{overflowing_lines_in, line}
use Rattle.rule_examples.specs.Scripts.{take, loose_of}

pub a_marker_alone_is_no_line : {A : Type 0} → lines_in {A = A} 9 (mark (codes "x") ∷ []) ≡ done []
a_marker_alone_is_no_line = refl

pub a_marker_after_all_words_waits : {A : Type 0} (a b : A) →
    lines_in 9 (text Normal a b (codes "ab ") ∷ mark (codes "x") ∷ flush ∷ text Normal a b (codes "cd") ∷ [])
    ≡ done (line a (codes "ab") ∷ (marker (codes "x") ∷ line a (codes "cd")) ∷ [])
a_marker_after_all_words_waits a b = refl

pub a_marker_without_a_word_waits : {A : Type 0} (a b : A) →
    lines_in 9 (mark (codes "x") ∷ flush ∷ text Normal a b (codes "cd") ∷ [])
    ≡ done ((marker (codes "x") ∷ line a (codes "cd")) ∷ [])
a_marker_without_a_word_waits a b = refl

-- a word that lost all its characters keeps its markers
pub a_marker_of_a_removed_word_waits : {A : Type 0} (a b : A) →
    lines_in 2 (text PreWrap a b (codes "ab ") ∷ text PreWrap a b (no_break_space ∷ []) ∷ mark (codes "x") ∷ flush
    ∷ text Normal a b (codes "cd") ∷ [])
    ≡ done (line a (codes "ab") ∷ (marker (codes "x") ∷ line a (codes "cd")) ∷ [])
a_marker_of_a_removed_word_waits a b = refl

-- so does a marker after a character that overflowed, also where the next run begins with an empty line
pub a_marker_waits_through_an_empty_line : {A : Type 0} (a b : A) →
    overflowing_lines_in 1 (text Normal a b (codes "漢") ∷ mark (codes "x") ∷ flush ∷ text Pre a b (codes "\n") ∷ flush
    ∷ text Pre a b (codes "a") ∷ [])
    ≡ done (line a (codes "漢") ∷ [] ∷ (marker (codes "x") ∷ line a (codes "a")) ∷ [])
a_marker_waits_through_an_empty_line a b = refl

-- ---- markers that are taken

pub markers_that_wait_can_be_taken : {A : Type 0} (a b : A) →
    loose_of (made example_columns 9 false
    (text Normal a b (codes "ab ") ∷ mark (codes "x") ∷ mark (codes "y") ∷ flush ∷ []))
    ≡ done (codes "x" ∷ codes "y" ∷ [])
markers_that_wait_can_be_taken a b = refl

pub taken_markers_are_gone : {A : Type 0} (a b : A) →
    lines_in 9 (text Normal a b (codes "ab ") ∷ mark (codes "x") ∷ flush ∷ take ∷ text Normal a b (codes "cd") ∷ [])
    ≡ done (line a (codes "ab") ∷ line a (codes "cd") ∷ [])
taken_markers_are_gone a b = refl

pub a_marker_of_a_word_with_a_character_is_not_taken : {A : Type 0} (a b : A) →
    loose_of (made example_columns 9 false (mark (codes "x") ∷ text Normal a b (codes "cd") ∷ [])) ≡ done []
a_marker_of_a_word_with_a_character_is_not_taken a b = refl

-- while a run is under way, one that is on the open line isn't taken
pub a_marker_on_the_open_line_is_not_taken : {A : Type 0} (a b : A) →
    loose_of (made example_columns 1 true
    (text Normal a b (codes "漢") ∷ mark (codes "x") ∷ text Normal a b (codes " ") ∷ mark (codes "y") ∷ []))
    ≡ done (codes "y" ∷ [])
a_marker_on_the_open_line_is_not_taken a b = refl

-- at its end it is, before those of the word
pub a_marker_of_the_open_line_waits : {A : Type 0} (a b : A) →
    loose_of (made example_columns 1 true
    (text Normal a b (codes "漢") ∷ mark (codes "x") ∷ text Normal a b (codes " ") ∷ mark (codes "y") ∷ flush ∷ []))
    ≡ done (codes "x" ∷ codes "y" ∷ [])
a_marker_of_the_open_line_waits a b = refl
