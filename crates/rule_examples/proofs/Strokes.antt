-- Characters that take no column.
use Rattle.rule_examples.proofs.Common.{◌≡◌, refl, [], ◌∷◌, ◌++◌, codes, Normal, stroke, done, text, lines_in, line}

-- a struck out text, whose space is struck out too
pub strokes_take_no_column : {A : Type 0} (a b : A) →
    lines_in 3 (text Normal a b (codes "a" ++ stroke ∷ codes " " ++ stroke ∷ codes "b" ++ stroke ∷ []) ∷ [])
    ≡ done (line a (codes "a" ++ stroke ∷ codes " " ++ stroke ∷ codes "b" ++ stroke ∷ []) ∷ [])
strokes_take_no_column a b = refl

-- the stroke of a space is a last word of no width
pub a_last_word_of_no_width_stays : {A : Type 0} (a b : A) →
    lines_in 1 (text Normal a b (codes "a" ++ stroke ∷ codes " " ++ stroke ∷ []) ∷ [])
    ≡ done (line a (codes "a" ++ stroke ∷ []) ∷ line a (stroke ∷ []) ∷ [])
a_last_word_of_no_width_stays a b = refl

pub a_stroke_stays_on_a_full_line : {A : Type 0} (a b : A) →
    lines_in 2 (text Normal a b (codes "ab" ++ stroke ∷ codes "c") ∷ [])
    ≡ done (line a (codes "ab" ++ stroke ∷ []) ∷ line a (codes "c") ∷ [])
a_stroke_stays_on_a_full_line a b = refl

pub strokes_stay_with_their_letters : {A : Type 0} (a b : A) →
    lines_in 2 (text Normal a b (codes "a" ++ stroke ∷ codes "b" ++ stroke ∷ codes "c") ∷ [])
    ≡ done (line a (codes "a" ++ stroke ∷ codes "b" ++ stroke ∷ []) ∷ line a (codes "c") ∷ [])
strokes_stay_with_their_letters a b = refl

-- a word of no width isn't ended by white space
pub a_stroke_in_front_begins_the_word : {A : Type 0} (a b : A) →
    lines_in 9 (text Normal a b (stroke ∷ codes " a") ∷ []) ≡ done (line a (stroke ∷ codes "a") ∷ [])
a_stroke_in_front_begins_the_word a b = refl

pub a_stroke_between_spaces_begins_the_next_word : {A : Type 0} (a b : A) →
    lines_in 9 (text Normal a b (codes "b " ++ stroke ∷ codes " a") ∷ [])
    ≡ done (line a (codes "b " ++ stroke ∷ codes "a") ∷ [])
a_stroke_between_spaces_begins_the_next_word a b = refl
