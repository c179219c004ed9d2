-- Markers among text.
use Rattle.rule_examples.proofs.Common.{◌≡◌, refl, [], ◌∷◌, ◌++◌, codes, WhiteSpace, Normal, Pre, PreWrap, marker, done, text, mark, lines_in, line}

pub a_marker_goes_with_its_word : {A : Type 0} (a b : A) →
    lines_in 3 (text Normal a b (codes "ab ") ∷ mark (codes "x") ∷ text Normal a b (codes "cde") ∷ [])
    ≡ done (line a (codes "ab") ∷ (marker (codes "x") ∷ line a (codes "cde")) ∷ [])
a_marker_goes_with_its_word a b = refl

-- it takes no column, and stays where it is inside a word, even where that is cut
pub a_marker_inside_a_word_stays_there : {A : Type 0} (a b : A) →
    lines_in 3 (text Normal a b (codes "ab") ∷ mark (codes "x") ∷ text Normal a b (codes "cd") ∷ [])
    ≡ done ((line a (codes "ab") ++ marker (codes "x") ∷ line a (codes "c")) ∷ line a (codes "d") ∷ [])
a_marker_inside_a_word_stays_there a b = refl

pub a_marker_at_a_cut_stays_before_it : {A : Type 0} (a b : A) →
    lines_in 3 (text Normal a b (codes "abc") ∷ mark (codes "x") ∷ text Normal a b (codes "def") ∷ [])
    ≡ done ((line a (codes "abc") ++ marker (codes "x") ∷ []) ∷ line a (codes "def") ∷ [])
a_marker_at_a_cut_stays_before_it a b = refl

pub a_marker_at_the_end_of_a_word_stays_on_its_line : {A : Type 0} (a b : A) →
    lines_in 4 (text Normal a b (codes "ab") ∷ mark (codes "x") ∷ text Normal a b (codes " cd") ∷ [])
    ≡ done ((line a (codes "ab") ++ marker (codes "x") ∷ []) ∷ line a (codes "cd") ∷ [])
a_marker_at_the_end_of_a_word_stays_on_its_line a b = refl

-- ---- every mode

pub a_marker_stays_before_a_character : {A : Type 0} (a b : A) (mode : WhiteSpace) →
    lines_in 5 (mark (codes "x") ∷ text mode a b (codes "a") ∷ [])
    ≡ done ((marker (codes "x") ∷ line a (codes "a")) ∷ [])
a_marker_stays_before_a_character a b Normal = refl
a_marker_stays_before_a_character a b Pre = refl
a_marker_stays_before_a_character a b PreWrap = refl

pub a_marker_stays_after_a_character : {A : Type 0} (a b : A) (mode : WhiteSpace) →
    lines_in 5 (text mode a b (codes "a") ∷ mark (codes "x") ∷ [])
    ≡ done ((line a (codes "a") ++ marker (codes "x") ∷ []) ∷ [])
a_marker_stays_after_a_character a b Normal = refl
a_marker_stays_after_a_character a b Pre = refl
a_marker_stays_after_a_character a b PreWrap = refl

-- ---- hard lines

pub a_marker_stays_on_its_line_in_pre : {A : Type 0} (a b : A) →
    lines_in 5 (text Pre a b (codes "a") ∷ mark (codes "x") ∷ text Pre a b (codes "b\n") ∷ mark (codes "y")
    ∷ text Pre a b (codes "c") ∷ [])
    ≡ done ((line a (codes "a") ++ marker (codes "x") ∷ line a (codes "b"))
    ∷ (marker (codes "y") ∷ line a (codes "c")) ∷ [])
a_marker_stays_on_its_line_in_pre a b = refl

pub a_marker_stays_on_its_line_in_prewrap : {A : Type 0} (a b : A) →
    lines_in 5 (text PreWrap a b (codes "a") ∷ mark (codes "x") ∷ text PreWrap a b (codes "b\n") ∷ mark (codes "y")
    ∷ text PreWrap a b (codes "c") ∷ [])
    ≡ done ((line a (codes "a") ++ marker (codes "x") ∷ line a (codes "b"))
    ∷ (marker (codes "y") ∷ line a (codes "c")) ∷ [])
a_marker_stays_on_its_line_in_prewrap a b = refl

-- a newline is a gap here
pub a_marker_after_a_newline_joins_the_word_in_normal : {A : Type 0} (a b : A) →
    lines_in 5 (text Normal a b (codes "a") ∷ mark (codes "x") ∷ text Normal a b (codes "b\n") ∷ mark (codes "y")
    ∷ text Normal a b (codes "c") ∷ [])
    ≡ done ((line a (codes "a") ++ marker (codes "x") ∷ line a (codes "b ")
    ++ marker (codes "y") ∷ line a (codes "c")) ∷ [])
a_marker_after_a_newline_joins_the_word_in_normal a b = refl

pub a_newline_leaves_a_marker_to_the_next_word : {A : Type 0} (a b : A) →
    lines_in 9 (mark (codes "x") ∷ text Pre a b (codes "\na") ∷ [])
    ≡ done ([] ∷ (marker (codes "x") ∷ line a (codes "a")) ∷ [])
a_newline_leaves_a_marker_to_the_next_word a b = refl

pub a_tab_after_a_marker_is_a_tab : {A : Type 0} (a b : A) →
    lines_in 12 (text Pre a b (codes "a") ∷ mark (codes "x") ∷ text Pre a b (codes "\tb") ∷ [])
    ≡ done ((line a (codes "a") ++ marker (codes "x") ∷ line a (codes "       b")) ∷ [])
a_tab_after_a_marker_is_a_tab a b = refl

-- ---- white space that is removed in `PreWrap`

-- it is removed up to a marker, and what is before the marker stays
pub a_marker_keeps_white_space : {A : Type 0} (a b : A) →
    lines_in 6 (text Pre a b (codes "cdefgh ") ∷ mark (codes "i") ∷ text PreWrap a b (codes "    za") ∷ [])
    ≡ done (line a (codes "cdefgh") ∷ (line a (codes " ") ++ marker (codes "i") ∷ []) ∷ line a (codes "za") ∷ [])
a_marker_keeps_white_space a b = refl

pub without_a_marker_all_is_removed : {A : Type 0} (a b : A) →
    lines_in 6 (text Pre a b (codes "cdefgh ") ∷ text PreWrap a b (codes "    za") ∷ [])
    ≡ done (line a (codes "cdefgh") ∷ line a (codes "za") ∷ [])
without_a_marker_all_is_removed a b = refl

-- with a space less nothing is moved
pub nothing_is_removed_where_all_fits : {A : Type 0} (a b : A) →
    lines_in 6 (text Pre a b (codes "cdefgh ") ∷ mark (codes "i") ∷ text PreWrap a b (codes "   za") ∷ [])
    ≡ done (line a (codes "cdefgh") ∷ (line a (codes " ") ++ marker (codes "i") ∷ line a (codes "   za")) ∷ [])
nothing_is_removed_where_all_fits a b = refl
