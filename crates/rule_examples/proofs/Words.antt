-- Words on lines, where white space collapses.
use Rattle.rule_examples.proofs.Common.{◌≡◌, refl, [], ◌∷◌, ◌++◌, codes, Normal, done, text, flush, lines_in, line}

-- words go to a new line where they don't fit, and a wider one is cut
pub words_are_wrapped : {A : Type 0} (a b : A) →
    lines_in 8 (text Normal a b (codes "Hello, world.  Superlongwordreally") ∷ [])
    ≡ done (line a (codes "Hello,") ∷ line a (codes "world.")
    ∷ line a (codes "Superlon") ∷ line a (codes "gwordrea") ∷ line a (codes "lly") ∷ [])
words_are_wrapped a b = refl

pub words_that_fit_share_a_line : {A : Type 0} (a b : A) →
    lines_in 5 (text Normal a b (codes "ab cd") ∷ []) ≡ done (line a (codes "ab cd") ∷ [])
words_that_fit_share_a_line a b = refl

pub words_that_do_not_fit_are_moved : {A : Type 0} (a b : A) →
    lines_in 5 (text Normal a b (codes "ab cde") ∷ []) ≡ done (line a (codes "ab") ∷ line a (codes "cde") ∷ [])
words_that_do_not_fit_are_moved a b = refl

-- a line takes all words that fit, even where the next is then shorter
pub lines_are_filled_and_not_balanced : {A : Type 0} (a b : A) →
    lines_in 10 (text Normal a b (codes "aaa bb cc ddddd") ∷ [])
    ≡ done (line a (codes "aaa bb cc") ∷ line a (codes "ddddd") ∷ [])
lines_are_filled_and_not_balanced a b = refl

-- a wider word never fills the rest of a line
pub a_wider_word_begins_a_line : {A : Type 0} (a b : A) →
    lines_in 4 (text Normal a b (codes "Hello there boo") ∷ [])
    ≡ done (line a (codes "Hell") ∷ line a (codes "o") ∷ line a (codes "ther") ∷ line a (codes "e")
    ∷ line a (codes "boo") ∷ [])
a_wider_word_begins_a_line a b = refl

-- even where that would save a line
pub a_wider_word_begins_a_line_though_that_takes_more : {A : Type 0} (a b : A) →
    lines_in 4 (text Normal a b (codes "o there") ∷ [])
    ≡ done (line a (codes "o") ∷ line a (codes "ther") ∷ line a (codes "e") ∷ [])
a_wider_word_begins_a_line_though_that_takes_more a b = refl

-- words follow its last piece
pub words_follow_a_cut_one : {A : Type 0} (a b : A) →
    lines_in 6 (text Normal a b (codes "abcdefgh ij") ∷ [])
    ≡ done (line a (codes "abcdef") ∷ line a (codes "gh ij") ∷ [])
words_follow_a_cut_one a b = refl

pub wider_words_are_cut_where_lines_are_full : {A : Type 0} (a b : A) →
    lines_in 4 (text Normal a b (codes "a bcdefg h") ∷ [])
    ≡ done (line a (codes "a") ∷ line a (codes "bcde") ∷ line a (codes "fg h") ∷ [])
wider_words_are_cut_where_lines_are_full a b = refl

pub no_text_is_no_line : {A : Type 0} (a b : A) → lines_in 5 (text Normal a b [] ∷ []) ≡ done []
no_text_is_no_line a b = refl

-- ---- several texts

pub two_texts_are_one_run : {A : Type 0} (a b : A) →
    lines_in 9 (text Normal a b (codes "ab") ∷ text Normal a b (codes "c d") ∷ [])
    ≡ done (line a (codes "abc d") ∷ [])
two_texts_are_one_run a b = refl

-- two texts without white space between them are one word, each character under its own annotation, even where it is
-- cut
pub a_word_under_two_annotations_keeps_both : {A : Type 0} (a b : A) →
    lines_in 3 (text Normal a a (codes "ab") ∷ text Normal b b (codes "cde") ∷ [])
    ≡ done ((line a (codes "ab") ++ line b (codes "c")) ∷ line b (codes "de") ∷ [])
a_word_under_two_annotations_keeps_both a b = refl

pub a_link_and_its_number_are_one_word : {A : Type 0} (a b more : A) →
    lines_in 25 (text Normal b more (codes "[") ∷ text Normal b more (codes "http://example.org/blah/")
    ∷ text Normal b more (codes "]") ∷ text Normal a more (codes "[1]")
    ∷ text Normal a more (codes " one two three") ∷ [])
    ≡ done (line b (codes "[http://example.org/blah/")
    ∷ (line b (codes "]") ++ line a (codes "[1] one two three")) ∷ [])
a_link_and_its_number_are_one_word a b more = refl

pub normal_text_has_no_continuation : {A : Type 0} (a b : A) →
    lines_in 2 (text Normal a b (codes "ab cd") ∷ []) ≡ done (line a (codes "ab") ∷ line a (codes "cd") ∷ [])
normal_text_has_no_continuation a b = refl

pub a_flush_ends_a_word : {A : Type 0} (a b : A) →
    lines_in 9 (text Normal a b (codes "ab") ∷ flush ∷ text Normal a b (codes "cd") ∷ [])
    ≡ done (line a (codes "ab") ∷ line a (codes "cd") ∷ [])
a_flush_ends_a_word a b = refl
