-- Characters of two columns, and where they are too wide.
use Rattle.rule_examples.proofs.Common.{◌≡◌, refl, true, false, None, [], ◌∷◌, ◌++◌, codes, Normal, Pre, PreWrap, no_break_space, zero_width_space, stroke, done, new_block, example_columns, text}
use Rattle.rule_examples.proofs.Common.{flush, made, lines_of, lines_in, line}
use Rattle.tbr_tagged.specs.Outcome.{refused}
use Rattle.tbr_tagged.specs.declared.error.Error.TheVariants as E
use Rattle.rule_examples.specs.Scripts.{wide_space, after_call, failed, none_refuses}

pub wide_characters_are_not_cut : {A : Type 0} (a b : A) →
    lines_in 3 (text Normal a b (codes "漢漢漢") ∷ [])
    ≡ done (line a (codes "漢") ∷ line a (codes "漢") ∷ line a (codes "漢") ∷ [])
wide_characters_are_not_cut a b = refl

pub a_wide_character_needs_two_columns : {A : Type 0} (a b : A) →
    lines_in 4 (text Normal a b (codes "abc漢d") ∷ []) ≡ done (line a (codes "abc") ∷ line a (codes "漢d") ∷ [])
a_wide_character_needs_two_columns a b = refl

pub a_wide_character_fills_two_columns : {A : Type 0} (a b : A) →
    lines_in 2 (text Normal a b (codes "a漢b") ∷ [])
    ≡ done (line a (codes "a") ∷ line a (codes "漢") ∷ line a (codes "b") ∷ [])
a_wide_character_fills_two_columns a b = refl

-- ---- one column

-- a block refuses once the word is laid: at the end of the run, or at the white space after the word
pub a_wide_character_refuses_at_the_end : {A : Type 0} (a b : A) →
    lines_in 1 (text Normal a b (codes "漢") ∷ []) ≡ refused E.TooNarrow
a_wide_character_refuses_at_the_end a b = refl

pub a_wide_character_refuses_in_the_middle : {A : Type 0} (a b : A) →
    lines_of (made example_columns 1 false (text Normal a b (codes "ab 漢 cd") ∷ [])) ≡ refused E.TooNarrow
a_wide_character_refuses_in_the_middle a b = refl

pub a_wide_character_among_others_refuses : {A : Type 0} (a b : A) →
    lines_in 1 (text Normal a b (codes "a漢b") ∷ []) ≡ refused E.TooNarrow
a_wide_character_among_others_refuses a b = refl

-- and then refuses each text and each flush
pub a_failed_block_refuses_texts : {A : Type 0} (a b : A) →
    after_call example_columns (text Normal a b (codes "a")) (failed E.TooNarrow (new_block 1 false None))
    ≡ refused E.TooNarrow
a_failed_block_refuses_texts a b = refl

pub a_failed_block_refuses_a_flush : {A : Type 0} →
    after_call {A = A} example_columns flush (failed E.TooNarrow (new_block 1 false None)) ≡ refused E.TooNarrow
a_failed_block_refuses_a_flush = refl

-- a wide space before a moved word is dropped in `PreWrap`, and refuses nothing there
pub a_wide_space_is_dropped : {A : Type 0} (a b : A) →
    lines_in 1 (text PreWrap a b (codes "a" ++ wide_space ∷ codes "b") ∷ [])
    ≡ done (line a (codes "a") ∷ line a (codes "b") ∷ [])
a_wide_space_is_dropped a b = refl

pub a_wide_space_refuses_in_pre : {A : Type 0} (a b : A) →
    lines_in 1 (text Pre a b (codes "a" ++ wide_space ∷ codes "b") ∷ []) ≡ refused E.TooNarrow
a_wide_space_refuses_in_pre a b = refl

-- ---- two columns or more

-- these texts refuse in no block of two to nine columns
pub two_columns_refuse_nothing : {A : Type 0} (a : A) →
    none_refuses a (2 ∷ 3 ∷ 4 ∷ 5 ∷ 6 ∷ 7 ∷ 8 ∷ 9 ∷ [])
    (codes "Hello, world.  Superlongwordreally" ∷ codes "Hello there boo"
    ∷ (codes "Do break a line somewhere in foo" ++ zero_width_space ∷ codes "bar")
    ∷ (codes "Don't break a line between the words Foo" ++ no_break_space ∷ codes "and" ++ no_break_space ∷ codes "Bar")
    ∷ codes "[http://example.org/blah/][1] one two three" ∷ codes "漢漢漢" ∷ codes "漢" ∷ [] ∷ codes "   "
    ∷ (codes "a" ++ stroke ∷ codes " " ++ stroke ∷ codes "b" ++ stroke ∷ [])
    ∷ codes "a漢b" ∷ (stroke ∷ codes "漢b") ∷ (codes "a" ++ stroke ∷ codes "b" ++ stroke ∷ codes "c")
    ∷ (stroke ∷ codes " a") ∷ (codes "b " ++ stroke ∷ codes " a")
    ∷ (codes "a" ++ zero_width_space ∷ codes "b" ++ no_break_space ∷ codes "c")
    ∷ codes "xxxxxxxxxxxxxxxxxxxxxxxxx" ∷ [])
    ≡ true
two_columns_refuse_nothing a = refl
