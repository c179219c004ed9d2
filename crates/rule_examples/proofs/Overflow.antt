-- Lines that may be wider than the block.
use Rattle.rule_examples.proofs.Common.{◌≡◌, refl, [], ◌∷◌, ◌++◌, codes, Normal, stroke, done, text, overflowing_lines_in, line}

pub a_wide_character_overflows : {A : Type 0} (a b : A) →
    overflowing_lines_in 1 (text Normal a b (codes "漢") ∷ []) ≡ done (line a (codes "漢") ∷ [])
a_wide_character_overflows a b = refl

-- with no empty line beside it
pub a_wide_character_has_a_line_of_its_own : {A : Type 0} (a b : A) →
    overflowing_lines_in 1 (text Normal a b (codes "a漢b") ∷ [])
    ≡ done (line a (codes "a") ∷ line a (codes "漢") ∷ line a (codes "b") ∷ [])
a_wide_character_has_a_line_of_its_own a b = refl

-- what takes no column shares its line if it comes before it, and begins the next if it comes after it
pub a_stroke_before_it_shares_its_line : {A : Type 0} (a b : A) →
    overflowing_lines_in 1 (text Normal a b (stroke ∷ codes "漢b") ∷ [])
    ≡ done (line a (stroke ∷ codes "漢") ∷ line a (codes "b") ∷ [])
a_stroke_before_it_shares_its_line a b = refl

pub a_stroke_after_it_begins_a_line : {A : Type 0} (a b : A) →
    overflowing_lines_in 1 (text Normal a b (codes "漢" ++ stroke ∷ codes "b") ∷ [])
    ≡ done (line a (codes "漢") ∷ line a (stroke ∷ codes "b") ∷ [])
a_stroke_after_it_begins_a_line a b = refl
