-- Rows of cells side by side.
use Rattle.rule_examples.proofs.Common.{◌≡◌, false, true, refl, [], ◌∷◌, codes, done, page_under_border, plain_page, cell, after_rows, lines_on}
use Rattle.tbr_tagged.specs.declared.CellAlign.TheVariants.{Right, Centre}
use Rattle.rule_examples.specs.Tables.{aligned, holding}

-- a border is joined to the rows above and below it
pub borders_join_rows :
    lines_on (after_rows false (
    (cell 1 1 (codes "1" ∷ []) ∷ cell 1 1 (codes "2" ∷ []) ∷ cell 1 1 (codes "3" ∷ []) ∷ [])
    ∷ (cell 3 1 (codes "12" ∷ []) ∷ cell 1 1 (codes "3" ∷ []) ∷ [])
    ∷ (cell 1 1 (codes "1" ∷ []) ∷ cell 3 1 (codes "23" ∷ []) ∷ [])
    ∷ []) (page_under_border 12 5))
    ≡ done (codes "─┬─┬─" ∷ codes "1│2│3" ∷ codes "─┴─┼─" ∷ codes "12 │3" ∷ codes "─┬─┴─" ∷ codes "1│23 "
    ∷ codes "─┴───" ∷ [])
borders_join_rows = refl

-- a cell of two rows has a line in the border between them
pub a_cell_goes_on_in_the_border :
    lines_on (after_rows false (
    (cell 1 2 (codes "A" ∷ codes "B" ∷ codes "C" ∷ []) ∷ cell 3 1 (codes "one" ∷ []) ∷ [])
    ∷ (cell 1 1 [] ∷ cell 3 1 (codes "two" ∷ []) ∷ [])
    ∷ []) (page_under_border 12 5))
    ≡ done (codes "─┬───" ∷ codes "A│one" ∷ codes "B├───" ∷ codes "C│two" ∷ codes "─┴───" ∷ [])
a_cell_goes_on_in_the_border = refl

-- without borders it goes on in the next row, which is as high as it needs
pub a_cell_goes_on_without_borders :
    lines_on (after_rows false (
    (cell 1 2 (codes "A" ∷ codes "B" ∷ codes "C" ∷ []) ∷ cell 3 1 (codes "one" ∷ []) ∷ [])
    ∷ (cell 1 1 [] ∷ cell 3 1 (codes "two" ∷ []) ∷ [])
    ∷ []) (done (plain_page 12)))
    ≡ done (codes "A one" ∷ codes "B two" ∷ codes "C    " ∷ [])
a_cell_goes_on_without_borders = refl

-- a table in a cell of a collapsing row shares its borders with it
pub a_table_in_a_cell_collapses :
    let inner = after_rows false ((cell 1 1 (codes "1" ∷ []) ∷ cell 1 1 (codes "2" ∷ []) ∷ []) ∷ []) (page_under_border 3 3) in
    lines_on (after_rows true (
    (holding inner (cell 3 1 []) ∷ cell 1 1 (codes "x" ∷ codes "y" ∷ []) ∷ [])
    ∷ []) (page_under_border 5 5))
    ≡ done (codes "─┬─┬─" ∷ codes "1│2│x" ∷ codes " │ │y" ∷ codes "─┴─┴─" ∷ [])
a_table_in_a_cell_collapses = refl

-- what overhangs comes after an empty column, where there is room for one
pub a_column_may_be_empty :
    lines_on (after_rows false (
    (cell 2 1 (codes "a" ∷ []) ∷ cell 1 2 (codes "B" ∷ codes "C" ∷ codes "D" ∷ []) ∷ [])
    ∷ (cell 1 1 (codes "e" ∷ []) ∷ [])
    ∷ []) (done (plain_page 9)))
    ≡ done (codes "a  B" ∷ codes "e  C" ∷ codes "   D" ∷ [])
a_column_may_be_empty = refl

pub what_overhangs_may_follow_at_once :
    lines_on (after_rows false (
    (cell 1 1 (codes "a" ∷ []) ∷ cell 1 2 (codes "B" ∷ codes "C" ∷ codes "D" ∷ []) ∷ [])
    ∷ (cell 1 1 (codes "e" ∷ []) ∷ [])
    ∷ []) (done (plain_page 9)))
    ≡ done (codes "a B" ∷ codes "e C" ∷ codes "  D" ∷ [])
what_overhangs_may_follow_at_once = refl

-- texts are at the left, at the right or in the middle
pub texts_are_aligned :
    lines_on (after_rows false (
    (cell 4 1 (codes "ab" ∷ []) ∷ aligned Right (cell 4 1 (codes "ab" ∷ [])) ∷ aligned Centre (cell 4 1 (codes "ab" ∷ [])) ∷ [])
    ∷ []) (done (plain_page 20)))
    ≡ done (codes "ab     ab  ab " ∷ [])
texts_are_aligned = refl

-- the bill of the README
pub a_bill_is_drawn :
    lines_on (after_rows false (
    (cell 16 2 (codes "Bread, a dark" ∷ codes "loaf and a white" ∷ codes "one" ∷ []) ∷ aligned Right (cell 7 1 (codes "3.20" ∷ [])) ∷ [])
    ∷ (cell 16 1 [] ∷ aligned Right (cell 7 1 (codes "2.80" ∷ [])) ∷ [])
    ∷ []) (page_under_border 30 24))
    ≡ done (codes "────────────────┬───────" ∷ codes "Bread, a dark   │   3.20" ∷ codes "loaf and a white├───────" ∷ codes "one             │   2.80"
    ∷ codes "────────────────┴───────" ∷ [])
a_bill_is_drawn = refl
