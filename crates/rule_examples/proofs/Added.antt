-- What calls and rows add to the lines, each to the renderer of that moment.
use Rattle.rule_examples.proofs.Common.{◌≡◌, refl, ℕ, true, false, List, [], ◌∷◌, codes, marker, border, new_line, default_options, new_renderer, call, plain_decoration, example_columns, line}
use Rattle.std.proofs.Common.{flat_map}
use Rattle.tbr_border.specs.Border.{without_holes}
use Rattle.tbr_border.specs.Cell.{horizontal}
use Rattle.tbr_tagged.specs.declared.CellAlign.TheVariants.{Left}
use Rattle.tbr_decor.specs.declared.PlainDecorator.{PlainDecorator}
use Rattle.tbr_decor.specs.Start as start
use Rattle.tbr_decor.specs.Style as style
use Rattle.tbr_kept_lines.specs.Line.{text}
use Rattle.tbr_renderer.specs.Calls.{begin, record_frag_start, add_border, append_subrender, append_vert_row}
use Rattle.tbr_renderer.specs.Renderer.{Renderer}
use Rattle.text_block_renderer.specs.Added.{calls_add}
use Rattle.text_block_renderer.specs.Stretches.{lines_of_part}
use Rattle.text_block_renderer.specs.Acts.{Added, row_added, row, acts_add}
use Rattle.text_block_renderer.specs.Drawn.{borders_drawn}
use Rattle.tbr_program.specs.Decorations.{rich_decoration}

-- a plain renderer of so many columns that pads its lines
abbrev padded_page : ℕ → Renderer PlainDecorator (Unit {0}) (List (Unit {0}))
padded_page width = new_renderer width (record default_options { pad_block_width = true }) (record {})

-- a border is under what is open
pub a_border_in_emphasis_is_under_it :
    flat_map (lines_of_part example_columns) (calls_add example_columns rich_decoration
    (begin start.emphasis ∷ add_border 1 ∷ []) (new_renderer 9 default_options (record {})))
    ≡ border (without_holes (horizontal ∷ []) (style.emphasis ∷ [])) ∷ []
a_border_in_emphasis_is_under_it = refl

-- a marker that waits begins the first line of a block inside, and no other
pub a_marker_begins_the_first_line_of_a_quote :
    flat_map (lines_of_part example_columns) (calls_add example_columns plain_decoration
    (record_frag_start (codes "x") ∷ append_subrender (codes "> " ∷ codes "> " ∷ [])
    (text (line [] (codes "a")) ∷ text (line [] (codes "b")) ∷ []) ∷ []) (padded_page 4))
    ≡ text (marker (codes "x") ∷ line [] (codes "> a ")) ∷ text (line [] (codes "> b ")) ∷ []
a_marker_begins_the_first_line_of_a_quote = refl

-- also where its first cell has no line, and borders become text
pub a_marker_begins_the_first_text_of_cells :
    flat_map (lines_of_part example_columns) (calls_add example_columns plain_decoration
    (record_frag_start (codes "x") ∷ append_vert_row ([] ∷ (text (line [] (codes "a")) ∷ []) ∷ []) ∷ []) (padded_page 2))
    ≡ text (line [] (codes "//")) ∷ text (marker (codes "x") ∷ line [] (codes "a ")) ∷ text (line [] (codes "──")) ∷ []
a_marker_begins_the_first_text_of_cells = refl

-- the markers that wait where a row comes
abbrev waiting_at_row : {D A : Type 0} → Added D A → List (List ℕ)
waiting_at_row (row_added r collapses cells) = r.waiting
waiting_at_row other = []

-- a row comes where a marker waits, which begins its line, even an empty one
pub a_row_comes_where_a_marker_waits :
    flat_map waiting_at_row (acts_add example_columns plain_decoration
    (call (record_frag_start (codes "x")) ∷ call new_line
    ∷ row false (record { width = 3; span = 1; align = Left; lines = text [] ∷ [] } ∷ []) ∷ []) (padded_page 9))
    ≡ codes "x" ∷ []
a_row_comes_where_a_marker_waits = refl

-- where lines are padded, the border below a row becomes text
pub a_border_below_a_padded_row_is_drawn :
    borders_drawn example_columns plain_decoration
    (row false (record { width = 3; span = 1; align = Left; lines = text [] ∷ [] } ∷ []) ∷ []) (padded_page 5)
    ≡ line [] (codes "───  ") ∷ []
a_border_below_a_padded_row_is_drawn = refl
