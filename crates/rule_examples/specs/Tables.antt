-- Rows of cells under one another, and the lines that they leave.
use Rattle.std.specs.Prelude.{ℕ, ◌==◌, Bool, false, List, [], ◌∷◌, map}
use Rattle.std.specs.Cmp.Lexicographic.{pointwise}
use Rattle.tbr_tagged.specs.Walks.{item_characters}
use Rattle.tbr_tagged.specs.declared.CellAlign.{CellAlign}
use Rattle.tbr_tagged.specs.declared.CellAlign.TheVariants.{Left}
use Rattle.tbr_tagged.specs.Outcome.{Outcome}
use Rattle.tbr_kept_lines.specs.Line.{text}
use Rattle.tbr_renderer.specs.Appended.{as_text, after_border}
use Rattle.tbr_renderer.specs.Options.{default_options}
use Rattle.tbr_renderer.specs.Outcomes.{and_then, changed, told_by}
use Rattle.tbr_renderer.specs.Renderer.{Renderer, new_renderer}
use Rattle.tbr_renderer.specs.Rows.{GivenCell, after_row}
use Rattle.rule_examples.specs.Scripts.{example_columns, line}

-- A renderer without a decorator, whose annotations are numbers.
abbrev pub Page : Type 0
Page = Renderer (Unit {0}) ℕ (List ℕ)

-- a page of so many columns, with a border of so many at its top
abbrev pub page_under_border : ℕ → ℕ → Outcome Page
page_under_border width border = after_border example_columns border (new_renderer width default_options tt)

-- the same without borders
abbrev pub plain_page : ℕ → Page
plain_page width = new_renderer width (record default_options { draw_borders = false }) tt

-- a cell of so many columns that takes so many rows, with lines under no annotation
abbrev pub cell : ℕ → ℕ → List (List ℕ) → GivenCell (List ℕ)
cell width span lines = record { width = width; span = span; align = Left; lines = map (λ cs. text (line [] cs)) lines }

-- the same with its texts at the right, or in the middle
abbrev pub aligned : CellAlign → GivenCell (List ℕ) → GivenCell (List ℕ)
aligned align c = record c { align = align }

-- the same with the lines of another page, as a table in a table
abbrev pub holding : Outcome Page → GivenCell (List ℕ) → GivenCell (List ℕ)
holding page c = record c { lines = told_by (λ p. p.lines) page }

-- rows, one under another
abbrev pub after_rows : Bool → List (List (GivenCell (List ℕ))) → Outcome Page → Outcome Page
after_rows collapses [] page = page
after_rows collapses (cells ∷ rows) page =
    after_rows collapses rows (and_then page (after_row (pointwise (λ m n. m == n)) example_columns collapses cells))

-- the characters of its lines
abbrev pub lines_on : Outcome Page → Outcome (List (List ℕ))
lines_on page = changed (λ p. map (λ l. item_characters (as_text [] l)) p.lines) page
