-- Characters that have columns. By `unicode_columns` these are all but control characters.
use Rattle.std.specs.Prelude.{◌≢◌, ℕ, ⊤, Option, None, List}
use Rattle.std.specs.List.{AllByRecursion as Each}
use Rattle.tbr_model.specs.Run.{Item, glyph, marker}
use Rattle.tbr_border.specs.RenderLine.{line_items}
use Rattle.tbr_footnotes.specs.Footnote.{footnote_items}
use Rattle.tbr_rows.specs.declared.LineSet.{LineSet as Cell}
use Rattle.tbr_kept_lines.specs.Line.{Line}
use Rattle.tbr_kept_lines.specs.Text.{items_shown}
use Rattle.tbr_renderer.specs.Renderer.{Renderer}
use Rattle.tbr_renderer.specs.Rows.{GivenCell}
use Rattle.tbr_renderer.specs.Calls.{Call, append_subrender, append_vert_row}
use Rattle.text_block_renderer.specs.Acts.{Act, call, row, fmt_links, finalise}

-- Each character of a text has columns.
abbrev pub TextHasColumns : (ℕ → Option ℕ) → List ℕ → Type 0
TextHasColumns columns cs = Each (λ c. columns c ≢ None) cs

module _ {T : Type 0} (columns : ℕ → Option ℕ) where
  -- a character that has columns, or a marker
  abbrev pub ItemHasColumns : Item T → Type 0
  ItemHasColumns (glyph c tag) = columns c ≢ None
  ItemHasColumns (marker name) = ⊤

  abbrev pub ItemsHaveColumns : List (Item T) → Type 0
  ItemsHaveColumns is = Each ItemHasColumns is

  -- and each character that a line shows, a text or a border
  abbrev pub LineHasColumns : Line T → Type 0
  LineHasColumns line = ItemsHaveColumns (items_shown line)

  abbrev pub LinesHaveColumns : List (Line T) → Type 0
  LinesHaveColumns lines = Each LineHasColumns lines

  -- and each of the lines that a cell has still to show
  abbrev pub CellHasColumns : Cell T → Type 0
  CellHasColumns c = Each (λ l. ItemsHaveColumns (line_items l)) c.lines

  -- Each character of what a call puts into lines as it is has columns: of prefixes, and of others' lines.
  abbrev pub CallHasColumns : Call T → Type 0
  CallHasColumns (append_subrender prefixes lines) = Each (TextHasColumns columns) prefixes × LinesHaveColumns lines
  CallHasColumns (append_vert_row cells) = Each LinesHaveColumns cells
  CallHasColumns other = ⊤

module _ {A : Type 0} (columns : ℕ → Option ℕ) where
  -- and so it is of a cell's lines, and of footnotes, where newlines become spaces
  abbrev pub GivenHasColumns : GivenCell (List A) → Type 0
  GivenHasColumns cell = LinesHaveColumns columns cell.lines

  abbrev pub ActHasColumns : Act A → Type 0
  ActHasColumns (call c) = CallHasColumns columns c
  ActHasColumns (row collapses cells) = Each GivenHasColumns cells
  ActHasColumns (fmt_links links) = Each (λ es. ItemsHaveColumns columns (footnote_items es)) links
  ActHasColumns (finalise targets) = ⊤

-- Each character of a renderer's lines has columns, and so has each in the cells that overhang.
abbrev pub RendererHasColumns : {D A : Type 0} → (ℕ → Option ℕ) → Renderer D A (List A) → Type 0
RendererHasColumns columns r = LinesHaveColumns columns r.lines × Each (CellHasColumns columns) r.hanging
