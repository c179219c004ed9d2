-- What calls add to the lines, part by part: runs that they end, texts that they lay, and borders.
use Rattle.std.specs.Prelude.{ℕ, if◌then◌else◌, Option, None, Some, List, [], ◌∷◌, ◌++◌, map, replicate}
use Rattle.tbr_model.specs.Run.{Item}
use Rattle.tbr_border.specs.Cell.{Cell, horizontal, slash}
use Rattle.tbr_kept_lines.specs.Line.{Line}
use Rattle.tbr_decor.specs.Decoration.{Decoration}
use Rattle.tbr_decor.specs.Start as start
use Rattle.tbr_decor.specs.End as end
use Rattle.tbr_renderer.specs.Renderer.{Open, Renderer, has_content, ignores, with_line}
use Rattle.tbr_renderer.specs.Outcomes.{told_by, told}
use Rattle.tbr_renderer.specs.Flush.{after_flush}
use Rattle.tbr_renderer.specs.Steps.{at_line_start}
use Rattle.tbr_renderer.specs.Appended.{as_text, prefixed, with_divider, with_cell, with_cell_below, with_cells}
use Rattle.tbr_renderer.specs.Image.{shown_title}
use Rattle.tbr_renderer.specs.Decorated.{struck_until, asked_to_close, annotated}
use Rattle.tbr_renderer.specs.Calls.{Call, add_empty_line, new_line, new_line_hard, start_block, start_table, add_inline_text, begin, finish, start_strikeout, end_strikeout, add_image}
use Rattle.tbr_renderer.specs.Calls.{add_border, append_subrender, append_vert_row, after}

-- What adds lines, each with the renderer right before: a run that ends, by the block that is open, a text that is
-- laid, or a border of these cells.
pub data Part (D A : Type 0) : Type 0 where
  ended : Renderer D A (List A) → Open (List A) → Part D A
  laid : Renderer D A (List A) → List (Item (List A)) → Part D A
  ruled : Renderer D A (List A) → List Cell → Part D A

module _ {D A : Type 0} where
  abbrev pub run_of_block : Renderer D A (List A) → Option (Open (List A)) → List (Part D A)
  run_of_block r None = []
  run_of_block r (Some b) = ended r b ∷ []

  -- A flush ends the open run, if there is one.
  abbrev pub flush_ends : Renderer D A (List A) → List (Part D A)
  flush_ends r = run_of_block r r.block

  -- the empty line before a block, where any line has content
  abbrev pub start_lays : Renderer D A (List A) → List (Part D A)
  start_lays r = if has_content r then laid r [] ∷ [] else []

  -- a border of this cell, where borders are drawn
  abbrev pub divider_adds : Cell → Renderer D A (List A) → List (Part D A)
  divider_adds cell r = if r.options.draw_borders then ruled r (replicate r.width cell) ∷ [] else []

module _ {D A : Type 0} (columns : ℕ → Option ℕ) where
  -- the run that a flush ends, and then what is added to the renderer that it leaves
  abbrev pub flush_adds : (Renderer D A (List A) → List (Part D A)) → Renderer D A (List A) → List (Part D A)
  flush_adds adds r = flush_ends r ++ told_by adds (after_flush columns r)

  -- a flush, and then an empty line
  abbrev pub empty_adds : Renderer D A (List A) → List (Part D A)
  empty_adds r = flush_adds (λ m. laid m [] ∷ []) r

  -- the beginning of a block, which comes after a flush
  abbrev pub start_adds : Renderer D A (List A) → List (Part D A)
  start_adds r = flush_adds start_lays r

  -- texts, one after another
  abbrev pub texts_add : List (List (Item (List A))) → Renderer D A (List A) → List (Part D A)
  texts_add [] r = []
  texts_add (is ∷ texts) r = laid r is ∷ texts_add texts (with_line columns r is)

  -- the lines of a cell as text, and those of cells below another
  abbrev pub cell_adds : List (Line (List A)) → Renderer D A (List A) → List (Part D A)
  cell_adds lines r = texts_add (map (as_text r.annotations) lines) r

  abbrev pub below_add : List (List (Line (List A))) → Renderer D A (List A) → List (Part D A)
  below_add [] r = []
  below_add (lines ∷ cells) r =
      (divider_adds slash r ++ cell_adds lines (with_divider columns slash r))
      ++ below_add cells (with_cell_below columns r lines)

  abbrev pub cells_add : List (List (Line (List A))) → Renderer D A (List A) → List (Part D A)
  cells_add [] r = []
  cells_add (lines ∷ cells) r = cell_adds lines r ++ below_add cells (with_cell columns r lines)

  -- cells one below another, and the border after them
  abbrev pub vert_row_adds : List (List (Line (List A))) → Renderer D A (List A) → List (Part D A)
  vert_row_adds cells r = cells_add cells r ++ divider_adds horizontal (with_cells columns r cells)

  -- A line break lays an empty line at the beginning of a line.
  abbrev pub break_adds : Renderer D A (List A) → List (Part D A)
  break_adds r = if at_line_start columns r r.block then empty_adds r else flush_ends r

  -- A text adds something where it begins a block.
  abbrev pub text_adds : List ℕ → Renderer D A (List A) → List (Part D A)
  text_adds cs r = if ignores r cs then [] else if r.block_ended then start_adds r else []

  module _ (decoration : Decoration D A) where
    -- so does an image with this title, and nothing where no title is shown
    abbrev pub image_adds : List ℕ → Option (List ℕ) → Renderer D A (List A) → List (Part D A)
    image_adds source None r = []
    image_adds source (Some title) r =
        let image = start.image source title in
        text_adds (decoration.start_text r.decorator image) (annotated decoration image r)

    -- the run that a call ends, if it ends one, and then its texts and borders
    abbrev pub call_adds : Call (List A) → Renderer D A (List A) → List (Part D A)
    call_adds add_empty_line r = empty_adds r
    call_adds new_line r = flush_ends r
    call_adds new_line_hard r = break_adds r
    call_adds start_block r = start_adds r
    call_adds start_table r = start_adds r
    call_adds (add_inline_text cs) r = text_adds cs r
    call_adds (begin opened) r = text_adds (decoration.start_text r.decorator opened) (annotated decoration opened r)
    call_adds (finish closed) r =
        text_adds (decoration.end_text r.decorator closed) (asked_to_close decoration closed r)
    call_adds start_strikeout r =
        text_adds (decoration.start_text r.decorator start.strikeout) (annotated decoration start.strikeout r)
    call_adds end_strikeout r =
        let struck = struck_until r in
        text_adds (decoration.end_text struck.decorator end.strikeout) (asked_to_close decoration end.strikeout struck)
    call_adds (add_image source title) r = image_adds source (shown_title r.options.img_mode source title) r
    call_adds (add_border width) r = flush_adds (λ m. ruled m (replicate width horizontal) ∷ []) r
    call_adds (append_subrender prefixes lines) r = flush_adds (texts_add (prefixed r.annotations prefixes lines)) r
    call_adds (append_vert_row cells) r = flush_adds (vert_row_adds cells) r
    call_adds other r = []

    -- and what calls add, one after another
    abbrev pub calls_add : List (Call (List A)) → Renderer D A (List A) → List (Part D A)
    calls_add calls r = told call_adds (after columns decoration) calls r
