-- What the repository promises first: of runs, of cells side by side, and of what wrapping never answers.
use Rattle.std.specs.Prelude.{◌≡◌, ℕ, ◌≤◌, false, ⊤, Option, IfSome, List, [], ◌∷◌, ◌++◌, length, map}
use Rattle.std.specs.List.{AllByRecursion as Each}
use Rattle.tbr_model.specs.Rule.{run_of}
use Rattle.tbr_model.specs.Run.{items_width}
use Rattle.tbr_model.specs.Hard.{ShowsVisible}
use Rattle.tbr_model.specs.Shown.{ShowsOwn}
use Rattle.tbr_wrap.specs.Runs.{IsNormal}
use Rattle.tbr_rows.specs.declared.LineSet.{LineSet as Cell}
use Rattle.tbr_rows.specs.Shown.{DrawsInOne, HolesFill}
use Rattle.tbr_rows.specs.CellsShown.{MadeRow, StandsAmong, ShowsTexts}
use Rattle.tbr_decor.specs.Decoration.{Decoration}
use Rattle.tbr_kept_lines.specs.Line.{Line, text, border}
use Rattle.tbr_renderer.specs.Flush.{lines_at_end}
use Rattle.tbr_renderer.specs.Renderer.{Renderer, block_width, may_overflow}
use Rattle.tbr_renderer.specs.Rows.{GivenCell, style_in, own_cells, are_side_by_side}
use Rattle.tbr_kept_lines.specs.LastBorder.{last_border}
use Rattle.text_block_renderer.specs.Added.{ended}
use Rattle.text_block_renderer.specs.Stretches.{NoneIsAhead}
use Rattle.text_block_renderer.specs.LastBorders.{BecomeBy}
use Rattle.text_block_renderer.specs.Acts.{Act, rows_of, acts_enter, acts_add, ActIsTooNarrow, PutRow, Piece, part, rows_in, added_of_piece, ComesInPieces}

module _ {D A : Type 0} (columns : ℕ → Option ℕ) where
  -- Of a `Normal` run that ended, where no line may be wider than the block: after any number of its lines no legal
  -- layout of it has placed more.
  abbrev pub NoLayoutIsAhead : Piece D A columns → Type 0
  NoLayoutIsAhead (part (ended r b)) =
      may_overflow r ≡ false → IsNormal (run_of b.events) →
      NoneIsAhead columns (block_width r) (run_of b.events) (lines_at_end columns r b)
  NoLayoutIsAhead other = ⊤

  -- Of any run that ended: its visible characters are in its lines once, in order, each under an annotation of its
  -- call; in a `Normal` run under the main one.
  abbrev pub StandsOnce : Piece D A columns → Type 0
  StandsOnce (part (ended r b)) =
      let texts = lines_at_end columns r b in
      ShowsVisible columns (λ x y. x ≡ y) (run_of b.events) texts
      × (IsNormal (run_of b.events) → ShowsOwn columns (λ x y. x ≡ y) (run_of b.events) texts)
  StandsOnce other = ⊤

-- ---- cells side by side

-- a line is no wider than its cell: a text, or a border with what is in front of it
abbrev pub FitsCell : {T : Type 0} → (ℕ → Option ℕ) → ℕ → Line T → Type 0
FitsCell columns width (text is) = items_width columns is ≤ width
FitsCell columns width (border b) = (length b.cells ≤ width) × HolesFill columns 0 b.holes (length b.cells)

abbrev pub LinesFit : {T : Type 0} → (ℕ → Option ℕ) → GivenCell T → Type 0
LinesFit columns cell = Each (FitsCell columns cell.width) cell.lines

abbrev pub CellsFit : {T : Type 0} → (ℕ → Option ℕ) → List (GivenCell T) → Type 0
CellsFit columns cells = Each (LinesFit columns) cells

module _ {D A : Type 0} {columns : ℕ → Option ℕ} where
  -- a row with the cells of which it was made
  abbrev pub made : PutRow D A columns → MadeRow (List A) columns
  made p = record {
    same = p.same;
    tells = p.tells;
    style = style_in p.before p.collapses;
    tag = p.before.annotations;
    hanging = p.before.hanging;
    own = own_cells p.same columns p.cells p.before;
    side_by_side = are_side_by_side p.same columns p.before.annotations 0 p.cells;
    top = last_border p.before.lines;
    cells = p.seated;
    seated = p.are_seated;
  }

  -- a cell of the first of these rows
  abbrev pub IsCellOf : Cell (List A) → List (PutRow D A columns) → Type 0
  IsCellOf cell [] = ⊥
  IsCellOf cell (p ∷ rows) = StandsAmong cell p.seated

-- No character takes more than two columns. This is a law of `CharWidth`, and so is `DrawsInOne`.
abbrev pub TakeTwoAtMost : (ℕ → Option ℕ) → Type 0
TakeTwoAtMost columns = (c : ℕ) → IfSome (columns c) (λ n. n ≤ 2)

-- Calls, rows and footnotes led from a renderer to another.
pub record Headline {D A : Type 0} (columns : ℕ → Option ℕ) (decoration : Decoration D A) (acts : List (Act A))
    (r s : Renderer D A (List A)) : Type 0 where
  -- the lines are those of runs that ended, of laid texts, of borders, of rows and of footnotes, which are, in order,
  -- what each of these adds, each to the renderer of that moment
  pub came : ComesInPieces columns (rows_of acts) r (acts_enter columns decoration acts r) s
  pub added : map added_of_piece came.pieces ≡ acts_add columns decoration acts r
  -- and no piece changes a line that was there before it, but a row a border right above it
  pub become : BecomeBy columns came.pieces r.lines s.lines
  pub no_layout_is_ahead : Each (NoLayoutIsAhead columns) came.pieces
  pub visible_characters_stand_once : Each (StandsOnce columns) came.pieces
  -- Where no cell overhung before, and the lines of all cells fit: of each cell of a row, over the rows of its span.
  pub each_cell_shows_its_texts_once : DrawsInOne columns → r.hanging ≡ [] → Each (CellsFit columns) (rows_of acts) →
      (before rows after : List (PutRow D A columns)) (cell : Cell (List A)) →
      rows_in came.pieces ≡ before ++ rows ++ after → IsCellOf cell rows → length rows ≡ cell.span →
      ShowsTexts columns r.options.draw_borders (map made rows) cell
  -- a renderer of two columns or more isn't too narrow for anything that comes next
  pub two_columns_are_enough : TakeTwoAtMost columns → 2 ≤ block_width r →
      (act : Act A) → ActIsTooNarrow columns decoration act s → ⊥
