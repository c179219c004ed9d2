-- Calls, rows of cells and footnotes, one after another, and what they add to a renderer's lines.
use Rattle.std.specs.Prelude.{◌≡◌, ℕ, ◌-◌, Bool, Option, None, Some, List, [], ◌∷◌, ◌++◌, length, take, drop, map, flat_map}
use Rattle.std.specs.Cmp.Lexicographic.{pointwise}
use Rattle.std.specs.List.{AllZip, AllByRecursion as Each}
use Rattle.tbr_model.specs.Run.{Entry, Item}
use Rattle.tbr_model.specs.Layout.{joined}
use Rattle.tbr_border.specs.Border.{Border}
use Rattle.tbr_tagged.specs.Elements.{Element}
use Rattle.tbr_decor.specs.Change as change
use Rattle.tbr_decor.specs.Decoration.{Decoration}
use Rattle.tbr_rows.specs.declared.LineSet.{LineSet as Cell}
use Rattle.tbr_rows.specs.Cells.{with_hanging}
use Rattle.tbr_rows.specs.Rows.{SeenRow}
use Rattle.tbr_rows.specs.Meant.{TellsApart}
use Rattle.tbr_kept_lines.specs.Line.{Line, text, border}
use Rattle.tbr_renderer.specs.Renderer.{Renderer, with_line, open_run}
use Rattle.tbr_tagged.specs.Outcome.{Outcome, done, refused, if_live}
use Rattle.tbr_tagged.specs.declared.Error.TheVariants.{TooNarrow}
use Rattle.tbr_renderer.specs.Outcomes.{told_by, told}
use Rattle.tbr_renderer.specs.Flush.{after_flush}
use Rattle.tbr_renderer.specs.Appended.{border_line}
use Rattle.tbr_renderer.specs.Footnotes.{listed, footnote_lines, with_footnotes}
use Rattle.tbr_renderer.specs.Rows.{GivenCell, own_cells, row_seated, row_in, after_row}
use Rattle.tbr_renderer.specs.Calls.{Call, made, after, entries_brought, laid_entries}
pub use Rattle.tbr_renderer.specs.Acts.{Act, call, row, fmt_links, finalise, after_act}
use Rattle.text_block_renderer.specs.Added.{Part, flush_ends, call_adds}
use Rattle.text_block_renderer.specs.Stretches.{entries_of_part, lines_of_part, lines_laid, IsBetweenBlocks, IsPart}

-- What these add, each with the renderer right before: a part as calls have it, a row of cells, with whether it
-- collapses, or a footnote's line.
pub data Added (D A : Type 0) : Type 0 where
  part_added : Part D A → Added D A
  row_added : Renderer D A (List A) → Bool → List (GivenCell (List A)) → Added D A
  note_added : Renderer D A (List A) → List (Item (List A)) → Added D A

-- the cells of the rows among these, row by row
abbrev pub rows_of : {A : Type 0} → List (Act A) → List (List (GivenCell (List A)))
rows_of [] = []
rows_of (call c ∷ acts) = rows_of acts
rows_of (row collapses cells ∷ acts) = cells ∷ rows_of acts
rows_of (fmt_links links ∷ acts) = rows_of acts
rows_of (finalise targets ∷ acts) = rows_of acts

-- these entries, unless footnotes bring them
abbrev pub beside_footnotes : {A : Type 0} → Act A → List (Entry (List A)) → List (Entry (List A))
beside_footnotes (fmt_links links) es = []
beside_footnotes other es = es

-- entries, with others put before those of the open run, which are the last of them
abbrev pub before_run : {D A : Type 0} →
    Renderer D A (List A) → List (Entry (List A)) → List (Entry (List A)) → List (Entry (List A))
before_run r more es = let n = length es - length (open_run r.block) in take n es ++ more ++ drop n es

-- footnotes' lines, one after another
abbrev pub notes_add : {D A : Type 0} →
    (ℕ → Option ℕ) → List (List (Item (List A))) → Renderer D A (List A) → List (Added D A)
notes_add columns [] r = []
notes_add columns (is ∷ texts) r = note_added r is ∷ notes_add columns texts (with_line columns r is)

module _ {D A : Type 0} (columns : ℕ → Option ℕ) (decoration : Decoration D A) where
  -- a row of these cells, and nothing where a cell that overhangs has no place
  abbrev pub row_seen : Bool → List (GivenCell (List A)) → Renderer D A (List A) → Option (SeenRow (List A))
  row_seen collapses cells r =
      let same = pointwise decoration.same in
      row_in same columns collapses r (own_cells same columns cells r)

  -- its texts as laid entries
  abbrev pub texts_of_row : Option (SeenRow (List A)) → List (Entry (List A))
  texts_of_row None = []
  texts_of_row (Some seen) = laid_entries (joined seen.lines)

  -- The entries that one brings. A row comes after a flush, and brings its texts.
  abbrev pub act_brought : Act A → Renderer D A (List A) → List (Entry (List A))
  act_brought (call c) r = entries_brought columns decoration c r
  act_brought (row collapses cells) r =
      told_by (λ m. texts_of_row (row_seen collapses cells m)) (after_flush columns r)
  act_brought (fmt_links links) r = laid_entries (joined (flat_map (footnote_lines columns r) links))
  act_brought (finalise targets) r = []

  -- What came after one, of what came before it, in the order of lines: footnotes come before the open run.
  abbrev pub act_comes : Act A → Renderer D A (List A) → List (Entry (List A)) → List (Entry (List A))
  act_comes (fmt_links links) r es = before_run r (act_brought (fmt_links links) r) es
  act_comes act r es = es ++ act_brought act r

  -- and what came after acts, one after another
  abbrev pub acts_come : List (Act A) → Renderer D A (List A) → List (Entry (List A)) → List (Entry (List A))
  acts_come [] r es = es
  acts_come (act ∷ acts) r es = told_by (λ s. acts_come acts s (act_comes act r es)) (after_act columns decoration act r)

  -- what calls and rows bring, and not footnotes
  abbrev pub act_enters : Act A → Renderer D A (List A) → List (Entry (List A))
  act_enters act r = beside_footnotes act (act_brought act r)

  abbrev pub acts_enter : List (Act A) → Renderer D A (List A) → List (Entry (List A))
  acts_enter acts r = told act_enters (after_act columns decoration) acts r

  -- what one adds
  abbrev pub act_adds : Act A → Renderer D A (List A) → List (Added D A)
  act_adds (call c) r = map part_added (call_adds columns decoration c r)
  act_adds (row collapses cells) r =
      map part_added (flush_ends r) ++ told_by (λ m. row_added m collapses cells ∷ []) (after_flush columns r)
  act_adds (fmt_links links) r = notes_add columns (flat_map (footnote_lines columns r) links) r
  act_adds (finalise targets) r = []

  -- and those of acts, one after another
  abbrev pub acts_add : List (Act A) → Renderer D A (List A) → List (Added D A)
  acts_add acts r = told act_adds (after_act columns decoration) acts r

  -- where one answers `TooNarrow` for its own wrapping
  abbrev pub ActIsTooNarrow : Act A → Renderer D A (List A) → Type 0
  ActIsTooNarrow (call c) r = made columns decoration c r ≡ refused TooNarrow
  ActIsTooNarrow (row collapses cells) r = after_flush columns r ≡ refused TooNarrow
  ActIsTooNarrow other r = ⊥

-- ---- what adds lines

-- A row that was put: to which renderer, after the flush, and its cells, as they came and then in their places. What
-- tells annotations apart is given.
pub record PutRow (D A : Type 0) (columns : ℕ → Option ℕ) : Type 0 where
  pub same : List A → List A → Bool
  pub tells : TellsApart same
  pub before : Renderer D A (List A)
  pub collapses : Bool
  pub cells : List (GivenCell (List A))
  pub seated : List (Cell (List A))
  pub are_seated : with_hanging 0 before.hanging (own_cells same columns cells before) ≡ Some seated

-- What adds lines: a part as calls have it, a row, or a footnote's line, with the renderer at that moment.
pub data Piece (D A : Type 0) (columns : ℕ → Option ℕ) : Type 0 where
  part : Part D A → Piece D A columns
  put : PutRow D A columns → Piece D A columns
  noted : Renderer D A (List A) → List (Item (List A)) → Piece D A columns

module _ {D A : Type 0} {columns : ℕ → Option ℕ} where
  abbrev pub cells_in : PutRow D A columns → List (GivenCell (List A))
  cells_in p = p.cells

  -- the row itself
  abbrev pub row_shown : PutRow D A columns → SeenRow (List A)
  row_shown p = row_seated p.same columns p.collapses p.before p.seated

  -- the rows among pieces
  abbrev pub rows_in : List (Piece D A columns) → List (PutRow D A columns)
  rows_in [] = []
  rows_in (part p ∷ pieces) = rows_in pieces
  rows_in (put p ∷ pieces) = p ∷ rows_in pieces
  rows_in (noted r is ∷ pieces) = rows_in pieces

  -- what was added there
  abbrev pub added_of_piece : Piece D A columns → Added D A
  added_of_piece (part p) = part_added p
  added_of_piece (put p) = row_added p.before p.collapses p.cells
  added_of_piece (noted r is) = note_added r is

module _ {D A : Type 0} (columns : ℕ → Option ℕ) where
  abbrev pub border_lines_of : Renderer D A (List A) → Option (Border (List A)) → List (Line (List A))
  border_lines_of r None = []
  border_lines_of r (Some b) = border_line columns r b ∷ []

  -- of a row its texts, and the border below it, if borders are drawn
  abbrev pub lines_of_piece : Piece D A columns → List (Line (List A))
  lines_of_piece (part p) = lines_of_part columns p
  lines_of_piece (put p) =
      lines_laid columns p.before (row_shown p).lines ++ border_lines_of p.before (row_shown p).next
  lines_of_piece (noted r is) = lines_laid columns r (is ∷ [])

  -- what calls and rows brought of it
  abbrev pub entries_of_piece : Piece D A columns → List (Entry (List A))
  entries_of_piece (part p) = entries_of_part p
  entries_of_piece (put p) = laid_entries (joined (row_shown p).lines)
  entries_of_piece (noted r is) = []

  -- The renderer's width and options are still those of another one. A row comes where no block is open.
  abbrev pub IsPiece : Renderer D A (List A) → Piece D A columns → Type 0
  IsPiece first (part p) = IsPart columns first p
  IsPiece first (put p) = IsBetweenBlocks first p.before
  IsPiece first (noted r is) = (r.width ≡ first.width) × (r.options ≡ first.options)

-- the same tag, and the same text in the same columns
abbrev pub KeepsText : {T : Type 0} → Border T → Border T → Type 0
KeepsText b c = (c.tag ≡ b.tag) × (c.holes ≡ b.holes)

-- A text stays as it is. A border keeps its tag and the text in front of it; a row below gives it other cells.
abbrev pub StaysLine : {T : Type 0} → Line T → Line T → Type 0
StaysLine (text is) (text js) = js ≡ is
StaysLine (border b) (border c) = KeepsText b c
StaysLine (text is) (border c) = ⊥
StaysLine (border b) (text js) = ⊥

-- The lines are those that there were and those of the pieces, one after another. The entries of the pieces, and then
-- the open run, are what there was of the open run and what came by calls and rows. The rows among the pieces are those
-- of these cells.
pub record ComesInPieces {D A : Type 0} (columns : ℕ → Option ℕ) (rows : List (List (GivenCell (List A))))
    (r : Renderer D A (List A)) (es : List (Entry (List A))) (s : Renderer D A (List A)) : Type 0 where
  pub pieces : List (Piece D A columns)
  pub are : Each (IsPiece columns r) pieces
  pub lines : AllZip StaysLine (r.lines ++ flat_map (lines_of_piece columns) pieces) s.lines
  pub entries : open_run r.block ++ es ≡ flat_map (entries_of_piece columns) pieces ++ open_run s.block
  pub put_rows : map cells_in (rows_in pieces) ≡ rows
