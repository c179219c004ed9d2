-- The lines of a run, which stay together for good.
use Rattle.std.specs.Prelude.{◌≡◌, ℕ, ◌≤◌, false, ⊤, Option, Some, None, List, [], ◌∷◌, ◌++◌, map, flat_map, length, take}
use Rattle.std.specs.List.{AllByRecursion as Each}
use Rattle.tbr_model.specs.Rule.{run_of, Event}
use Rattle.tbr_model.specs.Run.{Entry, Item}
use Rattle.tbr_model.specs.Layout.{Slot, slots_of, joined, IsLegal, placed}
use Rattle.tbr_model.specs.Markers.{marker_items}
use Rattle.tbr_model.specs.Shown.{without_spaces}
use Rattle.tbr_wrap.specs.Runs.{IsNormal, EndsRun}
use Rattle.tbr_wrap.specs.Wrapped.{padding_of}
use Rattle.tbr_kept_lines.specs.Line.{Line, text}
use Rattle.tbr_renderer.specs.Renderer.{Open, Renderer, line_padding, block_width, may_overflow, open_run, with_more}
use Rattle.tbr_renderer.specs.Flush.{lines_at_end, names_at_end}
use Rattle.tbr_renderer.specs.Appended.{border_line}
use Rattle.tbr_renderer.specs.Calls.{Call, add_border, append_subrender, append_vert_row, laid_entries}
use Rattle.tbr_border.specs.Border.{without_holes}
use Rattle.tbr_border.specs.Cell.{Cell}
use Rattle.text_block_renderer.specs.Added.{Part, ended, laid, ruled}

-- a text of a block as a line: after markers, and padded to the block's width and to the renderer's
abbrev pub line_of_text : {D A : Type 0} → (ℕ → Option ℕ) → Renderer D A (List A) → Open (List A) → List (List ℕ)
    → List (Item (List A)) → Line (List A)
line_of_text columns r b names is =
    let line = marker_items names ++ (is ++ padding_of columns b.padding (block_width r) is) in
    text (line ++ line_padding columns r line)

-- texts of a block as lines, the first of them after the markers that wait
abbrev pub stretch : {D A : Type 0} →
    (ℕ → Option ℕ) → Renderer D A (List A) → Open (List A) → List (List (Item (List A))) → List (Line (List A))
stretch columns r b [] = []
stretch columns r b (is ∷ texts) =
    line_of_text columns r b r.waiting is ∷ map (λ js. line_of_text columns r b [] js) texts

-- how many items the first n texts have, but for the spaces that gaps are
abbrev pub items_on : {T : Type 0} → ℕ → List (List (Item T)) → ℕ
items_on n texts = length (without_spaces (joined (take n texts)))

-- After any number of lines no legal layout of the run has placed more items.
abbrev pub NoneIsAhead : {T : Type 0} → (ℕ → Option ℕ) → ℕ → List (Entry T) → List (List (Item T)) → Type 0
NoneIsAhead {T} columns width run texts =
    (others : List (List (Slot T))) → IsLegal width (slots_of columns width run) others →
    (n : ℕ) → placed n others ≤ items_on n texts

-- Where the open block's run ends, its lines are one stretch after those that there are.
pub record StandsAsStretch {D A : Type 0} (columns : ℕ → Option ℕ) (r : Renderer D A (List A)) (b : Open (List A))
    (lines : List (Line (List A))) : Type 0 where
  -- what a block promises of a run's texts: in `Normal`, where it may not overflow, those of a legal layout
  pub ends : EndsRun columns (block_width r) (may_overflow r) (run_of b.events) (lines_at_end columns r b)
      (names_at_end columns r b)
  pub ahead : may_overflow r ≡ false → IsNormal (run_of b.events) →
      NoneIsAhead columns (block_width r) (run_of b.events) (lines_at_end columns r b)
  pub after : List (Line (List A))
  pub is : lines ≡ r.lines ++ stretch columns r b (lines_at_end columns r b) ++ after

-- Entries joined the run of the open block, and no line came.
pub record StaysOpen {D A : Type 0} (r : Renderer D A (List A)) (b : Open (List A)) (es : List (Entry (List A)))
    (s : Renderer D A (List A)) : Type 0 where
  pub lines : s.lines ≡ r.lines
  pub events : List (Event (List A))
  pub are : run_of events ≡ es
  pub block : s.block ≡ Some (with_more b events)
  pub waiting : s.waiting ≡ r.waiting

-- Of the entries the first joined the run, which then ended, under the annotations of that moment.
pub record EndsAsStretch {D A : Type 0} (columns : ℕ → Option ℕ) (r : Renderer D A (List A)) (b : Open (List A))
    (es : List (Entry (List A))) (s : Renderer D A (List A)) : Type 0 where
  pub more : List (Event (List A))
  pub later : List (Entry (List A))
  pub came : es ≡ run_of more ++ later
  pub annotations : List A
  pub stands : StandsAsStretch columns (record r { annotations = annotations }) (with_more b more) s.lines

-- items as a line, padded to the renderer's width
abbrev pub padded_line : {D A : Type 0} →
    (ℕ → Option ℕ) → Renderer D A (List A) → List (Item (List A)) → Line (List A)
padded_line columns r is = text (is ++ line_padding columns r is)

-- laid texts as lines, the first of them after the markers that wait
abbrev pub lines_laid : {D A : Type 0} →
    (ℕ → Option ℕ) → Renderer D A (List A) → List (List (Item (List A))) → List (Line (List A))
lines_laid columns r [] = []
lines_laid columns r (is ∷ texts) =
    padded_line columns r (marker_items r.waiting ++ is) ∷ map (padded_line columns r) texts

-- the entries that are there
abbrev pub entries_of_part : {D A : Type 0} → Part D A → List (Entry (List A))
entries_of_part (ended r b) = run_of b.events
entries_of_part (laid r is) = laid_entries is
entries_of_part (ruled r cells) = []

-- the border that is there
abbrev pub borders_of_part : {D A : Type 0} → Part D A → List (List Cell)
borders_of_part (ended r b) = []
borders_of_part (laid r is) = []
borders_of_part (ruled r cells) = cells ∷ []

abbrev pub lines_of_part : {D A : Type 0} → (ℕ → Option ℕ) → Part D A → List (Line (List A))
lines_of_part columns (ended r b) = stretch columns r b (lines_at_end columns r b)
lines_of_part columns (laid r is) = lines_laid columns r (is ∷ [])
lines_of_part columns (ruled r cells) = border_line columns r (without_holes cells r.annotations) ∷ []

-- The open run ended. The renderer's width and options are still those of another one.
pub record HasEnded {D A : Type 0} (columns : ℕ → Option ℕ) (first r : Renderer D A (List A))
    (b : Open (List A)) : Type 0 where
  pub width : r.width ≡ first.width
  pub options : r.options ≡ first.options
  pub block : r.block ≡ Some b
  -- what a block promises of its lines, and of the markers that are on none of them
  pub ends : EndsRun columns (block_width r) (may_overflow r) (run_of b.events) (lines_at_end columns r b)
      (names_at_end columns r b)

-- No block is open. The renderer's width and options are still those of another one.
pub record IsBetweenBlocks {D A : Type 0} (first r : Renderer D A (List A)) : Type 0 where
  pub width : r.width ≡ first.width
  pub options : r.options ≡ first.options
  pub block : r.block ≡ None

-- laid texts and borders come where no block is open
abbrev pub IsPart : {D A : Type 0} → (ℕ → Option ℕ) → Renderer D A (List A) → Part D A → Type 0
IsPart columns first (ended r b) = HasEnded columns first r b
IsPart columns first (laid r is) = IsBetweenBlocks first r
IsPart columns first (ruled r cells) = IsBetweenBlocks first r

-- The lines that came are those of these parts, one after another. The runs that ended and the entries of the texts, and
-- then the open run, are what there was of the open run and what came.
pub record ComesInParts {D A : Type 0} (columns : ℕ → Option ℕ) (parts : List (Part D A)) (r : Renderer D A (List A))
    (es : List (Entry (List A))) (s : Renderer D A (List A)) : Type 0 where
  pub are : Each (IsPart columns r) parts
  pub lines : s.lines ≡ r.lines ++ flat_map (lines_of_part columns) parts
  pub entries : open_run r.block ++ es ≡ flat_map entries_of_part parts ++ open_run s.block

-- a call that appends no lines of others, and no border
abbrev pub AppendsNothing : {T : Type 0} → Call T → Type 0
AppendsNothing (add_border width) = ⊥
AppendsNothing (append_subrender prefixes lines) = ⊥
AppendsNothing (append_vert_row cells) = ⊥
AppendsNothing other = ⊤

-- a run that ended, or an empty line
abbrev pub IsOwnPart : {D A : Type 0} → Part D A → Type 0
IsOwnPart (ended r b) = ⊤
IsOwnPart (laid r is) = is ≡ []
IsOwnPart (ruled r cells) = ⊥
