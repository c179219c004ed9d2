-- The end of the open run.
use Rattle.std.specs.Prelude.{◌≡◌, ℕ, Bool, false, if◌then◌else◌, Option, None, Some, IfSome, List, [], ◌++◌, map, fold}
use Rattle.tbr_model.specs.Rule.{Event, run_of}
use Rattle.tbr_model.specs.Run.{Item}
use Rattle.tbr_wrap.specs.Block.{Block, lines, all_lines, waiting_names, allows, grown}
use Rattle.tbr_wrap.specs.Block as block
use Rattle.tbr_wrap.specs.Runs.{IsNormal}
use Rattle.tbr_wrap.specs.Wrapped.{HasBestLines, padding_of}
use Rattle.tbr_tagged.specs.Outcome.{Outcome, done, refused}
use Rattle.tbr_tagged.specs.declared.Error.TheVariants.{TooNarrow}
use Rattle.tbr_renderer.specs.Renderer.{Open, Renderer, with_line, block_width, may_overflow}

-- ---- the open block by its rule

-- the open block, of which no line was handed out
abbrev pub block_in : {D A T : Type 0} → Renderer D A T → Open T → Block T
block_in r b = record (block.new_block (block_width r) (may_overflow r) b.padding) { events = b.events }

-- whether no line that has ended is wider than the block, or may be, once more has come
abbrev pub fits_grown : {D A T : Type 0} → (ℕ → Option ℕ) → Renderer D A T → Open T → List (Event T) → Bool
fits_grown columns r b es = let g = grown (block_in r b) es in allows columns g (lines columns g)

-- the lines of the block where its run ends, and the markers that wait then
abbrev pub lines_at_end : {D A T : Type 0} → (ℕ → Option ℕ) → Renderer D A T → Open T → List (List (Item T))
lines_at_end columns r b = all_lines columns (block_in r b)

abbrev pub names_at_end : {D A T : Type 0} → (ℕ → Option ℕ) → Renderer D A T → Open T → List (List ℕ)
names_at_end columns r b = waiting_names columns (block_in r b)

-- whether no line is wider than the block, or may be, where its run ends
abbrev pub fits_at_end : {D A T : Type 0} → (ℕ → Option ℕ) → Renderer D A T → Open T → Bool
fits_at_end columns r b = allows columns (block_in r b) (lines_at_end columns r b)

-- What an open run leaves where it ends. In `Normal`, where no line may be wider than the block, no legal layout of it
-- has placed more after any number of lines.
abbrev pub EndsBest : {D A T : Type 0} → (ℕ → Option ℕ) → Renderer D A T → Type 0
EndsBest columns r =
    IfSome r.block (λ b. may_overflow r ≡ false → IsNormal (run_of b.events) →
    HasBestLines columns (block_width r) (run_of b.events) (lines_at_end columns r b))

-- ---- its lines

-- lines of a block, each padded to the block's width
abbrev pub block_lines : {D A : Type 0} →
    (ℕ → Option ℕ) → Renderer D A (List A) → Open (List A) → List (List (Item (List A))) → List (List (Item (List A)))
block_lines columns r b texts = map (λ is. is ++ padding_of columns b.padding (block_width r) is) texts

-- a line of a block with its padding
abbrev pub filled_line : {A : Type 0} → (ℕ → Option ℕ) → Block (List A) → List (Item (List A)) → List (Item (List A))
filled_line columns b is = is ++ padding_of columns b.padding b.width is

-- A block's lines come as they are: neither padded, nor after markers that wait.
pub record AddsAsIs {D A : Type 0} (r : Renderer D A (List A)) (b : Block (List A)) : Type 0 where
  pub padding : b.padding ≡ None
  pub unpadded : r.options.pad_block_width ≡ false
  pub waits : r.waiting ≡ []

-- the run is ended: its lines join the others one by one, and the markers that are on none of them wait
abbrev pub flushed : {D A : Type 0} →
    (ℕ → Option ℕ) → Renderer D A (List A) → List (List (Item (List A))) → List (List ℕ) → Renderer D A (List A)
flushed columns r lines names =
    let s = fold (with_line columns) (record r { block = None }) lines in
    record s { waiting = s.waiting ++ names }

-- The end of a block: its lines join the others, where none is wider than the block, or may be.
abbrev pub after_block : {D A : Type 0} →
    (ℕ → Option ℕ) → Renderer D A (List A) → Option (Open (List A)) → Outcome (Renderer D A (List A))
after_block columns r None = done r
after_block columns r (Some b) =
    let texts = lines_at_end columns r b in
    if fits_at_end columns r b
    then done (flushed columns r (block_lines columns r b texts) (names_at_end columns r b))
    else refused TooNarrow

-- A flush ends the open block, if there is one.
abbrev pub after_flush : {D A : Type 0} → (ℕ → Option ℕ) → Renderer D A (List A) → Outcome (Renderer D A (List A))
after_flush columns r = after_block columns r r.block
