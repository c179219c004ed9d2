-- What a contract sees of a renderer, and the small steps by which it changes.
use Rattle.std.specs.Prelude.{◌≡◌, ◌<◌, ℕ, Bool, true, false, ◌&&◌, nat_lt, nat_le, if◌then◌else◌, Option, None, Some, unwrap_or, not, List, [], ◌∷◌, ◌++◌, map, flat_map, replicate}
use Rattle.std.specs.List.{list_any, list_all}
use Rattle.std.specs.Char.{is_whitespace}
use Rattle.tbr_model.specs.declared.white_space.WhiteSpace.{WhiteSpace}
use Rattle.tbr_model.specs.declared.white_space.WhiteSpace.TheVariants.{Normal}
use Rattle.tbr_model.specs.WhiteSpace.{preserves}
use Rattle.tbr_model.specs.Rule.{Event, call, entry, run_of}
use Rattle.tbr_model.specs.Run.{Entry, Item}
use Rattle.tbr_model.specs.Markers.{marker_items}
pub use Rattle.tbr_model.specs.Width.{stroke}
use Rattle.tbr_wrap.specs.Runs.{text_entries}
use Rattle.tbr_wrap.specs.Wrapped.{padding_of}
use Rattle.tbr_tagged.specs.declared.Error.{Error}
use Rattle.tbr_rows.specs.declared.line_set.LineSet.{LineSet as Cell}
use Rattle.tbr_kept_lines.specs.Line.{Line, text, line_has_content}
use Rattle.tbr_kept_lines.specs.LastBorder.{without_last}
use Rattle.tbr_renderer.specs.declared.options.RenderOptions.{RenderOptions}

-- The open block: what the padding of its lines is under, where they are padded, and what came.
pub record Open (T : Type 0) : Type 0 where
  pub padding : Option T
  pub events : List (Event T)

-- A renderer, whose decorator is a `D`. Text is under a `T`, which holds several annotations `A`.
pub record Renderer (D A T : Type 0) : Type 0 where
  pub width : ℕ
  pub options : RenderOptions
  pub decorator : D
  pub lines : List (Line T)
  pub block : Option (Open T)
  -- the markers that wait for a line of text
  pub waiting : List (List ℕ)
  -- whether text that comes begins a block
  pub block_ended : Bool
  pub annotations : List A
  pub modes : List WhiteSpace
  -- how many strikeouts and how many preformatted stretches are open
  pub strikeouts : ℕ
  pub preformatted : ℕ
  -- the kept refusal
  pub failure : Option Error
  -- the cells that overhang from the rows before
  pub hanging : List (Cell T)

-- a renderer to which nothing was added
abbrev pub new_renderer : {D A T : Type 0} → ℕ → RenderOptions → D → Renderer D A T
new_renderer width options decorator = record {
  width = width;
  options = options;
  decorator = decorator;
  lines = [];
  block = None;
  waiting = [];
  block_ended = false;
  annotations = [];
  modes = [];
  strikeouts = 0;
  preformatted = 0;
  failure = None;
  hanging = [];
}

-- ---- what isn't text

-- what is kept of a renderer where a call refuses: what later calls ask for
pub record Kept : Type 0 where
  pub width : ℕ
  pub options : RenderOptions
  pub modes : List WhiteSpace
  pub strikeouts : ℕ
  pub preformatted : ℕ

abbrev pub kept_of : {D A T : Type 0} → Renderer D A T → Kept
kept_of r = record {
  width = r.width;
  options = r.options;
  modes = r.modes;
  strikeouts = r.strikeouts;
  preformatted = r.preformatted;
}

-- what a renderer is, but for its text
pub record Settings (D A : Type 0) : Type 0 where
  pub kept : Kept
  pub decorator : D
  pub annotations : List A

-- a renderer's settings
abbrev pub settings_of : {D A T : Type 0} → Renderer D A T → Settings D A
settings_of r = record { kept = kept_of r; decorator = r.decorator; annotations = r.annotations }

-- The settings are as they were.
abbrev pub KeepsSettings : {D A T : Type 0} → Renderer D A T → Renderer D A T → Type 0
KeepsSettings r s = settings_of s ≡ settings_of r

-- an annotation more, after those that are open
abbrev pub with_annotation : {D A T : Type 0} → Renderer D A T → A → Renderer D A T
with_annotation r annotation = record r { annotations = r.annotations ++ annotation ∷ [] }

-- the last one is taken, if there is one
abbrev pub without_annotation : {D A T : Type 0} → Renderer D A T → Renderer D A T
without_annotation r = record r { annotations = without_last r.annotations }

-- ---- lines

-- whether any line of a renderer has content
abbrev pub has_content : {D A T : Type 0} → Renderer D A T → Bool
has_content r = list_any line_has_content r.lines

-- what fills a line of text up to the renderer's width, where lines are padded
abbrev pub line_padding : {D A : Type 0} →
    (ℕ → Option ℕ) → Renderer D A (List A) → List (Item (List A)) → List (Item (List A))
line_padding columns r is =
    padding_of columns (if r.options.pad_block_width then Some r.annotations else None) r.width is

-- a line of text more, padded
abbrev pub with_filled : {D A : Type 0} →
    (ℕ → Option ℕ) → Renderer D A (List A) → List (Item (List A)) → Renderer D A (List A)
with_filled columns r is = record r { lines = r.lines ++ text (is ++ line_padding columns r is) ∷ [] }

-- the same after the markers that wait
abbrev pub with_line : {D A : Type 0} →
    (ℕ → Option ℕ) → Renderer D A (List A) → List (Item (List A)) → Renderer D A (List A)
with_line columns r is = with_filled columns (record r { waiting = [] }) (marker_items r.waiting ++ is)

-- ---- the open block

-- the lesser of the renderer's width and the wrap width
abbrev pub least : ℕ → Option ℕ → ℕ
least width None = width
least width (Some wrap) = if nat_le width wrap then width else wrap

-- how many columns a line of the renderer's blocks has
abbrev pub block_columns : Kept → ℕ
block_columns k = least k.width k.options.wrap_width

abbrev pub block_width : {D A T : Type 0} → Renderer D A T → ℕ
block_width r = least r.width r.options.wrap_width

-- whether a line of the block may be wider
abbrev pub overflows : RenderOptions → ℕ → Bool
overflows options columns = options.allow_width_overflow && nat_lt columns 2

-- whether a line of the renderer's blocks may be wider than that
abbrev pub may_overflow : {D A T : Type 0} → Renderer D A T → Bool
may_overflow r = overflows r.options (block_width r)

-- A space takes one column, which is a law of `CharWidth`, and a line of the renderer's blocks has at least one, for
-- which `new` asks.
pub record IsSound {D A T : Type 0} (columns : ℕ → Option ℕ) (r : Renderer D A T) : Type 0 where
  pub space : columns 32 ≡ Some 1
  pub wide : 0 < block_width r

-- a block as it is opened: it pads under the annotations of that moment
abbrev pub new_block : {D A : Type 0} → Renderer D A (List A) → Open (List A)
new_block r = record {
  padding = (if r.options.pad_block_width then Some r.annotations else None);
  events = [];
}

-- the open block, or a new one
abbrev pub open_block : {D A : Type 0} → Renderer D A (List A) → Open (List A)
open_block r = unwrap_or r.block (new_block r)

-- the open run, which is empty where no block is open
abbrev pub open_run : {T : Type 0} → Option (Open T) → List (Entry T)
open_run None = []
open_run (Some b) = run_of b.events

-- a block to which more comes
abbrev pub with_more : {T : Type 0} → Open T → List (Event T) → Open T
with_more b es = record b { events = b.events ++ es }

-- more comes to the open block, or to a new one
abbrev pub with_events : {D A : Type 0} → Renderer D A (List A) → List (Event (List A)) → Renderer D A (List A)
with_events r es = record r { block = Some (with_more (open_block r) es) }

-- a call by which these entries come
abbrev pub called : {T : Type 0} → List (Entry T) → List (Event T)
called es = call ∷ map entry es

-- ---- text

-- the mode that was pushed last
abbrev pub last_mode : List WhiteSpace → WhiteSpace
last_mode [] = Normal
last_mode (mode ∷ []) = mode
last_mode (mode ∷ next ∷ modes) = last_mode (next ∷ modes)

-- a character with so many strokes after it, if it takes columns
abbrev pub struck_character : (ℕ → Option ℕ) → ℕ → ℕ → List ℕ
struck_character columns depth c =
    c ∷ (if nat_lt 0 (unwrap_or (columns c) 0) then replicate depth stroke else [])

-- a text with so many strokes after each character that takes columns
abbrev pub struck : (ℕ → Option ℕ) → ℕ → List ℕ → List ℕ
struck columns depth cs = flat_map (struck_character columns depth) cs

-- the annotations of a text, and those that it has where its hard line goes on, inside a preformatted stretch
abbrev pub text_annotations : {D A : Type 0} → (D → Bool → A) → Bool → Renderer D A (List A) → List A
text_annotations preformatted continued r =
    if nat_lt 0 r.preformatted then r.annotations ++ preformatted r.decorator continued ∷ [] else r.annotations

-- the entries of a text under these
abbrev pub entries_under : {D A : Type 0} → (D → Bool → A) → Renderer D A (List A) → List ℕ → List (Entry (List A))
entries_under preformatted r cs =
    text_entries cs (text_annotations preformatted false r) (text_annotations preformatted true r) (last_mode r.modes)

-- the entries that a text brings, with strokes inside strikeouts
abbrev pub entries_of : {D A : Type 0} →
    (ℕ → Option ℕ) → (D → Bool → A) → Renderer D A (List A) → List ℕ → List (Entry (List A))
entries_of columns preformatted r cs = entries_under preformatted r (struck columns r.strikeouts cs)

-- white space alone
abbrev pub is_white : List ℕ → Bool
is_white cs = list_all is_whitespace cs

-- after the end of a block white space is ignored in `Normal`
abbrev pub ignores : {D A T : Type 0} → Renderer D A T → List ℕ → Bool
ignores r cs = r.block_ended && (not (preserves (last_mode r.modes)) && is_white cs)
