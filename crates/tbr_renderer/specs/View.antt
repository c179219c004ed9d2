-- What the fields of a renderer mean.
use Rattle.std.specs.Prelude.{◌≡◌, ◌<◌, ℕ, Bool, true, false, ⊤, Option, Some, None, Result, Err, OnOk, List, [], ◌∷◌, map, chars}
use Rattle.std.specs.Option.{option_map}
use Rattle.tbr_model.specs.Rule.{Event}
use Rattle.tbr_tagged.specs.View.{element_of}
use Rattle.tbr_tagged.specs.declared.Error.{Error}
use Rattle.tbr_tagged.specs.declared.Error.TheVariants.{TooNarrow}
use Rattle.tbr_renderer.specs.declared.sub.SubRenderer.TheInside.{Inside}
use Rattle.tbr_tagged.specs.Elements.{Element, piece, marker_element}
use Rattle.tbr_wrap.specs.Block.{Block, new_block, IsSound}
use Rattle.tbr_decor.specs.Start as start
use Rattle.tbr_decor.specs.End as end
use Rattle.tbr_decor.specs.Ground as ground
use Rattle.tbr_renderer.specs.declared.sub.colours.Ground.{Ground as Coloured}
use Rattle.tbr_renderer.specs.declared.sub.colours.Ground.TheVariants as coloured
use Rattle.tbr_renderer.specs.declared.sub.decorated.End.{End as Closed}
use Rattle.tbr_renderer.specs.declared.sub.decorated.End.TheVariants as closed
use Rattle.tbr_renderer.specs.declared.sub.decorated.Start.{Start as Opened}
use Rattle.tbr_renderer.specs.declared.sub.decorated.Start.TheVariants as opened
use Rattle.tbr_renderer.specs.Renderer.{Open, Renderer, least, overflows, with_more}
use Rattle.tbr_renderer.specs.Flush.{fits_grown}

-- an open block as a contract sees it
abbrev pub open_seen : {T : Type 0} → Block T → Open T
open_seen b = record { padding = b.padding; events = b.events }

-- and so one that may be open
abbrev pub block_seen : {T : Type 0} → Option (Block T) → Option (Open T)
block_seen block = option_map open_seen block

-- the names of markers
abbrev pub names_of : {T : Type 0} → List (Element T) → List (List ℕ)
names_of [] = []
names_of (piece cs a ∷ es) = names_of es
names_of (marker_element name ∷ es) = name ∷ names_of es

-- All of these elements are markers.
abbrev pub AreMarkers : {T : Type 0} → List (Element T) → Type 0
AreMarkers es = map marker_element (names_of es) ≡ es

-- a sound block of which no line was handed out, and that has had no run before
pub record IsFresh {T : Type 0} (columns : ℕ → Option ℕ) (width : ℕ) (overflows : Bool) (b : Block T) : Type 0 where
  pub is : b ≡ record (new_block width overflows b.padding) { events = b.events }
  pub sound : IsSound columns b

-- What writing into a block does: these events join its run, unless a line that has ended is too wide then.
pub record Writes {D M R : Type 0} (columns : ℕ → Option ℕ) (r : Renderer D M (List M))
    (es : List (Event (List M))) (old : Block (List M)) (result : Result R Error) (new : Block (List M)) : Type 0 where
  pub written : OnOk result (open_seen new ≡ with_more (open_seen old) es)
  pub goes_on : OnOk result (fits_grown columns r (open_seen old) es ≡ true)
  pub too_narrow : result ≡ Err TooNarrow → fits_grown columns r (open_seen old) es ≡ false

-- The open block is fresh, if there is one.
abbrev pub IsOpened : {T : Type 0} → (ℕ → Option ℕ) → ℕ → Bool → Option (Block T) → Type 0
IsOpened columns width overflows None = ⊤
IsOpened columns width overflows (Some b) = IsFresh columns width overflows b

-- what a contract sees of the fields
abbrev pub renderer_of : {D W A M : Type 0} → Inside D W A M → Renderer D M (List M)
renderer_of r = record {
  width = r.width;
  options = r.options;
  decorator = r.decorator;
  lines = r.lines;
  block = block_seen r.wrapping;
  waiting = names_of (map element_of r.waiting.items);
  block_ended = r.block_ended;
  annotations = r.annotations;
  modes = r.modes.items;
  strikeouts = r.strikeouts;
  preformatted = r.preformatted;
  failure = r.failure;
  hanging = r.hanging;
}

-- What the fields of a renderer that hasn't failed hold: a fresh block, if any, and markers that wait.
pub record HoldsFresh {D W A M : Type 0} (columns : ℕ → Option ℕ) (r : Inside D W A M) : Type 0 where
  pub opened : IsOpened columns (least r.width r.options.wrap_width)
      (overflows r.options (least r.width r.options.wrap_width)) r.wrapping
  pub markers : AreMarkers (map element_of r.waiting.items)

-- and what those of any renderer do
pub record HoldsRenderer {D W A M : Type 0} (columns : ℕ → Option ℕ) (r : Inside D W A M) : Type 0 where
  pub some : 0 < least r.width r.options.wrap_width
  pub fresh : r.failure ≡ None → HoldsFresh columns r

-- what is opened or closed
abbrev pub start_of : Opened → start.Start
start_of (opened.Link target) = start.link (chars target.now)
start_of opened.Emphasis = start.emphasis
start_of opened.Strong = start.strong
start_of opened.Strikeout = start.strikeout
start_of opened.Code = start.code
start_of opened.Superscript = start.superscript
start_of (opened.Image source title) = start.image (chars source.now) (chars title.now)

abbrev pub end_of : Closed → end.End
end_of closed.Link = end.link
end_of closed.Emphasis = end.emphasis
end_of closed.Strong = end.strong
end_of closed.Strikeout = end.strikeout
end_of closed.Code = end.code
end_of closed.Superscript = end.superscript

-- what is coloured
abbrev pub ground_of : Coloured → ground.Ground
ground_of coloured.Text = ground.text
ground_of coloured.Background = ground.background
