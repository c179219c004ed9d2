-- What a line of a script asks a renderer for.
use Rattle.std.specs.Prelude.{ℕ, Bool, true, false, List, Option, None, Some, chars, string_bytes}
use Rattle.tbr_decor.specs.Start as start
use Rattle.tbr_decor.specs.End as end_text
use Rattle.tbr_decor.specs.Ground as ground
use Rattle.tbr_decor.specs.Ground.{Ground}
use Rattle.tbr_decor.specs.declared.colour.Colour.{Colour}
use Rattle.tbr_renderer.specs.Calls as call
use Rattle.tbr_renderer.specs.Calls.{Call}
use Rattle.tbr_commands.specs.declared.request.Request as declared
use Rattle.tbr_commands.specs.declared.request.Request.TheVariants as variant
use Rattle.tbr_commands.specs.declared.request.layout.Layout.{Layout}
use Rattle.tbr_commands.specs.declared.request.layout.Layout.TheVariants.{StartBlock, EndBlock, StartTable, NewLine, HardNewLine, EmptyLine}
use Rattle.tbr_commands.specs.declared.request.beginning.Beginning.{Beginning}
use Rattle.tbr_commands.specs.declared.request.beginning.Beginning.TheVariants as beginning
use Rattle.tbr_commands.specs.declared.request.kind.Kind.{Kind}
use Rattle.tbr_commands.specs.declared.request.kind.Kind.TheVariants as kind

-- Texts are those of the script, each by its bytes. A border has a width, or else that of the renderer.
pub data Request : Type 0 where
  layout : Layout → Request
  begin : Beginning → Request
  end : Kind → Request
  text : List ℕ → Request
  fragment : List ℕ → Request
  image : List ℕ → List ℕ → Request
  colour : Ground → Colour → Request
  border : Option ℕ → Request

-- ---- the call of a renderer that it is

-- the call that lays out a block or a line so
abbrev pub laid_out : {T : Type 0} → Layout → Call T
laid_out StartBlock = call.start_block
laid_out EndBlock = call.end_block
laid_out StartTable = call.start_table
laid_out NewLine = call.new_line
laid_out HardNewLine = call.new_line_hard
laid_out EmptyLine = call.add_empty_line

-- the call that begins this
abbrev pub begun_by : {T : Type 0} → Beginning → Call T
begun_by (beginning.Mode mode) = call.push_ws mode
begun_by beginning.Preformat = call.push_preformat
begun_by beginning.Emphasis = call.begin start.emphasis
begun_by beginning.Strong = call.begin start.strong
begun_by beginning.Strikeout = call.start_strikeout
begun_by beginning.Code = call.begin start.code
begun_by beginning.Superscript = call.begin start.superscript

-- the call that ends what is of this kind
abbrev pub end_of : {T : Type 0} → Kind → Call T
end_of kind.Mode = call.pop_ws
end_of kind.Preformat = call.pop_preformat
end_of kind.Emphasis = call.finish end_text.emphasis
end_of kind.Strong = call.finish end_text.strong
end_of kind.Strikeout = call.end_strikeout
end_of kind.Code = call.finish end_text.code
end_of kind.Superscript = call.finish end_text.superscript
end_of kind.Colour = call.pop_colour ground.text
end_of kind.Background = call.pop_colour ground.background

-- the call of a renderer of this width that a request asks for
abbrev pub call_of : {T : Type 0} → ℕ → Request → Call T
call_of width (layout what) = laid_out what
call_of width (begin what) = begun_by what
call_of width (end what) = end_of what
call_of width (text t) = call.add_inline_text (chars t)
call_of width (fragment name) = call.record_frag_start name
call_of width (image source title) = call.add_image (chars source) (chars title)
call_of width (colour g c) = call.push_colour g c
call_of width (border None) = call.add_border width
call_of width (border (Some columns)) = call.add_border columns

-- ---- what takes no memory, and so is never refused

-- the end of a block
abbrev pub lays_out_freely : Layout → Bool
lays_out_freely StartBlock = false
lays_out_freely EndBlock = true
lays_out_freely StartTable = false
lays_out_freely NewLine = false
lays_out_freely HardNewLine = false
lays_out_freely EmptyLine = false

-- the ends that add no text
abbrev pub ends_freely : Kind → Bool
ends_freely kind.Mode = true
ends_freely kind.Preformat = true
ends_freely kind.Emphasis = false
ends_freely kind.Strong = false
ends_freely kind.Strikeout = false
ends_freely kind.Code = false
ends_freely kind.Superscript = false
ends_freely kind.Colour = true
ends_freely kind.Background = true

-- either as a request
abbrev pub takes_no_memory : Request → Bool
takes_no_memory (layout what) = lays_out_freely what
takes_no_memory (begin what) = false
takes_no_memory (end what) = ends_freely what
takes_no_memory (text t) = false
takes_no_memory (fragment name) = false
takes_no_memory (image source title) = false
takes_no_memory (colour g c) = false
takes_no_memory (border width) = false

-- ---- the request that one of the code is

-- a request of the code by what it asks for, texts by their bytes
abbrev pub request_of : declared.Request → Request
request_of (variant.Layout what) = layout what
request_of (variant.Begin what) = begin what
request_of (variant.End what) = end what
request_of (variant.Text t) = text (string_bytes t)
request_of (variant.Fragment name) = fragment (string_bytes name)
request_of (variant.Image i) = image (string_bytes i.first) (string_bytes i.second)
request_of (variant.Colour c) = colour ground.text c
request_of (variant.Background c) = colour ground.background c
request_of (variant.Border width) = border width
