-- What the arguments of calls are read as: a command, or with what they are refused.
use Rattle.std.specs.Prelude.{◌≡◌, ◌≢◌, ℕ, ◌==◌, nat_lt, if◌then◌else◌, Option, None, Some, Result, Ok, Err, MatchResult, IfOk, List, [], ◌∷◌, chars, slice_get}
use Rattle.std.specs.Option.{ok_or}
use Rattle.std.specs.Str.{is_utf8}
use Rattle.tbr_model.specs.declared.white_space.WhiteSpace.{WhiteSpace}
use Rattle.tbr_model.specs.declared.white_space.WhiteSpace.TheVariants.{Normal, Pre, PreWrap}
use Rattle.tbr_tagged.specs.declared.CellAlign.{CellAlign}
use Rattle.tbr_tagged.specs.declared.CellAlign.TheVariants.{Left, Right, Centre}
use Rattle.tbr_renderer.specs.Options.{default_options}
use Rattle.tbr_renderer.specs.declared.ImageRenderMode.{ImageRenderMode}
use Rattle.tbr_renderer.specs.declared.ImageRenderMode.TheVariants.{IgnoreEmpty, ShowAlways, Filename}
use Rattle.tbr_renderer.specs.declared.RenderOptions.{RenderOptions}
use Rattle.tbr_commands.specs.declared.opening.Decorator.{Decorator}
use Rattle.tbr_commands.specs.declared.opening.Decorator.TheVariants.{Plain, Trivial, Rich}
use Rattle.tbr_commands.specs.declared.opening.Opening.{Opening}
use Rattle.tbr_commands.specs.Command.{Command, ask, sub, cell, command_of, IsSized}
use Rattle.tbr_commands.specs.declared.command.Command as declared
use Rattle.tbr_commands.specs.Request.{begin}
use Rattle.tbr_commands.specs.declared.request.beginning.Beginning.TheVariants.{Mode}
use Rattle.column_widths.specs.declared.room.Room.{Room}
use Rattle.tbr_tagged.specs.UnicodeColumns.{unicode_columns}
use Rattle.tbr_tables.specs.Numbers.{any_width}
use Rattle.tbr_tables.specs.Ruler.{no_text, after_text, room_of}
use Rattle.tbr_c_tables.specs.declared.table_call.TableCall.{TableCall}
use Rattle.tbr_c_tables.specs.declared.table_call.TableCall.TheVariants.{StartCell}
use Rattle.tbr_c_lines.specs.declared.fault.Fault.{Fault}
use Rattle.tbr_c_lines.specs.declared.fault.Fault.TheVariants.{OutOfMemory, NotUtf8, BadWidth, BadArgument}
use Rattle.tbr_c.specs.declared.options.Options.{Options}
use Rattle.tbr_c.specs.declared.extent.Extent.{Extent}

-- What was read means what is asked for, and is refused only with what that is, but where memory is refused.
abbrev pub Reads : {X Y : Type 0} → (Y → X) → Result X Fault → Result Y Fault → Type 0
Reads meaning asked read = MatchResult read (λ y. asked ≡ Ok (meaning y)) (λ f. f ≢ OutOfMemory → asked ≡ Err f)

-- The same of a command, whose widths and spans are at least 1.
abbrev pub ReadsCommand : Result Command Fault → Result declared.Command Fault → Type 0
ReadsCommand asked read = Reads command_of asked read × IfOk read (λ command. IsSized (command_of command))

-- what is made of what was read
abbrev pub and_then : {X Y : Type 0} → Result X Fault → (X → Result Y Fault) → Result Y Fault
and_then (Ok x) make = make x
and_then (Err f) make = Err f

-- ---- one argument

-- a text by its bytes
abbrev pub text_read : List ℕ → Result (List ℕ) Fault
text_read bytes = if is_utf8 bytes then Ok bytes else Err NotUtf8

-- what these are by their numbers in `text_block_renderer.h`
abbrev pub decorator_named : ℕ → Result Decorator Fault
decorator_named number = ok_or (slice_get (Plain ∷ Trivial ∷ Rich ∷ []) number) BadArgument

abbrev pub images_named : ℕ → Result ImageRenderMode Fault
images_named number = ok_or (slice_get (IgnoreEmpty ∷ ShowAlways ∷ Filename ∷ []) number) BadArgument

abbrev pub mode_named : ℕ → Result WhiteSpace Fault
mode_named number = ok_or (slice_get (Normal ∷ Pre ∷ PreWrap ∷ []) number) BadArgument

abbrev pub alignment_named : ℕ → Result CellAlign Fault
alignment_named number = ok_or (slice_get (Left ∷ Right ∷ Centre ∷ []) number) BadArgument

-- ---- commands

-- one with a text
abbrev pub with_text : List ℕ → (List ℕ → Command) → Result Command Fault
with_text bytes make = and_then (text_read bytes) (λ text. Ok (make text))

-- one with two
abbrev pub with_texts : List ℕ → List ℕ → (List ℕ → List ℕ → Command) → Result Command Fault
with_texts first second make = and_then (text_read first) (λ text. with_text second (make text))

-- the others
abbrev pub mode_asked : ℕ → Result Command Fault
mode_asked number = and_then (mode_named number) (λ mode. Ok (ask (begin (Mode mode))))

abbrev pub sub_asked : ℕ → Result Command Fault
sub_asked width = if width == 0 then Err BadWidth else Ok (sub width)

abbrev pub cell_asked : ℕ → ℕ → ℕ → Result Command Fault
cell_asked width span number =
    and_then (alignment_named number)
    (λ align. if width == 0 then Err BadWidth else if span == 0 then Err BadArgument else Ok (cell width span align))

-- ---- a new renderer

-- the most columns of a line of wrapped text, where some are given
abbrev pub wrap_asked : ℕ → Option ℕ
wrap_asked columns = if nat_lt 0 columns then Some columns else None

abbrev pub options_asked : Options → ImageRenderMode → RenderOptions
options_asked given images = record default_options {
  wrap_width = wrap_asked given.wrap_width;
  allow_width_overflow = given.overflow;
  pad_block_width = given.pad;
  draw_borders = given.draw_borders;
  wrap_links = given.wrap_links;
  include_link_footnotes = given.footnotes;
  use_unicode_strikeout = given.strikeout_strokes;
  img_mode = images;
}

-- the first command of a script that asks for the same
abbrev pub opening_asked : Options → Result Opening Fault
opening_asked given =
    if given.width == 0 then Err BadWidth else and_then (decorator_named given.decorator) (λ decorator.
    and_then (images_named given.images) (λ images.
    Ok (record { width = given.width; decorator = decorator; options = options_asked given images })))

-- ---- tables

-- a cell of a table that finds its widths
abbrev pub table_cell_asked : ℕ → ℕ → ℕ → Result TableCall Fault
table_cell_asked columns rows number =
    and_then (alignment_named number)
    (λ align. Ok (StartCell record { columns = columns; rows = rows; align = align }))

-- how much room something can use
abbrev pub extent_of : Room → Extent
extent_of room = record { longest_word = room.least; widest_line = room.greatest }

-- what a text can use in a mode of white space
abbrev pub extent_of_text : WhiteSpace → List ℕ → Extent
extent_of_text mode text =
    extent_of (room_of (after_text unicode_columns mode (chars text) (no_text any_width any_width)))

abbrev pub extent_asked : ℕ → List ℕ → Result Extent Fault
extent_asked number bytes =
    and_then (mode_named number) (λ mode. and_then (text_read bytes) (λ text. Ok (extent_of_text mode text)))
