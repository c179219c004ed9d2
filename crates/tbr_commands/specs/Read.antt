-- The command that a line is, read from how it is written.
use Rattle.std.specs.Prelude.{ℕ, ◌==◌, true, false, if◌then◌else◌, Option, None, Some, List, [], ◌∷◌, codes, fold}
use Rattle.std.specs.Option.{option_map, option_and_then}
use Rattle.std.specs.List.{list_any}
use Rattle.std.specs.Str.{bytes_eq, is_utf8}
use Rattle.tbr_model.specs.Codes.{space_character}
use Rattle.tbr_model.specs.declared.white_space.WhiteSpace.{WhiteSpace}
use Rattle.tbr_model.specs.declared.white_space.WhiteSpace.TheVariants.{Normal, Pre, PreWrap}
use Rattle.tbr_tagged.specs.declared.CellAlign.{CellAlign}
use Rattle.tbr_tagged.specs.declared.CellAlign.TheVariants.{Left, Right, Centre}
use Rattle.tbr_decor.specs.Ground as ground
use Rattle.tbr_decor.specs.declared.colour.Colour.{Colour}
use Rattle.tbr_renderer.specs.Options.{default_options}
use Rattle.tbr_renderer.specs.declared.RenderOptions.{RenderOptions}
use Rattle.tbr_renderer.specs.declared.ImageRenderMode.TheVariants.{IgnoreEmpty, ShowAlways, Filename}
use Rattle.tbr_script.specs.Script.{words_of, backslash}
use Rattle.tbr_script.specs.Read.{number_read, size_read, byte_read, text_read, texts_read}
use Rattle.tbr_commands.specs.declared.options.Setting.{Setting}
use Rattle.tbr_commands.specs.declared.options.Setting.TheVariants.{Wrap, Overflow, Pad, NoBorders, NoWrapLinks, Footnotes, NoStrike, Images}
use Rattle.tbr_commands.specs.declared.opening.Decorator.{Decorator}
use Rattle.tbr_commands.specs.declared.opening.Decorator.TheVariants.{Plain, Trivial, Rich}
use Rattle.tbr_commands.specs.declared.opening.Opening.{Opening}
use Rattle.tbr_commands.specs.declared.request.layout.Layout.TheVariants.{StartBlock, EndBlock, StartTable, NewLine, HardNewLine, EmptyLine}
use Rattle.tbr_commands.specs.declared.request.beginning.Beginning.TheVariants as beginning
use Rattle.tbr_commands.specs.declared.request.kind.Kind.TheVariants as kind
use Rattle.tbr_commands.specs.Options.{with_setting}
use Rattle.tbr_commands.specs.Request.{Request, layout, begin, end, text, fragment, image, colour, border}
use Rattle.tbr_commands.specs.Command.{Command, ask, link, end_link, sub, append, cell, end_cell, row, vertical_row}

-- the first that there is
abbrev pub first_of : {X : Type 0} → Option X → Option X → Option X
first_of None other = other
first_of (Some x) other = Some x

-- what a writing stands for, by a list of writings
abbrev pub looked_up : {X : Type 0} → List (List ℕ × X) → List ℕ → Option X
looked_up [] writing = None
looked_up (entry ∷ entries) writing = if bytes_eq writing entry.0 then Some entry.1 else looked_up entries writing

-- what is after a word
abbrev pub after_word : List ℕ → List ℕ → Option (List ℕ)
after_word [] bs = Some bs
after_word (w ∷ ws) [] = None
after_word (w ∷ ws) (b ∷ bs) = if b == w then after_word ws bs else None

-- what is before the first space and after it
abbrev pub split_at_space : List ℕ → Option (List ℕ × List ℕ)
split_at_space [] = None
split_at_space (b ∷ bs) =
    if b == space_character then Some ([], bs)
    else option_map (λ parts. (b ∷ parts.0, parts.1)) (split_at_space bs)

-- ---- commands that are a name alone

-- those that begin with `end`, by their names
abbrev pub endings : List (List ℕ × Command)
endings =
    (codes "endlink", end_link) ∷ (codes "endcell", end_cell) ∷ (codes "endblock", ask (layout EndBlock))
    ∷ (codes "endws", ask (end kind.Mode)) ∷ (codes "endpre", ask (end kind.Preformat))
    ∷ (codes "endem", ask (end kind.Emphasis)) ∷ (codes "endstrong", ask (end kind.Strong))
    ∷ (codes "endstrike", ask (end kind.Strikeout)) ∷ (codes "endcode", ask (end kind.Code))
    ∷ (codes "endsuper", ask (end kind.Superscript)) ∷ (codes "endcolour", ask (end kind.Colour))
    ∷ (codes "endbg", ask (end kind.Background)) ∷ []

-- the others, by their names
abbrev pub names : List (List ℕ × Command)
names =
    (codes "block", ask (layout StartBlock)) ∷ (codes "table", ask (layout StartTable))
    ∷ (codes "line", ask (layout NewLine)) ∷ (codes "hardline", ask (layout HardNewLine))
    ∷ (codes "empty", ask (layout EmptyLine)) ∷ (codes "pre", ask (begin beginning.Preformat))
    ∷ (codes "em", ask (begin beginning.Emphasis)) ∷ (codes "strong", ask (begin beginning.Strong))
    ∷ (codes "strike", ask (begin beginning.Strikeout)) ∷ (codes "code", ask (begin beginning.Code))
    ∷ (codes "super", ask (begin beginning.Superscript)) ∷ (codes "border", ask (border None))
    ∷ (codes "row", row false) ∷ (codes "vrow", vertical_row) ∷ []

abbrev pub name_read : List ℕ → Option Command
name_read name = first_of (looked_up endings name) (looked_up names name)

-- ---- commands of a word and an argument

-- a colour by its three parts, with a space between two
abbrev pub colour_of : List ℕ → List ℕ → List ℕ → Option Colour
colour_of red green blue =
    option_and_then (λ r.
    option_and_then (λ g. option_map (λ b. record { r = r; g = g; b = b }) (byte_read blue)) (byte_read green))
    (byte_read red)

abbrev pub colour_read : List ℕ → Option Colour
colour_read writing =
    option_and_then (λ first. option_and_then (λ second. colour_of first.0 second.0 second.1) (split_at_space first.1))
    (split_at_space writing)

-- an alignment by the words after a cell's span
abbrev pub alignment_of : List (List ℕ) → Option CellAlign
alignment_of [] = Some Left
alignment_of (word ∷ []) =
    looked_up ((codes "left", Left) ∷ (codes "right", Right) ∷ (codes "centre", Centre) ∷ []) word
alignment_of other = None

-- a cell by its words
abbrev pub cell_of : List (List ℕ) → Option Command
cell_of (digits ∷ others ∷ words) =
    option_and_then (λ width.
    option_and_then (λ span. option_map (λ align. cell width span align) (alignment_of words)) (size_read others))
    (size_read digits)
cell_of other = None

-- the modes of white space
abbrev pub modes : List (List ℕ × WhiteSpace)
modes = (codes "normal", Normal) ∷ (codes "pre", Pre) ∷ (codes "prewrap", PreWrap) ∷ []

-- how the argument of a word is read, for what a renderer is asked
abbrev pub request_readers : List (List ℕ × (List ℕ → Option Request))
request_readers =
    (codes "text", λ w. option_map text (text_read w)) ∷ (codes "frag", λ w. option_map fragment (text_read w))
    ∷ (codes "image", λ w. option_map (λ p. image p.0 p.1) (texts_read w))
    ∷ (codes "colour", λ w. option_map (colour ground.text) (colour_read w))
    ∷ (codes "bg", λ w. option_map (colour ground.background) (colour_read w))
    ∷ (codes "border", λ w. option_map (λ n. border (Some n)) (number_read w))
    ∷ (codes "ws", λ w. option_map (λ mode. begin (beginning.Mode mode)) (looked_up modes w)) ∷ []

-- and for the others
abbrev pub level_readers : List (List ℕ × (List ℕ → Option Command))
level_readers =
    (codes "link", λ w. option_map link (text_read w)) ∷ (codes "sub", λ w. option_map sub (size_read w))
    ∷ (codes "append", λ w. option_map (λ p. append p.0 p.1) (texts_read w))
    ∷ (codes "cell", λ w. cell_of (words_of w))
    ∷ (codes "row", λ w. looked_up ((codes "collapse", row true) ∷ []) w) ∷ []

-- by a word and its argument
abbrev pub read_by : {X : Type 0} → List (List ℕ × (List ℕ → Option X)) → List ℕ → List ℕ → Option X
read_by readers word argument = option_and_then (λ read. read argument) (looked_up readers word)

abbrev pub argument_read : List ℕ → List ℕ → Option Command
argument_read word argument =
    first_of (option_map ask (read_by request_readers word argument)) (read_by level_readers word argument)

-- ---- the command that a line is, if it is one

-- by its parts, if it has a space
abbrev pub parts_read : List ℕ → Option (List ℕ × List ℕ) → Option Command
parts_read line None = name_read line
parts_read line (Some parts) = argument_read parts.0 parts.1

-- of one that is UTF-8
abbrev pub line_read : List ℕ → Option Command
line_read line = parts_read line (split_at_space line)

abbrev pub command_read : List ℕ → Option Command
command_read line = if is_utf8 line then line_read line else None

-- ---- texts that are written as they are

-- a writing in UTF-8 without a backslash
abbrev pub as_written : List ℕ → Option (List ℕ)
as_written writing =
    if list_any (λ b. b == backslash) writing then None else if is_utf8 writing then Some writing else None

-- the text of a line that is written so after a word
abbrev pub plain_read : List ℕ → List ℕ → Option (List ℕ)
plain_read word line = option_and_then as_written (after_word word line)

-- ---- the first command

-- the settings without a number
abbrev pub settings : List (List ℕ × Setting)
settings =
    (codes "overflow", Overflow) ∷ (codes "pad", Pad) ∷ (codes "noborders", NoBorders)
    ∷ (codes "nowraplinks", NoWrapLinks) ∷ (codes "footnotes", Footnotes) ∷ (codes "nostrike", NoStrike)
    ∷ (codes "img=ignore", Images IgnoreEmpty) ∷ (codes "img=filename", Images Filename)
    ∷ (codes "img=always", Images ShowAlways) ∷ []

-- a wrap width by its word
abbrev pub wrap_read : List ℕ → Option Setting
wrap_read word = option_and_then (λ digits. option_map Wrap (size_read digits)) (after_word (codes "wrap=") word)

-- a setting by its word
abbrev pub setting_read : List ℕ → Option Setting
setting_read word = first_of (looked_up settings word) (wrap_read word)

-- the settings of words
abbrev pub settings_read : List (List ℕ) → Option (List Setting)
settings_read [] = Some []
settings_read (word ∷ words) =
    option_and_then (λ setting. option_map (λ others. setting ∷ others) (settings_read words)) (setting_read word)

-- the options that words give; of two of a kind the later counts
abbrev pub options_read : List (List ℕ) → Option RenderOptions
options_read words = option_map (λ all. fold with_setting default_options all) (settings_read words)

abbrev pub decorator_read : List ℕ → Option Decorator
decorator_read name = looked_up ((codes "plain", Plain) ∷ (codes "trivial", Trivial) ∷ (codes "rich", Rich) ∷ []) name

-- a first command by the words after `new`
abbrev pub asked_for : List (List ℕ) → Option Opening
asked_for (digits ∷ name ∷ words) =
    option_and_then (λ width.
    option_and_then (λ decorator. option_map (λ options. record {
      width = width;
      decorator = decorator;
      options = options;
    }) (options_read words)) (decorator_read name)) (size_read digits)
asked_for other = None

abbrev pub opening_words : List (List ℕ) → Option Opening
opening_words [] = None
opening_words (word ∷ words) = if bytes_eq word (codes "new") then asked_for words else None

-- the first command that a line is, if it is one
abbrev pub opening_read : List ℕ → Option Opening
opening_read line = if is_utf8 line then opening_words (words_of line) else None
