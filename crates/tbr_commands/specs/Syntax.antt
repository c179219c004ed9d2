-- How each command is written.
use Rattle.std.specs.Prelude.{◌≡◌, ◌⊎◌, ℕ, true, false, List, [], ◌∷◌, ◌++◌, None, Some, codes}
use Rattle.std.specs.Str.{IsUtf8}
use Rattle.std.specs.Str.Parse.{digits_value}
use Rattle.tbr_model.specs.declared.white_space.WhiteSpace.{WhiteSpace}
use Rattle.tbr_model.specs.declared.white_space.WhiteSpace.TheVariants.{Normal, Pre, PreWrap}
use Rattle.tbr_tagged.specs.declared.CellAlign.{CellAlign}
use Rattle.tbr_tagged.specs.declared.CellAlign.TheVariants.{Left, Right, Centre}
use Rattle.tbr_decor.specs.declared.colour.Colour.{Colour}
use Rattle.tbr_decor.specs.Ground as ground
use Rattle.tbr_script.specs.Script.{IsNumber, IsSize, IsByte, IsText, AreSplitTexts, words_of}
use Rattle.tbr_commands.specs.Request.{Request, layout, begin, end, text, fragment, image, colour, border}
use Rattle.tbr_commands.specs.Command.{Command, ask, link, end_link, sub, append, cell, end_cell, row, vertical_row}
use Rattle.tbr_commands.specs.declared.request.layout.Layout.{Layout}
use Rattle.tbr_commands.specs.declared.request.layout.Layout.TheVariants.{StartBlock, EndBlock, StartTable, NewLine, HardNewLine, EmptyLine}
use Rattle.tbr_commands.specs.declared.request.beginning.Beginning.{Beginning}
use Rattle.tbr_commands.specs.declared.request.beginning.Beginning.TheVariants as beginning
use Rattle.tbr_commands.specs.declared.request.kind.Kind.{Kind}
use Rattle.tbr_commands.specs.declared.request.kind.Kind.TheVariants as kind

-- a part of a colour
abbrev pub IsPart : List ℕ → ℕ → Type 0
IsPart digits part = IsByte digits × (part ≡ digits_value 10 digits)

-- a colour by its red, green and blue parts, with a space between two
abbrev pub IsColour : List ℕ → Colour → Type 0
IsColour writing c =
    (red : List ℕ) × (green : List ℕ) × (blue : List ℕ)
    × (writing ≡ red ++ (codes " " ++ (green ++ (codes " " ++ blue))))
    × IsPart red c.r × IsPart green c.g × IsPart blue c.b

-- columns by their number, which may be 0
abbrev pub AreColumns : List ℕ → ℕ → Type 0
AreColumns digits columns = IsNumber digits × (columns ≡ digits_value 10 digits)

-- ---- names

-- how a block or a line is asked for
abbrev pub layout_name : Layout → List ℕ
layout_name StartBlock = codes "block"
layout_name EndBlock = codes "endblock"
layout_name StartTable = codes "table"
layout_name NewLine = codes "line"
layout_name HardNewLine = codes "hardline"
layout_name EmptyLine = codes "empty"

-- a mode's name
abbrev pub mode_name : WhiteSpace → List ℕ
mode_name Normal = codes "normal"
mode_name Pre = codes "pre"
mode_name PreWrap = codes "prewrap"

-- how it is asked to begin something
abbrev pub beginning_name : Beginning → List ℕ
beginning_name (beginning.Mode mode) = codes "ws " ++ mode_name mode
beginning_name beginning.Preformat = codes "pre"
beginning_name beginning.Emphasis = codes "em"
beginning_name beginning.Strong = codes "strong"
beginning_name beginning.Strikeout = codes "strike"
beginning_name beginning.Code = codes "code"
beginning_name beginning.Superscript = codes "super"

-- how it is asked to end what is of a kind
abbrev pub ending_name : Kind → List ℕ
ending_name kind.Mode = codes "endws"
ending_name kind.Preformat = codes "endpre"
ending_name kind.Emphasis = codes "endem"
ending_name kind.Strong = codes "endstrong"
ending_name kind.Strikeout = codes "endstrike"
ending_name kind.Code = codes "endcode"
ending_name kind.Superscript = codes "endsuper"
ending_name kind.Colour = codes "endcolour"
ending_name kind.Background = codes "endbg"

-- ---- requests

-- a name alone
abbrev pub IsAlone : List ℕ → Request → Type 0
IsAlone line (layout what) = line ≡ layout_name what
IsAlone line (begin what) = line ≡ beginning_name what
IsAlone line (end what) = line ≡ ending_name what
IsAlone line (border None) = line ≡ codes "border"
IsAlone line other = ⊥

-- a word, a space, and what follows it
abbrev pub After : List ℕ → List ℕ → (List ℕ → Type 0) → Type 0
After word line IsArgument = (argument : List ℕ) × (line ≡ word ++ (codes " " ++ argument)) × IsArgument argument

-- a word and an argument
abbrev pub HasArgument : List ℕ → Request → Type 0
HasArgument line (text t) = After (codes "text") line (λ argument. IsText argument t)
HasArgument line (fragment name) = After (codes "frag") line (λ argument. IsText argument name)
HasArgument line (image source title) = After (codes "image") line (λ argument. AreSplitTexts argument source title)
HasArgument line (colour ground.text c) = After (codes "colour") line (λ argument. IsColour argument c)
HasArgument line (colour ground.background c) = After (codes "bg") line (λ argument. IsColour argument c)
HasArgument line (border (Some columns)) = After (codes "border") line (λ argument. AreColumns argument columns)
HasArgument line other = ⊥

-- The line is how the request is written: a name alone, or a word and its argument.
abbrev pub IsRequest : List ℕ → Request → Type 0
IsRequest line request = IsAlone line request ⊎ HasArgument line request

-- ---- commands

-- the words after a cell's span, and the alignment that they tell
abbrev pub IsAlignment : List (List ℕ) → CellAlign → Type 0
IsAlignment words Left = (words ≡ []) ⊎ (words ≡ codes "left" ∷ [])
IsAlignment words Right = words ≡ codes "right" ∷ []
IsAlignment words Centre = words ≡ codes "centre" ∷ []

-- a cell by its words: a width, a span, and perhaps an alignment
abbrev pub IsNewCell : List ℕ → ℕ → ℕ → CellAlign → Type 0
IsNewCell writing width span align =
    (digits : List ℕ) × (others : List ℕ) × (words : List (List ℕ)) × (words_of writing ≡ digits ∷ others ∷ words)
    × IsSize digits width × IsSize others span × IsAlignment words align

-- a line that opens or closes a link, a block or a cell, or takes the cells that wait
abbrev pub IsOfLevels : List ℕ → Command → Type 0
IsOfLevels line (ask request) = ⊥
IsOfLevels line (link target) = After (codes "link") line (λ argument. IsText argument target)
IsOfLevels line end_link = line ≡ codes "endlink"
IsOfLevels line (sub width) = After (codes "sub") line (λ argument. IsSize argument width)
IsOfLevels line (append first others) = After (codes "append") line (λ argument. AreSplitTexts argument first others)
IsOfLevels line (cell width span align) = After (codes "cell") line (λ argument. IsNewCell argument width span align)
IsOfLevels line end_cell = line ≡ codes "endcell"
IsOfLevels line (row false) = line ≡ codes "row"
IsOfLevels line (row true) = line ≡ codes "row collapse"
IsOfLevels line vertical_row = line ≡ codes "vrow"

-- The line is how the command is written.
abbrev pub IsWritten : List ℕ → Command → Type 0
IsWritten line (ask request) = IsRequest line request
IsWritten line command = IsOfLevels line command

-- A line that asks for this. A line that isn't UTF-8 asks for nothing.
pub record IsCommand (line : List ℕ) (command : Command) : Type 0 where
  pub utf8 : IsUtf8 line
  pub writes : IsWritten line command
