-- The call that a line names.
use Rattle.std.specs.Prelude.{◌≡◌, ◌⊎◌, ℕ, List, ◌++◌, chars, codes}
use Rattle.tbr_decor.specs.Start as start
use Rattle.tbr_decor.specs.End as end
use Rattle.tbr_decor.specs.Ground as ground
use Rattle.tbr_script.specs.Script.{IsText, AreSplitTexts}
use Rattle.tbr_commands.specs.Syntax.{After, IsColour, AreColumns, mode_name}
use Rattle.text_block_renderer.specs.Calls.{Call, add_empty_line, new_line, new_line_hard, start_block, start_table, end_block, add_inline_text, push_ws, pop_ws, push_preformat}
use Rattle.text_block_renderer.specs.Calls.{pop_preformat, record_frag_start, begin, finish, start_strikeout, end_strikeout, add_image, push_colour, pop_colour, add_border}

-- a word, a space, and a text of these characters
abbrev pub AfterText : List ℕ → List ℕ → List ℕ → Type 0
AfterText word line cs = After word line (λ argument. (text : List ℕ) × IsText argument text × (cs ≡ chars text))

-- and two texts
abbrev pub AfterTexts : List ℕ → List ℕ → List ℕ → List ℕ → Type 0
AfterTexts word line cs ds = After word line (λ argument. (one other : List ℕ) × AreSplitTexts argument one other
    × (cs ≡ chars one) × (ds ≡ chars other))

-- The line names this call of a renderer of this width. Texts have escapes, and so has a marker's name, by its bytes.
abbrev pub NamesCall : {T : Type 0} → ℕ → List ℕ → Call T → Type 0
NamesCall width line start_block = line ≡ codes "block"
NamesCall width line end_block = line ≡ codes "endblock"
NamesCall width line start_table = line ≡ codes "table"
NamesCall width line new_line = line ≡ codes "line"
NamesCall width line new_line_hard = line ≡ codes "hardline"
NamesCall width line add_empty_line = line ≡ codes "empty"
NamesCall width line (add_inline_text cs) = AfterText (codes "text") line cs
NamesCall width line (push_ws mode) = line ≡ codes "ws " ++ mode_name mode
NamesCall width line pop_ws = line ≡ codes "endws"
NamesCall width line push_preformat = line ≡ codes "pre"
NamesCall width line pop_preformat = line ≡ codes "endpre"
NamesCall width line (begin start.emphasis) = line ≡ codes "em"
NamesCall width line (finish end.emphasis) = line ≡ codes "endem"
NamesCall width line (begin start.strong) = line ≡ codes "strong"
NamesCall width line (finish end.strong) = line ≡ codes "endstrong"
NamesCall width line start_strikeout = line ≡ codes "strike"
NamesCall width line end_strikeout = line ≡ codes "endstrike"
NamesCall width line (begin start.code) = line ≡ codes "code"
NamesCall width line (finish end.code) = line ≡ codes "endcode"
NamesCall width line (begin start.superscript) = line ≡ codes "super"
NamesCall width line (finish end.superscript) = line ≡ codes "endsuper"
NamesCall width line (push_colour ground.text c) = After (codes "colour") line (λ argument. IsColour argument c)
NamesCall width line (pop_colour ground.text) = line ≡ codes "endcolour"
NamesCall width line (push_colour ground.background c) = After (codes "bg") line (λ argument. IsColour argument c)
NamesCall width line (pop_colour ground.background) = line ≡ codes "endbg"
NamesCall width line (record_frag_start name) = After (codes "frag") line (λ argument. IsText argument name)
NamesCall width line (add_image source title) = AfterTexts (codes "image") line source title
NamesCall width line (add_border columns) =
    ((line ≡ codes "border") × (columns ≡ width))
    ⊎ After (codes "border") line (λ argument. AreColumns argument columns)
NamesCall width line other = ⊥
