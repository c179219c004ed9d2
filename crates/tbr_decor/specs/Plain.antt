-- What the plain decorator answers.
use Rattle.std.specs.Prelude.{ℕ, List, [], ◌++◌, codes, replicate}
use Rattle.std.specs.Fmt.{signed_decimal}
use Rattle.tbr_decor.specs.Start as start
use Rattle.tbr_decor.specs.End as end
use Rattle.tbr_decor.specs.Prefix as prefix
use Rattle.tbr_decor.specs.Usual as usual

-- the text of what is opened
abbrev pub start_text : start.Start → List ℕ
start_text (start.link target) = codes "["
start_text start.emphasis = []
start_text start.strong = []
start_text start.strikeout = []
start_text start.code = []
start_text start.superscript = usual.superscript_start
start_text (start.image source title) = codes "[" ++ title ++ codes "]"

-- the text of what is closed
abbrev pub end_text : end.End → List ℕ
end_text end.link = codes "]"
end_text end.emphasis = []
end_text end.strong = []
end_text end.strikeout = []
end_text end.code = []
end_text end.superscript = usual.superscript_end

-- `level` times `#`, and a space
abbrev pub header_text : ℕ → List ℕ
header_text level = replicate level number_sign ++ codes " "
  where
    number_sign : ℕ
    number_sign = 35

-- the prefix of a header, a quoted block or an item
abbrev pub prefix_text : prefix.Prefix → List ℕ
prefix_text (prefix.header level) = header_text level
prefix_text prefix.quote = codes "> "
prefix_text prefix.unordered_item = codes "* "
prefix_text (prefix.ordered_item i) = signed_decimal i ++ codes ". "
