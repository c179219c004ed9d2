-- What the trivial decorator answers.
use Rattle.std.specs.Prelude.{ℕ, List, []}
use Rattle.tbr_decor.specs.Start as start
use Rattle.tbr_decor.specs.End as end
use Rattle.tbr_decor.specs.Usual as usual

-- the text of what is opened, which only a superscript and an image have
abbrev pub start_text : start.Start → List ℕ
start_text (start.link target) = []
start_text start.emphasis = []
start_text start.strong = []
start_text start.strikeout = []
start_text start.code = []
start_text start.superscript = usual.superscript_start
start_text (start.image source title) = title

-- the text of what is closed, which only a superscript has
abbrev pub end_text : end.End → List ℕ
end_text end.link = []
end_text end.emphasis = []
end_text end.strong = []
end_text end.strikeout = []
end_text end.code = []
end_text end.superscript = usual.superscript_end
