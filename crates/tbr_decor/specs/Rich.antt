-- What the rich decorator answers. Its texts are those of the trivial one, and its prefixes those of the plain one.
use Rattle.tbr_decor.specs.declared.colour.Colour.{Colour}
use Rattle.tbr_decor.specs.Start as start
use Rattle.tbr_decor.specs.Ground as ground
use Rattle.tbr_decor.specs.Style as style
use Rattle.tbr_decor.specs.Style.{Style}

-- what the annotation of what is opened means
abbrev pub annotation : start.Start → Style
annotation (start.link target) = style.link target
annotation start.emphasis = style.emphasis
annotation start.strong = style.strong
annotation start.strikeout = style.strikeout
annotation start.code = style.code
annotation start.superscript = style.plain
annotation (start.image source title) = style.image source

-- what the annotation of a colour means
abbrev pub coloured : ground.Ground → Colour → Style
coloured ground.text c = style.colour c
coloured ground.background c = style.background c
