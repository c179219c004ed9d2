-- What a rich annotation means.
use Rattle.std.specs.Prelude.{ℕ, ◌==◌, nat_eq, Bool, true, false, ◌&&◌, List, chars, string_bytes}
use Rattle.std.specs.Cmp.Lexicographic.{pointwise}
use Rattle.std.proofs.Math.Bool.{beq}
use Rattle.tbr_decor.specs.declared.colour.Colour.{Colour}
use Rattle.tbr_decor.specs.declared.annotation.RichAnnotation.{RichAnnotation}
use Rattle.tbr_decor.specs.declared.annotation.RichAnnotation.TheVariants as rich

-- A link by its target and an image by its source, as characters; preformatted text by whether its line continues
-- another.
pub data Style : Type 0 where
  plain : Style
  link : List ℕ → Style
  image : List ℕ → Style
  emphasis : Style
  strong : Style
  strikeout : Style
  code : Style
  preformatted : Bool → Style
  colour : Colour → Style
  background : Colour → Style

-- what a rich annotation means
abbrev pub style_of : RichAnnotation → Style
style_of rich.Default = plain
style_of (rich.Link target) = link (chars (string_bytes target))
style_of (rich.Image source) = image (chars (string_bytes source))
style_of rich.Emphasis = emphasis
style_of rich.Strong = strong
style_of rich.Strikeout = strikeout
style_of rich.Code = code
style_of (rich.Preformat continued) = preformatted continued
style_of (rich.Colour c) = colour c
style_of (rich.BgColour c) = background c

-- whether two colours are the same
abbrev pub one_colour : Colour → Colour → Bool
one_colour c d = c.r == d.r && (c.g == d.g && c.b == d.b)

-- whether two rich annotations mean the same
abbrev pub same_style : Style → Style → Bool
same_style plain plain = true
same_style (link target) (link other) = pointwise nat_eq target other
same_style (image source) (image other) = pointwise nat_eq source other
same_style emphasis emphasis = true
same_style strong strong = true
same_style strikeout strikeout = true
same_style code code = true
same_style (preformatted continued) (preformatted other) = beq continued other
same_style (colour c) (colour d) = one_colour c d
same_style (background c) (background d) = one_colour c d
same_style style other = false
