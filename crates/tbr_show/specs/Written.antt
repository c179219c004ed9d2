-- What all formats write alike.
use Rattle.std.specs.Prelude.{ℕ, not, List, ◌++◌, filter}
use Rattle.std.specs.Char.{is_control}
use Rattle.std.specs.Fmt.{decimal}
use Rattle.tbr_decor.specs.declared.colour.Colour.{Colour}

-- the characters of a text that are no control characters
abbrev pub printable : List ℕ → List ℕ
printable = filter (λ c. not (is_control c))

-- the parts of a colour, with a separator between two
abbrev pub colour_parts : List ℕ → Colour → List ℕ
colour_parts separator c = decimal c.r ++ separator ++ decimal c.g ++ separator ++ decimal c.b
