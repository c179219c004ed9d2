-- The calls that may change a decorator.
use Rattle.std.specs.Prelude.{ℕ, List}
use Rattle.tbr_decor.specs.declared.colour.Colour.{Colour}
use Rattle.tbr_decor.specs.Ground.{Ground}

-- A call that may change a decorator, by what it is given. Targets, sources and titles are characters.
pub data Change : Type 0 where
  link_start : List ℕ → Change
  link_end : Change
  image : List ℕ → List ℕ → Change
  push_colour : Ground → Colour → Change
  pop_colour : Ground → Change
  finalise : List (List ℕ) → Change
