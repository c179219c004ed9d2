-- What a decorator opens.
use Rattle.std.specs.Prelude.{ℕ, List}

-- A link by its target, an image by its source and its title, each as characters.
pub data Start : Type 0 where
  link : List ℕ → Start
  emphasis : Start
  strong : Start
  strikeout : Start
  code : Start
  superscript : Start
  image : List ℕ → List ℕ → Start
