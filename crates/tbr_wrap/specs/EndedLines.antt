-- What the fields of ended lines say of them.
use Rattle.std.specs.Prelude.{◌≡◌, ℕ, false, List, [], ◌∷◌, ◌++◌, map, flat_map, length, take, drop}
use Rattle.tbr_model.specs.Codes.{newline_character}
use Rattle.tbr_model.specs.Run.{Item, has_character}
use Rattle.tbr_model.specs.Layout.{joined}
use Rattle.tbr_tagged.specs.Walks.{item_characters}

-- the parts of a list that have these lengths, one after the other
abbrev pub cut : {X : Type 0} → List ℕ → List X → List (List X)
cut [] xs = []
cut (n ∷ ns) xs = take n xs ∷ cut ns (drop n xs)

-- The first placed items are those of the lines, which have these lengths, and after them is no character.
pub record AreLines {A : Type 0} (lens : List ℕ) (placed : List (Item A)) (lines : List (List (Item A))) : Type 0 where
  pub after : List (Item A)
  pub placed_is : placed ≡ joined lines ++ after
  pub lens_is : lens ≡ map length lines
  pub blank : has_character after ≡ false

-- a line's characters and a newline
abbrev pub line_characters : {A : Type 0} → List (Item A) → List ℕ
line_characters is = item_characters is ++ newline_character ∷ []

abbrev pub lines_characters : {A : Type 0} → List (List (Item A)) → List ℕ
lines_characters lines = flat_map line_characters lines

-- the same after prefixes: the first line after its own, and each other one after that of the others
abbrev pub prefixed_characters : {A : Type 0} → List ℕ → List ℕ → List (List (Item A)) → List ℕ
prefixed_characters first others [] = []
prefixed_characters first others (is ∷ lines) = first ++ line_characters is ++ prefixed_characters others others lines
