-- The prefixes that `append` gives.
use Rattle.std.specs.Prelude.{ℕ, List, chars}
use Rattle.tbr_renderer.specs.Appended.{alike}

-- those of so many lines, by their characters: one text, and then another
abbrev pub prefixes : List ℕ → List ℕ → ℕ → List (List ℕ)
prefixes first other lines = alike (chars first) (chars other) lines
