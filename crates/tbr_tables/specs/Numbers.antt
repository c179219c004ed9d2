-- Sums of the code, and stacks.
use Rattle.std.specs.Prelude.{ℕ, ◌-◌, ◌^◌, min, List, [], ◌∷◌}

-- a sum, or the greatest `usize` if it passes that
abbrev pub held : ℕ → ℕ
held n = min n (2 ^ 64 - 1)

-- the next of a stack, or what is here if there is none
abbrev pub next_of : {X : Type 0} → X → List X → X
next_of here [] = here
next_of here (x ∷ xs) = x

-- any number of columns
abbrev pub any_width : ℕ
any_width = 2 ^ 64 - 1
