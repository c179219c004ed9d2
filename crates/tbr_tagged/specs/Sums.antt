-- Sums that may pass `usize`.
use Rattle.std.specs.Prelude.{◌≡◌, ℕ, ◌<◌, ◌-◌, ◌^◌, Result, MatchResult}

-- the sum is the answer, or it is refused exactly where it passes `usize`
abbrev pub GivesSum : {E : Type 0} → Result ℕ E → ℕ → Type 0
GivesSum result sum = MatchResult result (λ n. n ≡ sum) (λ _. 2 ^ 64 - 1 < sum)
