-- The columns of terminals that give East Asian ambiguous characters two.
use Rattle.std.specs.Prelude.{◌≡◌, ℕ, ◌≤◌, ◌==◌, Bool, true, false, if◌then◌else◌, Option, Some, None, IfSome, IsTrue, min}
use Rattle.std.specs.Option.{option_map}
use Rattle.std.proofs.Common.{arith}
use Rattle.unicode_width.specs.Width.{char_width}
use Rattle.tbr_model.specs.Width.{takes_one_column, stroke}

-- those of `unicode_width` in an East Asian context, but for the characters whose columns are fixed, and never more
-- than two
abbrev pub ambiguous_wide : ℕ → Option ℕ
ambiguous_wide c =
    if takes_one_column c then Some 1
    else if c == stroke then Some 0
    else option_map (λ n. min n 2) (char_width true c)

pub ambiguous_wide_at_most_two : (c : ℕ) → IfSome (ambiguous_wide c) (λ n. n ≤ 2)
ambiguous_wide_at_most_two c = go (takes_one_column c) (c == stroke) (char_width true c)
  where
    go : (p q : Bool) (o : Option ℕ) →
        IfSome (if p then Some 1 else if q then Some 0 else option_map (λ n. min n 2) o) (λ n. n ≤ 2)
    go true q o = omega arith
    go false true o = omega arith
    go false false None = tt
    go false false (Some n) = omega arith

pub ambiguous_wide_drawn : (c : ℕ) → IsTrue (takes_one_column c) → ambiguous_wide c ≡ Some 1
ambiguous_wide_drawn c h = rw h
