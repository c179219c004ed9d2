-- Numbers that commands take.
use Rattle.std.specs.Prelude.{ℕ, ◌&&◌, nat_le, Bool, false, Option, None, Some, List}
use Rattle.tbr_script.specs.Read.{number_read}
use Rattle.tbr_statements.specs.declared.number.Number.{Number}

-- whether a number is within limits, if it is one
abbrev pub is_within : ℕ → ℕ → Option ℕ → Bool
is_within least greatest None = false
is_within least greatest (Some n) = nat_le least n && nat_le n greatest

-- whether these are digits of such a number
abbrev pub takes : Number → List ℕ → Bool
takes number digits = is_within number.least number.greatest (number_read digits)
