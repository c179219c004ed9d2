-- Cases of a test.
use Rattle.std.proofs.Common.{Bool, true, false}

pub by_bool : (P : Bool → Type 0) → P true → P false → (b : Bool) → P b
by_bool P t f true = t
by_bool P t f false = f
