-- What a contract sees of a stream, and what a whole text that is written leaves.
use Rattle.std.specs.Prelude.{◌≡◌, ℕ, Bool, Option, Result, List, ◌++◌, MatchResult}
use Rattle.std.specs.Io.KnownBytes.{Appends}

-- A reader or a writer of std, and whether it has failed.
pub record Stream (S : Type 0) : Type 0 where
  pub inner : S
  pub failed : Bool

-- a beginning of the bytes was written
abbrev pub AppendsBeginning : Option (List ℕ) → Option (List ℕ) → List ℕ → Type 0
AppendsBeginning old new bytes = (done : List ℕ) × (rest : List ℕ) × (done ++ rest ≡ bytes) × Appends old new done

-- all of the bytes were written, or the writer failed, and a beginning of them was
abbrev pub WritesAll : {T E : Type 0} → Option (List ℕ) → Option (List ℕ) → Result T E → List ℕ → Type 0
WritesAll old new r bytes = MatchResult r (λ _. Appends old new bytes) (λ _. AppendsBeginning old new bytes)
