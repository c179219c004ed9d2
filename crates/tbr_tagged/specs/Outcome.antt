-- What a call makes of a state, and what it answers.
use Rattle.std.specs.Prelude.{◌≡◌, Option, None, Some, Result, Err, OnOk, IfErr}
use Rattle.tbr_tagged.specs.declared.error.Error.{Error}
use Rattle.tbr_tagged.specs.declared.error.Error.TheVariants as E

-- Another state, or a refusal.
pub data Outcome (S : Type 0) : Type 0 where
  done : S → Outcome S
  refused : Error → Outcome S

-- a state that has refused gives its refusal again
abbrev pub if_live : {S : Type 0} → Option Error → Outcome S → Outcome S
if_live None outcome = outcome
if_live (Some e) outcome = refused e

-- What a call answers and leaves, where its outcome on a state is this. It is `Ok` only where it leaves what the
-- outcome is, and `TooNarrow` only where the outcome is that. Else it is `OutOfMemory`. A call that refuses leaves a
-- state that has failed with what it answers. A state that had failed answers its refusal, and stays as it is. The
-- settings stay.
pub record Answers {S K R : Type 0} (failure : S → Option Error) (settings : S → K) (outcome : Outcome S)
    (old : S) (result : Result R Error) (new : S) : Type 0 where
  pub ok : OnOk result (outcome ≡ done new)
  pub too_narrow : result ≡ Err E.TooNarrow → outcome ≡ refused E.TooNarrow
  pub left : IfErr result (λ e. failure new ≡ Some e)
  pub settings_stay : settings new ≡ settings old
  pub kept : (e : Error) → failure old ≡ Some e → (result ≡ Err e) × (new ≡ old)
