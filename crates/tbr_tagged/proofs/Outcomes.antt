-- What calls answer, by their outcomes.
use Rattle.tbr_tagged.proofs.Common.{◌≡◌, Option, Some, Result, refl, ap, sym, ◌∙◌, arith}
use Rattle.std.proofs.Common.{None, Ok, Err}
use Rattle.tbr_tagged.specs.declared.error.Error.{Error}
use Rattle.tbr_tagged.specs.declared.error.Error.TheVariants as E
use Rattle.tbr_tagged.specs.Outcome.{Outcome, done, refused, if_live, Answers}

-- what is done was live
pub live_done : {S : Type 0} (failure : Option Error) (outcome : Outcome S) (t : S) → if_live failure outcome ≡ done t → (failure ≡ None) × (outcome ≡ done t)
live_done None outcome t e = (refl, e)
live_done (Some x) outcome t e = cc

pub live_goes : {S : Type 0} (failure : Option Error) (outcome : Outcome S) → failure ≡ None → if_live failure outcome ≡ outcome
live_goes failure outcome live = ap (λ f. if_live f outcome) live

-- a live one is refused by its outcome alone
pub live_refused : {S : Type 0} (failure : Option Error) (outcome : Outcome S) (e : Error) → failure ≡ None → if_live failure outcome ≡ refused e → outcome ≡ refused e
live_refused failure outcome e live is = sym (live_goes failure outcome live) ∙ is

module _ {S K R : Type 0} (failure : S → Option Error) (settings : S → K) (outcome : Outcome S) (old : S) where
  pub answers_ok : (x : R) (new : S) → failure old ≡ None → outcome ≡ done new → settings new ≡ settings old → Answers failure settings (if_live (failure old) outcome) old (Ok x) new
  answers_ok x new live is stay = grind (arith, live_goes)

  pub answers_err : (e : Error) (result : Result R Error) (new : S) → result ≡ Err e → failure old ≡ None →
      (e ≡ E.TooNarrow → outcome ≡ refused E.TooNarrow) → failure new ≡ Some e → settings new ≡ settings old →
      Answers failure settings (if_live (failure old) outcome) old result new
  answers_err e result new is live narrow left stay = grind (arith, live_goes)
