use Rattle.tbr_model.proofs.Common.{◌≡◌, ℕ, List, Option, Some, None, MatchOption, ap, ◌∙◌, subst, Slot, slots_of, IsBest, HasLegalLayout, IsBestLayout, lines_between, entry_values, slot_values}
use Rattle.std.proofs.Common.{Result, Ok, Err, IfOk, IfSome}
use Rattle.tbr_model.proofs.layouts.Cuts.{best_alike}
use Rattle.tbr_model.proofs.best.best_layout.Goals as goal

abbrev IsFound : {A X E : Type 0} → (X → List ℕ) → ℕ → Result (Option X) E → List (Slot A) → Type 0
IsFound items width r slots = IfOk r (λ found. MatchOption found (¬ HasLegalLayout width slots) (λ cuts. IsBestLayout width slots (items cuts)))

lines_found : {A X E : Type 0} (items : X → List ℕ) (width : ℕ) (slots : List (Slot A)) (r : Result (Option X) E) → IsFound items width r slots →
    IfOk r (λ found. IfSome found (λ cuts. IsBest width slots (lines_between slots (items cuts))))
lines_found items width slots (Ok None) h = tt
lines_found items width slots (Ok (Some cuts)) h = ((best_alike width slots (items cuts)).0 h).1
lines_found items width slots (Err e) h = tt

pub returns-clause-cuts : goal.returns-clause-cuts
returns-clause-cuts g c =
    let is : slot_values c.deref.result.now ≡ slots_of g.W.CharWidth.columns c.args.width (entry_values c.args.run.now) = ap slot_values c.deref.ensures.value ∙ c.in_ok-slots.ensures in
    subst (IsFound (λ cuts. cuts.items) c.args.width c.best_cuts.result) is c.best_cuts.ensures

pub returns-clause-lines : goal.returns-clause-lines
returns-clause-lines g c = lines_found (λ cuts. cuts.items) c.args.width (slots_of g.W.CharWidth.columns c.args.width (entry_values c.args.run.now)) c.best_cuts.result (returns-clause-cuts g c)
