-- What results say, and what functions answer that run commands.
use Rattle.tbr_program.proofs.Common.{◌≡◌, ◌≢◌, List, Result, Ok, Err, IfOk, IfErr, refl, sym, ◌∙◌, subst, Outcome, done, RunError, OutOfMemory, Progress, GoesOn, Runs}
use Rattle.std.specs.Result.{IsErrAnd}
use Rattle.tbr_tagged.specs.declared.Error.{Error}
use Rattle.tbr_tagged.specs.declared.Error.TheVariants as block
use Rattle.tbr_script.specs.Refusal.{refusal_of}
use Rattle.tbr_script.specs.declared.error.RunError.TheVariants.{TooNarrow}

-- what a text is, or a refusal
pub if_ok_then : {X E : Type 0} {P Q : X → Type 0} (r : Result X E) → ((x : X) → P x → Q x) → IfOk r P → IfOk r Q
if_ok_then (Ok x) f h = f x h
if_ok_then (Err e) f h = tt

-- what a result is given as, by an outcome that is the same
pub if_ok_given : {X E V : Type 0} (seen : X → V) (o given : Outcome V) (r : Result X E) → o ≡ given → IfOk r (λ x. o ≡ done (seen x)) → IfOk r (λ x. given ≡ done (seen x))
if_ok_given seen o given (Ok x) same h = sym same ∙ h
if_ok_given seen o given (Err e) same h = tt

pub if_err_then : {X E : Type 0} {P Q : E → Type 0} (r : Result X E) → ((e : E) → P e → Q e) → IfErr r P → IfErr r Q
if_err_then (Ok x) f h = tt
if_err_then (Err e) f h = f e h

-- where a refusal of a block is passed on
pub refused_by : {X : Type 0} (P : RunError → Type 0) (r : Result X RunError) (e : Error) →
    IsErrAnd r (λ x. x ≡ refusal_of e) → (e ≡ block.TooNarrow → P TooNarrow) → IfErr r (λ x. x ≢ OutOfMemory → P x)
refused_by P (Ok x) e is h = tt
refused_by P (Err x) block.TooNarrow is h = λ _. subst P (sym is) (h refl)
refused_by P (Err x) block.OutOfMemory is h = λ other. absurd (other is)

-- ---- functions that run commands

module _ {D A R : Type 0} (make : Progress D A (List A) → Result (Progress D A (List A)) RunError) (old new : Progress D A (List A)) where
  abbrev RunsSo : Result R RunError → Type 0
  RunsSo result = Runs make old result new

  pub runs_done : (x : R) → make old ≡ Ok new → GoesOn new → RunsSo (Ok x)
  runs_done x is live = record { ok = is; goes_on = live; refused = tt; left = tt }

  -- a refusal before anything is done
  pub runs_early : (e : RunError) → new ≡ old → make old ≡ Err e → RunsSo (Err e)
  runs_early e same is = record { ok = tt; goes_on = tt; refused = λ _. is; left = λ _ _. same }

  -- memory is refused
  pub runs_out : (result : Result R RunError) → IsErrAnd result (λ x. x ≡ OutOfMemory) → RunsSo result
  runs_out (Ok x) is = absurd is
  runs_out (Err x) is = record { ok = tt; goes_on = tt; refused = λ other. absurd (other is); left = λ other _. absurd (other is) }

  -- a block refuses
  pub runs_refused : (result : Result R RunError) (e : Error) → IsErrAnd result (λ x. x ≡ refusal_of e) → (e ≡ block.TooNarrow → make old ≡ Err TooNarrow) → RunsSo result
  runs_refused (Ok x) e is h = absurd is
  runs_refused (Err x) block.TooNarrow is h = record { ok = tt; goes_on = tt; refused = λ _. subst (λ y. make old ≡ Err y) (sym is) (h refl); left = λ _ other. absurd (other is) }
  runs_refused (Err x) block.OutOfMemory is h = runs_out (Err x) is

-- what makes the same of a program is run too
pub runs_as : {D A R : Type 0} (make other : Progress D A (List A) → Result (Progress D A (List A)) RunError)
    (old new : Progress D A (List A)) (result : Result R RunError) → make old ≡ other old → Runs make old result new → Runs other old result new
runs_as make other old new (Ok x) same runs = record { ok = sym same ∙ runs.ok; goes_on = runs.goes_on; refused = tt; left = tt }
runs_as make other old new (Err e) same runs = record { ok = tt; goes_on = tt; refused = λ some. sym same ∙ runs.refused some; left = runs.left }
