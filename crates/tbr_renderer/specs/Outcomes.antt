-- What comes of calls one after another.
use Rattle.std.specs.Prelude.{◌≡◌, Result, Err, OnOk, List, [], ◌∷◌, ◌++◌}
use Rattle.tbr_tagged.specs.Outcome.{Outcome, done, refused}
use Rattle.tbr_tagged.specs.declared.Error.{Error}
use Rattle.tbr_tagged.specs.declared.Error.TheVariants as E

-- what comes next begins with what was left, and a refusal stays
abbrev pub and_then : {S T : Type 0} → Outcome S → (S → Outcome T) → Outcome T
and_then (done s) next = next s
and_then (refused e) next = refused e

-- what was left is changed, and a refusal stays
abbrev pub changed : {S T : Type 0} → (S → T) → Outcome S → Outcome T
changed change (done s) = done (change s)
changed change (refused e) = refused e

-- calls one after another, up to the first that is refused
abbrev pub run : {C S : Type 0} → (C → S → Outcome S) → List C → S → Outcome S
run after [] s = done s
run after (call ∷ calls) s = and_then (after call s) (run after calls)

-- what a state tells, where there is one
abbrev pub told_by : {S X : Type 0} → (S → List X) → Outcome S → List X
told_by tell (done s) = tell s
told_by tell (refused e) = []

-- what calls tell, one after another, each of the state that it comes to
abbrev pub told : {C S X : Type 0} → (C → S → List X) → (C → S → Outcome S) → List C → S → List X
told tell after [] s = []
told tell after (call ∷ calls) s = tell call s ++ told_by (told tell after calls) (after call s)

-- What is made of a state that first ends its open line, then asks others for what they give, and then takes that. The
-- first refusal is that of all.
abbrev pub taking : {V X : Type 0} → (V → Outcome V) → Outcome X → (X → V → Outcome V) → V → Outcome V
taking flush given take v = and_then (flush v) (λ _. and_then given (λ x. take x v))

-- what all give, in order, or the first refusal
abbrev pub gathered : {X Y : Type 0} → (X → Outcome Y) → List X → Outcome (List Y)
gathered give [] = done []
gathered give (x ∷ xs) = and_then (give x) (λ y. changed (λ ys. y ∷ ys) (gathered give xs))

-- What a function tries that makes this of a state: it is `Ok` only where it leaves that, and `TooNarrow` only where
-- that is the outcome. Else it is `OutOfMemory`.
pub record Tries {S R : Type 0} (make : S → Outcome S) (old : S) (result : Result R Error) (new : S) : Type 0 where
  pub ok : OnOk result (make old ≡ done new)
  pub too_narrow : result ≡ Err E.TooNarrow → make old ≡ refused E.TooNarrow
