-- What the outcome of calls one after another is made of.
use Rattle.tbr_renderer.proofs.Common.{◌≡◌, Option, None, Some, Result, Ok, Err, Bool, true, false, if◌then◌else◌, List, [], ◌∷◌, ◌++◌, refl, ap, sym, ◌∙◌, subst, arith, IfErr, Outcome}
use Rattle.tbr_renderer.proofs.Common.{done, refused, if_live, Error, and_then, changed, taking, gathered}
use Rattle.std.proofs.Common.{◌⊎◌, inl, inr}
use Rattle.std.specs.Result.{IsErrAnd}
use Rattle.tbr_tagged.specs.declared.Error.TheVariants as E
use Rattle.tbr_renderer.specs.Outcomes.{run, Tries}

pub one_done : {S : Type 0} (s t : S) → done s ≡ done t → t ≡ s
one_done s t e = cc

-- ---- one after another

pub done_first : {S T : Type 0} (o : Outcome S) (next : S → Outcome T) (t : T) → and_then o next ≡ done t → (s : S) × (o ≡ done s) × (next s ≡ done t)
done_first (done s) next t e = (s, refl, e)
done_first (refused d) next t e = absurd (let no : ⊥ = cc in no)

pub done_before : {S T : Type 0} (change : S → T) (o : Outcome S) (t : T) → changed change o ≡ done t → (s : S) × (o ≡ done s) × (t ≡ change s)
done_before change (done s) t e = (s, refl, one_done (change s) t e)
done_before change (refused d) t e = absurd (let no : ⊥ = cc in no)

-- a call is done, and then others are
pub run_on : {C S : Type 0} (after : C → S → Outcome S) (call : C) (calls : List C) (s m : S) (o : Outcome S) → after call s ≡ done m → run after calls m ≡ o → run after (call ∷ calls) s ≡ o
run_on after call calls s m o h k = ap (λ first. and_then first (run after calls)) h ∙ k

-- and a last one
pub run_last : {C S : Type 0} (after : C → S → Outcome S) (call : C) (s t : S) → after call s ≡ done t → run after (call ∷ []) s ≡ done t
run_last after call s t h = ap (λ first. and_then first (λ x. done x)) h

pub refused_before : {S T : Type 0} (change : S → T) (o : Outcome S) (e : Error) → changed change o ≡ refused e → o ≡ refused e
refused_before change (done s) e h = absurd (let no : ⊥ = cc in no)
refused_before change (refused d) e h = let same : d ≡ e = cc in ap (λ x. refused x) same

pub refused_first : {S T : Type 0} (o : Outcome S) (next : S → Outcome T) (e : Error) → and_then o next ≡ refused e → (o ≡ refused e) ⊎ ((s : S) × (o ≡ done s) × (next s ≡ refused e))
refused_first (done s) next e h = inr (s, refl, h)
refused_first (refused d) next e h = inl (let same : d ≡ e = cc in ap (λ x. refused x) same)

-- ---- what fits, or is too narrow

pub if_fits : {S : Type 0} (fits : Bool) (s t : S) → (if fits then done s else refused E.TooNarrow) ≡ done t → (fits ≡ true) × (t ≡ s)
if_fits true s t e = (refl, one_done s t e)
if_fits false s t e = absurd (let no : ⊥ = cc in no)

pub refused_if_not : {S : Type 0} (fits : Bool) (s : S) → (if fits then done s else refused E.TooNarrow) ≡ refused E.TooNarrow → fits ≡ false
refused_if_not true s e = absurd (let no : ⊥ = cc in no)
refused_if_not false s e = refl

pub fitting : {S : Type 0} (fits : Bool) (s : S) → fits ≡ true → (if fits then done s else refused E.TooNarrow) ≡ done s
fitting fits s e = ap (λ b. if b then done s else refused E.TooNarrow) e

pub not_fitting : {S : Type 0} (fits : Bool) (s : S) → fits ≡ false → (if fits then done s else refused E.TooNarrow) ≡ refused E.TooNarrow
not_fitting fits s e = ap (λ b. if b then done s else refused E.TooNarrow) e

-- ---- what is tried

-- a refusal that is passed on is the one that came
pub passed_on : {X Y : Type 0} {result : Result X Error} {inner : Result Y Error} {e f : Error} →
    result ≡ Err f → IsErrAnd result (λ x. x ≡ e) → inner ≡ Err e → inner ≡ Err f
passed_on {X = X} {e = e} is same came = came ∙ ap Err (sym (subst (λ (r : Result X Error). IsErrAnd r (λ x. x ≡ e)) is same))

-- where memory alone is refused nothing is too narrow
pub never_narrow : {X : Type 0} {result : Result X Error} → IfErr result (λ e. e ≡ E.OutOfMemory) → result ≡ Err E.TooNarrow → ⊥
never_narrow {result = Ok x} memory is = cc
never_narrow {result = Err e} memory is = let same : e ≡ E.OutOfMemory = memory in cc

module _ {S R : Type 0} (make : S → Outcome S) (old new : S) where
  pub tries_ok : (x : R) → make old ≡ done new → Tries make old (Ok x) new
  tries_ok x is = record { ok = is; too_narrow = λ e. absurd (let no : ⊥ = cc in no) }

  pub tries_err : (result : Result R Error) (e : Error) → IsErrAnd result (λ x. x ≡ e) → (e ≡ E.TooNarrow → make old ≡ refused E.TooNarrow) → Tries make old result new
  tries_err (Ok x) e is narrow = absurd is
  tries_err (Err x) e is narrow = record { ok = tt; too_narrow = λ same. narrow (let one : x ≡ e = is in cc) }

-- ---- what all give

module _ {X Y : Type 0} (give : X → Outcome Y) where
  pub gathered_last : (xs : List X) (ys : List Y) (x : X) (y : Y) → gathered give xs ≡ done ys → give x ≡ done y → gathered give (xs ++ x ∷ []) ≡ done (ys ++ y ∷ [])
  gathered_last [] ys x y e h = ap (λ o. and_then o (λ z. done (z ∷ []))) h ∙ ap (λ zs. done (zs ++ y ∷ [])) (sym (one_done [] ys e))
  gathered_last (z ∷ xs) ys x y e h =
      let (first, gives, rest) = done_first (give z) (λ w. changed (λ ws. w ∷ ws) (gathered give xs)) ys e in
      let (others, give_others, is) = done_before (λ ws. first ∷ ws) (gathered give xs) ys rest in
      rw (gives, gathered_last xs others x y give_others h) (ap (λ zs. done (zs ++ y ∷ [])) (sym is))

  pub gathered_stops : (xs : List X) (ys : List Y) (x : X) (more : List X) (e : Error) → gathered give xs ≡ done ys → give x ≡ refused e → gathered give (xs ++ x ∷ more) ≡ refused e
  gathered_stops [] ys x more e h r = ap (λ o. and_then o (λ w. changed (λ ws. w ∷ ws) (gathered give more))) r
  gathered_stops (z ∷ xs) ys x more e h r =
      let (first, gives, rest) = done_first (give z) (λ w. changed (λ ws. w ∷ ws) (gathered give xs)) ys h in
      let (others, give_others, is) = done_before (λ ws. first ∷ ws) (gathered give xs) ys rest in
      rw (gives, gathered_stops xs others x more e give_others r) refl

-- ---- what takes what others give

in_order : {S T U : Type 0} (o : Outcome S) (f : S → Outcome T) (g : T → Outcome U) →
    and_then (and_then o f) g ≡ and_then o (λ s. and_then (f s) g)
in_order (done s) f g = refl
in_order (refused e) f g = refl

module _ {V X : Type 0} (flush : V → Outcome V) (given : Outcome X) (take : X → V → Outcome V) (v : V) where
  pub taking_done : (m : V) (x : X) → flush v ≡ done m → given ≡ done x → taking flush given take v ≡ take x v
  taking_done m x h k = rw (h, k) refl

  -- one that hasn't failed does so as if it couldn't
  pub taking_live : (failure : V → Option Error) → failure v ≡ None →
      taking (λ w. if_live (failure w) (flush w)) given (λ x w. if_live (failure w) (take x w)) v
      ≡ taking flush given take v
  taking_live failure live = go (failure v) live
    where
      go : (o : Option Error) → o ≡ None →
          and_then (if_live o (flush v)) (λ _. and_then given (λ x. if_live o (take x v)))
          ≡ taking flush given take v
      go None is = refl
      go (Some e) is = absurd (let no : ⊥ = cc in no)

  pub taking_none : (e : Error) → and_then (flush v) (λ _. given) ≡ refused e → taking flush given take v ≡ refused e
  taking_none e h = sym (in_order (flush v) (λ _. given) (λ x. take x v)) ∙ ap (λ o. and_then o (λ x. take x v)) h

  pub taken : (s : V) → taking flush given take v ≡ done s → (m : V) × (x : X) × (flush v ≡ done m) × (given ≡ done x) × (take x v ≡ done s)
  taken s h = grind (arith, done_first)
