-- What a call ensures once its refusal is kept.
use Rattle.tbr_renderer.proofs.Common.{◌≡◌, ℕ, Option, None, Some, Result, Ok, Err, List, ◌∙◌, sym, subst, arith, OnOk, IfErr, on_ok_weaker, Error, Outcome, done, refused, live_goes}
use Rattle.tbr_renderer.proofs.Common.{Decoration, after_flush, Renderer, KeepsSettings, block_width, and_then, taking}
use Rattle.std.proofs.Common.{◌≢◌, ◌≤◌}
use Rattle.std.specs.Prelude.{OnErr}
use Rattle.tbr_tagged.specs.declared.Error.TheVariants as E
use Rattle.tbr_renderer.specs.Renderer.{kept_of}
use Rattle.tbr_renderer.specs.Calls.{calls_by, Takes, Fails}
use Rattle.tbr_renderer.proofs.OutcomeParts.{taking_none, taking_live}

pub on_err : {X E P : Type 0} (r : Result X E) → P → OnErr r P
on_err (Ok x) p = tt
on_err (Err e) p = p

pub kept_ok : {X E S : Type 0} (P : S → Type 0) {r tried : Result X E} (old new : S) → r ≡ tried → OnOk r (new ≡ old) → OnOk tried (P old) → OnOk r (P new)
kept_ok P {r = Ok x} {tried = Ok y} old new e h k = subst P (sym h) k
kept_ok P {r = Ok x} {tried = Err y} old new e h k = cc
kept_ok P {r = Err x} old new e h k = tt

module _ {D A R : Type 0} (columns : ℕ → Option ℕ) (decoration : Decoration D A) where
  -- what a live renderer that refuses leaves, once the refusal is kept
  pub kept_fails : {old new : Renderer D A (List A)} (mid : Renderer D A (List A)) {result tried : Result R Error} → old.failure ≡ None → result ≡ tried →
      IfErr result (λ e. (new.failure ≡ Some e) × (kept_of new ≡ kept_of mid)) → OnErr tried (kept_of mid ≡ kept_of old) →
      Fails (calls_by columns decoration) old result new
  kept_fails mid {result = Ok x} live same failed stay = record { refusal = (tt, λ e was. absurd (let n : None ≡ Some e = sym live ∙ was in cc)); kept = tt }
  kept_fails {old = old} mid {result = Err x} live same failed stay = record {
    refusal = (failed.0, λ e was. absurd (let n : None ≡ Some e = sym live ∙ was in cc));
    kept = failed.1 ∙ subst (λ r. OnErr r (kept_of mid ≡ kept_of old)) (sym same) stay;
  }

  module _ {old new : Renderer D A (List A)} (mid : Renderer D A (List A)) {result tried : Result R Error} (live : old.failure ≡ None) (same : result ≡ tried)
      (is : OnOk result (new ≡ mid)) (failed : IfErr result (λ e. (new.failure ≡ Some e) × (kept_of new ≡ kept_of mid))) where
    -- and so where it takes what others give
    pub settled_takes : {X : Type 0} (given : Outcome X) {wide : Type 0}
        (take : X → Renderer D A (List A) → Outcome (Renderer D A (List A))) →
        OnOk tried (taking (after_flush columns) given take old ≡ done mid) →
        (tried ≡ Err E.TooNarrow → and_then (after_flush columns old) (λ _. given) ≡ refused E.TooNarrow) →
        (2 ≤ block_width old → wide → tried ≢ Err E.TooNarrow) → KeepsSettings old mid →
        Takes (calls_by columns decoration) given wide take old result new
    settled_takes {X} given {wide} take ok narrow two settings = grind (arith, live_goes, kept_ok, on_ok_weaker, taking_none, taking_live, kept_fails, on_err)
