-- The top of a stack.
use Rattle.std.proofs.Common.{◌≡◌, ℕ, List, [], ◌∷◌, ◌++◌, Some, map, Option, None, true, false, Result, Ok, Err, sym, subst, refl, ap, ◌∙◌}
use Rattle.std.specs.Prelude.{OnOk, OnErr, is_ok}
use Rattle.std.proofs.lemmas.Result.{on_ok_weaker}
use Rattle.tbr_tagged.specs.Outcome.{Outcome, done, refused}
use Rattle.tbr_tagged.specs.declared.Error.TheVariants.{TooNarrow}
use Rattle.tbr_renderer.proofs.OutcomeParts.{done_before}
use Rattle.tbr_tagged.specs.declared.Error.{Error}
use Rattle.tbr_renderer.specs.Outcomes.{changed, Tries}
use Rattle.tbr_renderer.specs.Renderer.{Renderer}
use Rattle.tbr_stack.specs.Stack.{Level, Stack, first_renderer, top_of, in_first, with_top}
use Rattle.tbr_stack.specs.Top.{failure_of_first, failure_of, in_top_of, in_top, ChangesTop}
use Rattle.tbr_stack.specs.Links.{opened, with_link}

-- ---- the top

failure_first : {D A T : Type 0} (levels : List (Level (Renderer D A T))) (r : Renderer D A T) → first_renderer levels ≡ Some r → failure_of_first levels ≡ r.failure
failure_first [] r h = cc
failure_first (level ∷ levels) r h = let same : level.renderer ≡ r = cc in ap (λ q. q.failure) same

pub failure_of_top : {D A T : Type 0} (s : Stack (Renderer D A T)) (r : Renderer D A T) → top_of s ≡ Some r → failure_of s ≡ r.failure
failure_of_top s r h = failure_first s.levels r h

first_opened : {R : Type 0} (place : ℕ) (levels : List (Level R)) → first_renderer (in_first (opened place) levels) ≡ first_renderer levels
first_opened place [] = refl
first_opened place (level ∷ levels) = refl

pub top_linked : {R : Type 0} (target : List ℕ) (s : Stack R) → top_of (with_link target s) ≡ top_of s
top_linked target s = first_opened _ s.levels

-- the top that a call has changed
pub top_changed : {R : Type 0} (make : R → Outcome R) (s t : Stack R) → in_top make s ≡ done t → ChangesTop (λ r q. make r ≡ done q) s t
top_changed {R = R} make s t h = go (top_of s) refl h
  where
    go : (top : Option R) → top_of s ≡ top → in_top_of make s top ≡ done t → ChangesTop (λ r q. make r ≡ done q) s t
    go None is made = cc
    go (Some r) is made = let (q, changes, same) = done_before (with_top s) (make r) t made in (r, q, is, changes, same)

-- what is tried elsewhere
tries_as : {S X : Type 0} (make other : S → Outcome S) (m old new : S) (result : Result X Error) → other old ≡ make m → Tries make m result new → Tries other old result new
tries_as make other m old new result same h = record {
  ok = on_ok_weaker result (λ is. same ∙ is) h.ok;
  too_narrow = λ e. same ∙ h.too_narrow e;
}

module _ {D A : Type 0} where
  module _ (Step : Renderer D A (List A) → Renderer D A (List A) → Type 0) where
    -- the top makes a step
    pub changes : (s : Stack (Renderer D A (List A))) (r q : Renderer D A (List A)) → top_of s ≡ Some r → Step r q → ChangesTop Step s (with_top s q)
    changes s r q top step = (r, q, top, step, refl)

    -- after the opening of a link
    pub changes_linked : (target : List ℕ) (s l : Stack (Renderer D A (List A))) (r q : Renderer D A (List A)) →
        l ≡ with_link target s → top_of l ≡ Some r → Step r q → ChangesTop Step (with_link target s) (with_top l q)
    changes_linked target s l r q is top step = subst (λ u. ChangesTop Step u (with_top l q)) is (changes l r q top step)

  -- ---- what a call makes of the top

  module _ (make : Renderer D A (List A) → Outcome (Renderer D A (List A))) where
    pub made_in : (s : Stack (Renderer D A (List A))) (r : Renderer D A (List A)) → top_of s ≡ Some r → in_top make s ≡ changed (with_top s) (make r)
    made_in s r top = ap (in_top_of make s) top

    pub done_in : (s : Stack (Renderer D A (List A))) (r q : Renderer D A (List A)) → top_of s ≡ Some r → make r ≡ done q → in_top make s ≡ done (with_top s q)
    done_in s r q top is = made_in s r top ∙ ap (changed (with_top s)) is

    pub refused_in : (s : Stack (Renderer D A (List A))) (r : Renderer D A (List A)) (e : Error) → top_of s ≡ Some r → make r ≡ refused e → in_top make s ≡ refused e
    refused_in s r e top is = made_in s r top ∙ ap (changed (with_top s)) is

    pub tries_in : {X : Type 0} (s : Stack (Renderer D A (List A))) (r q : Renderer D A (List A))
        (result : Result X Error) → top_of s ≡ Some r → Tries make r result q →
        Tries (in_top make) s result (with_top s q)
    tries_in s r q result top h = record {
      ok = on_ok_weaker result (λ is. done_in s r q top is) h.ok;
      too_narrow = λ e. refused_in s r TooNarrow top (h.too_narrow e);
    }

    -- after the opening of a link
    pub tries_linked : {X : Type 0} (target : List ℕ) (s l : Stack (Renderer D A (List A)))
        (r q : Renderer D A (List A)) (result : Result X Error) → l ≡ with_link target s → top_of l ≡ Some r →
        Tries make r result q →
        Tries (λ t. in_top make (with_link target t)) s result (with_top l q)
    tries_linked target s l r q result is top h =
        tries_as (in_top make) (λ t. in_top make (with_link target t)) l s (with_top l q) result (ap (in_top make) (sym is)) (tries_in l r q result top h)

-- ---- refusals

-- what a result ensures that is known to be one
pub if_ok : {X E : Type 0} {P : Type 0} (r : Result X E) → true ≡ is_ok r → OnOk r P → P
if_ok (Ok x) is h = h
if_ok (Err e) is h = cc

pub if_err : {X E : Type 0} {P : Type 0} (r : Result X E) → false ≡ is_ok r → OnErr r P → P
if_err (Ok x) is h = cc
if_err (Err e) is h = h
