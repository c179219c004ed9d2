-- Levels that come and go.
use Rattle.tbr_program.proofs.Common.{◌≡◌, ◌<◌, List, [], ◌∷◌, length, drop, Some, refl, arith, AllZip, Renderer, Stack, Level, top_of, with_top, below, first_renderer, in_first, Begun}
use Rattle.tbr_program.proofs.Common.{Opener, Pending, Opened, IsLive, AreLive}

abbrev pub with_first : {R : Type 0} → List (Level R) → R → List (Level R)
with_first levels r = in_first (λ level. record level { renderer = r }) levels

abbrev pub below_top : {R : Type 0} → List (Level R) → List (Level R)
below_top levels = drop 1 levels

module _ {D A T : Type 0} where
  abbrev pub Zipped : List (Level (Renderer D A T)) → List Begun → Type 0
  Zipped levels begun = AllZip (λ level begun. IsLive level.renderer begun) levels begun

  pub first_live : (levels : List (Level (Renderer D A T))) (r : Renderer D A T) (begun : Begun) (others : List Begun)
      → Zipped levels (begun ∷ others) → first_renderer levels ≡ Some r → IsLive r begun
  first_live [] r begun others live is = absurd live
  first_live (level ∷ levels) r begun others live is = grind arith

  pub with_first_live : (levels : List (Level (Renderer D A T))) (s : Renderer D A T) (begun next : Begun)
      (others : List Begun) → Zipped levels (begun ∷ others) → IsLive s next → Zipped (with_first levels s) (next ∷ others)
  with_first_live [] s begun next others live is = absurd live
  with_first_live (level ∷ levels) s begun next others live is = (is, live.1)

  below_top_live : (levels : List (Level (Renderer D A T))) (begun : Begun) (others : List Begun) → Zipped levels (begun ∷ others) → Zipped (below_top levels) others
  below_top_live [] begun others live = absurd live
  below_top_live (level ∷ levels) begun others live = live.1

  some_levels : (levels : List (Level (Renderer D A T))) (begun : Begun) (others : List Begun) → Zipped levels (begun ∷ others) → 0 < length levels
  some_levels [] begun others live = absurd live
  some_levels (level ∷ levels) begun others live = omega arith

  one_level : (levels : List (Level (Renderer D A T))) (begun : Begun) → Zipped levels (begun ∷ []) → length levels ≡ 1
  one_level [] begun live = absurd live
  one_level (level ∷ []) begun live = refl
  one_level (level ∷ next ∷ levels) begun live = absurd live.1

  module _ (stack : Stack (Renderer D A T)) (pending : Pending D A T) (opened : List (Opened D A T)) (live : AreLive stack pending opened) where
    pub top_live : (r : Renderer D A T) → top_of stack ≡ Some r → IsLive r pending.begun
    top_live r is = first_live stack.levels r pending.begun _ live is

    pub has_top : 0 < length stack.levels
    has_top = some_levels stack.levels pending.begun _ live

    pub with_top_live : (next : Stack (Renderer D A T)) (s : Renderer D A T) (left : Pending D A T) → next ≡ with_top stack s → IsLive s left.begun → AreLive next left opened
    with_top_live next s left is live_here = grind (arith, with_first_live)

    pub below_live : (next : Stack (Renderer D A T)) (left : Pending D A T) (others : List (Opened D A T)) →
        next ≡ below stack → ((by : Opener) × (opened ≡ record { by = by; below = left } ∷ others)) → AreLive next left others
    below_live next left others is closed = grind (arith, below_top_live)

  pub only_level : (stack : Stack (Renderer D A T)) (pending : Pending D A T) (opened : List (Opened D A T)) → AreLive stack pending opened → opened ≡ [] → length stack.levels ≡ 1
  only_level stack pending opened live none = grind (arith, one_level)
