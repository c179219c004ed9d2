-- What is asked of the renderer on top of a program.
use Rattle.tbr_c.proofs.Common.{◌≡◌, ℕ, Option, None, Some, List, length, ap, sym, arith, IfSome, encode_utf8_all}
use Rattle.std.proofs.Common.{◌<◌, ◌^◌, [], ◌∷◌, unwrap_or}
use Rattle.std.specs.Prelude.{SomeIff}
use Rattle.std.specs.Option.{option_map}
use Rattle.tbr_stack.specs.Stack.{Level, Stack, first_renderer, top_of}
use Rattle.tbr_c.specs.Facts.{on_top}

pub asked_on_top : {R X : Type 0} (none : X) (ask : R → X) (s : Stack R) (r : R) → top_of s ≡ Some r → on_top none ask s ≡ ask r
asked_on_top none ask s r top = ap (λ o. unwrap_or (option_map ask o) none) top

-- what holds of each renderer holds of the one on top
of_top : {R X : Type 0} (P : X → Type 0) (none : X) (ask : R → X) (s : Stack R) → 0 < length s.levels → ((r : R) → P (ask r)) → P (on_top none ask s)
of_top {R = R} P none ask s some each = go s.levels some
  where
    go : (levels : List (Level R)) → 0 < length levels → P (unwrap_or (option_map ask (first_renderer levels)) none)
    go [] h = absurd (omega (arith, h))
    go (level ∷ levels) h = each level.renderer

-- the bytes of a text that each renderer has
pub length_on_top : {R : Type 0} (text : R → List ℕ) (s : Stack R) (found : Option ℕ) → 0 < length s.levels →
    ((r : R) → SomeIff found (length (encode_utf8_all (text r)) < 2 ^ 64) (length (encode_utf8_all (text r)))) → IfSome found (λ n. length (encode_utf8_all (on_top [] text s)) ≡ n)
length_on_top text s None some is = tt
length_on_top text s (Some n) some is = of_top (λ cs. length (encode_utf8_all cs) ≡ n) [] text s some (λ r. sym ((is r).1))
