-- Texts with strokes.
use Rattle.tbr_renderer.proofs.Common.{◌≡◌, ℕ, if◌then◌else◌, Option, unwrap_or, List, [], ◌∷◌, ◌++◌, replicate, refl, ap, sym, ◌∙◌, arith, append_assoc, cond_both, stroke, struck}
use Rattle.std.proofs.Common.{nat_lt}
use Rattle.std.proofs.lemmas.Bool.{lt-ltb}
use Rattle.tbr_renderer.specs.Renderer.{struck_character}

module _ (columns : ℕ → Option ℕ) (depth c : ℕ) (old mid new : List ℕ) (n : ℕ) (is : n ≡ unwrap_or (columns c) 0) (pushed : mid ≡ old ++ c ∷ []) where
  -- a character that takes no columns has no strokes
  pub unstruck : n ≡ 0 → mid ≡ old ++ struck_character columns depth c
  unstruck none = pushed ∙ ap (λ k. old ++ c ∷ (if nat_lt 0 k then replicate depth stroke else [])) (sym none ∙ is)

  -- any other has
  pub struck_through : (n ≡ 0 → ⊥) → new ≡ mid ++ replicate depth stroke → new ≡ old ++ struck_character columns depth c
  struck_through some more = grind (arith, lt-ltb, append_assoc)

-- outside strikeouts a text is as it is
pub struck_none : (columns : ℕ → Option ℕ) (cs : List ℕ) → struck columns 0 cs ≡ cs
struck_none columns [] = refl
struck_none columns (c ∷ cs) = grind (arith, cond_both, struck_none columns cs)
