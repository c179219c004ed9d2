-- The cells that renderers give.
use Rattle.tbr_renderer.proofs.Common.{◌≡◌, ℕ, ◌+◌, arith, List, [], ◌∷◌, ◌++◌, drop, length, refl, ap, sym, ◌∙◌, drop-drop, CellAlign, Error, Outcome, done, refused, Line, and_then}
use Rattle.tbr_renderer.proofs.Common.{changed, gathered, GivenCell, next_align}
use Rattle.tbr_renderer.specs.Rows.{cell_given, cells_given}
use Rattle.tbr_renderer.proofs.OutcomeParts.{gathered_last, gathered_stops}

-- each with the alignment that is next
abbrev aligned : {X : Type 0} → List X → List CellAlign → List (X × CellAlign)
aligned [] aligns = []
aligned (x ∷ xs) aligns = (x, next_align aligns) ∷ aligned xs (drop 1 aligns)

aligned-append : {X : Type 0} (xs ys : List X) (aligns : List CellAlign) →
    aligned (xs ++ ys) aligns ≡ aligned xs aligns ++ aligned ys (drop (length xs) aligns)
aligned-append [] ys aligns = refl
aligned-append (x ∷ xs) ys aligns =
    let one : 1 + length xs ≡ length (x ∷ xs) = omega arith in
    ap (λ ps. (x, next_align aligns) ∷ ps)
    (aligned-append xs ys (drop 1 aligns)
    ∙ ap (λ bs. aligned xs (drop 1 aligns) ++ aligned ys bs) (drop-drop (length xs) 1 aligns ∙ ap (λ n. drop n aligns) one))

module _ {S T : Type 0} (columns_of : S → ℕ) (hand_out : S → Outcome (List (Line T))) where
  abbrev pub cell_of : S × ℕ → CellAlign → List (Line T) → GivenCell T
  cell_of col align lines = record { width = columns_of col.0; span = col.1; align = align; lines = lines }

  abbrev give : (S × ℕ) × CellAlign → Outcome (GivenCell T)
  give p = cell_given columns_of hand_out p.0 p.1

  -- they are gathered one by one
  one_by_one : (cols : List (S × ℕ)) (aligns : List CellAlign) → cells_given columns_of hand_out cols aligns ≡ gathered give (aligned cols aligns)
  one_by_one [] aligns = refl
  one_by_one (col ∷ cols) aligns =
      ap (λ o. and_then (give (col, next_align aligns)) (λ cell. changed (λ cells. cell ∷ cells) o)) (one_by_one cols (drop 1 aligns))

  module _ (cols : List (S × ℕ)) (aligns : List CellAlign) (cells : List (GivenCell T)) (col : S × ℕ)
      (given : cells_given columns_of hand_out cols aligns ≡ done cells) where
    parts : (more : List (S × ℕ)) → cells_given columns_of hand_out (cols ++ col ∷ more) aligns
        ≡ gathered give (aligned cols aligns ++ aligned (col ∷ more) (drop (length cols) aligns))
    parts more = one_by_one (cols ++ col ∷ more) aligns ∙ ap (gathered give) (aligned-append cols (col ∷ more) aligns)

    -- one cell more
    pub given_last : (lines : List (Line T)) → hand_out col.0 ≡ done lines →
        cells_given columns_of hand_out (cols ++ col ∷ []) aligns ≡ done (cells ++ cell_of col (next_align (drop (length cols) aligns)) lines ∷ [])
    given_last lines hands =
        parts [] ∙ gathered_last give (aligned cols aligns) cells _ _ (sym (one_by_one cols aligns) ∙ given) (ap (changed (cell_of col _)) hands)

    -- the first refusal is that of all
    pub given_stops : (more : List (S × ℕ)) (e : Error) → hand_out col.0 ≡ refused e → cells_given columns_of hand_out (cols ++ col ∷ more) aligns ≡ refused e
    given_stops more e refuses =
        parts more ∙ gathered_stops give (aligned cols aligns) cells _ _ e (sym (one_by_one cols aligns) ∙ given) (ap (changed (cell_of col _)) refuses)
