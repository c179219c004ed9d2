-- Lists of footnotes.
use Rattle.std.proofs.Common.{◌≡◌, ℕ, ◌+◌, ◌<◌, List, [], ◌∷◌, ◌++◌, map, take, length, slice_index_or, refl, sym, ap, ◌∙◌, subst, arith}
use Rattle.std.proofs.lemmas.List.{take_more, map_push, length-map, length-take-le}
use Rattle.tbr_tagged.specs.Elements.{Element}
use Rattle.tbr_decor.specs.Meant.{meant, lines_meant}
use Rattle.tbr_decor.specs.Usual.{footnote, footnotes_from, IsFootnote, AreFootnotes, AreFootnotesFrom}

-- one more line
footnotes_push : {A : Type 0} (IsKind : A → Type 0) (k n : ℕ) (targets : List (List ℕ))
    (lines : List (List (Element A))) (target : List ℕ) (line : List (Element A)) → n ≡ k + length targets →
    AreFootnotesFrom IsKind k targets lines → IsFootnote IsKind n target line →
    AreFootnotesFrom IsKind k (targets ++ target ∷ []) (lines ++ line ∷ [])
footnotes_push IsKind k n [] [] target line e h f = (subst (λ (i : ℕ). IsFootnote IsKind i target line) (omega arith) f, tt)
footnotes_push IsKind k n [] (l ∷ lines) target line e h f = absurd h
footnotes_push IsKind k n (t ∷ targets) [] target line e h f = absurd h
footnotes_push IsKind k n (t ∷ targets) (l ∷ lines) target line e h f = (h.0, footnotes_push IsKind (k + 1) n targets lines target line (omega arith) h.1 f)

pub footnotes_more : {A X : Type 0} (IsKind : A → Type 0) (f : X → List ℕ) (xs : List X) (i : ℕ) (x : X) (lines : List (List (Element A))) (line : List (Element A)) →
    i < length xs → x ≡ slice_index_or xs i x → AreFootnotes IsKind (map f (take i xs)) lines → IsFootnote IsKind (i + 1) (f x) line →
    AreFootnotes IsKind (map f (take (i + 1) xs)) (lines ++ line ∷ [])
footnotes_more {A} IsKind f xs i x lines line h is all more =
    let targets : map f (take (i + 1) xs) ≡ map f (take i xs) ++ f x ∷ [] =
    ap (map f) (take_more xs i x h) ∙ map_push f (take i xs) (slice_index_or xs i x)
    ∙ ap (λ y. map f (take i xs) ++ f y ∷ []) (sym is) in
    let count : length (map f (take i xs)) ≡ i = length-map (take i xs) f ∙ length-take-le i xs (omega arith) in
    subst (λ (ts : List (List ℕ)). AreFootnotes IsKind ts (lines ++ line ∷ [])) (sym targets)
    (footnotes_push IsKind 1 (i + 1) (map f (take i xs)) lines (f x) line (omega arith) all more)

-- what the lines mean, where all annotations of the kind mean the same
pub footnotes_meant : {A M : Type 0} (IsKind : A → Type 0) (meaning : A → M) (m : M) →
    ((a : A) → IsKind a → meaning a ≡ m) → (k : ℕ) (targets : List (List ℕ)) (lines : List (List (Element A))) →
    AreFootnotesFrom IsKind k targets lines → lines_meant meaning lines ≡ footnotes_from m k targets
footnotes_meant IsKind meaning m same k [] [] h = refl
footnotes_meant IsKind meaning m same k [] (l ∷ lines) h = absurd h
footnotes_meant IsKind meaning m same k (t ∷ targets) [] h = absurd h
footnotes_meant IsKind meaning m same k (t ∷ targets) (l ∷ lines) h =
    ap (λ es. es ∷ lines_meant meaning lines) (ap (map (meant meaning)) h.0.shown ∙ ap (λ b. footnote b k t) (same h.0.annotation h.0.kind))
    ∙ ap (λ ls. footnote m k t ∷ ls) (footnotes_meant IsKind meaning m same (k + 1) targets lines h.1)
