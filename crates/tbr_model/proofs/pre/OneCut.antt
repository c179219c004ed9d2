-- A text is cut after every so many characters in one way.
use Rattle.tbr_model.proofs.Common.{◌≡◌, ℕ, ◌<◌, List, [], ◌∷◌, ◌++◌, length, drop, ap, sym, ◌∙◌, arith, append-nil, length-drop, joined, IsCutEvery}
use Rattle.std.proofs.lemmas.List.{take-append-drop}

cut_some : (width : ℕ) (cs : List ℕ) (ls : List (List ℕ)) → IsCutEvery width cs ls → 0 < length cs
cut_some width cs [] h = absurd h
cut_some width cs (l ∷ []) h = omega (arith, ap length h.0, h.1)
cut_some width cs (l ∷ m ∷ ls) h = omega (arith, cut_some width (drop width cs) (m ∷ ls) h.2, length-drop width cs)

pub cut_in_one_way : (width : ℕ) (cs : List ℕ) (ls ms : List (List ℕ)) → IsCutEvery width cs ls → IsCutEvery width cs ms → ms ≡ ls
cut_in_one_way width cs [] ms h k = absurd h
cut_in_one_way width cs (l ∷ ls) [] h k = absurd k
cut_in_one_way width cs (l ∷ []) (m ∷ []) h k = ap (λ x. x ∷ []) (k.0 ∙ sym h.0)
cut_in_one_way width cs (l ∷ []) (m ∷ n ∷ ms) h k =
    absurd (omega (arith, ap length h.0, h.2, cut_some width (drop width cs) (n ∷ ms) k.2, length-drop width cs))
cut_in_one_way width cs (l ∷ n ∷ ls) (m ∷ []) h k =
    absurd (omega (arith, ap length k.0, k.2, cut_some width (drop width cs) (n ∷ ls) h.2, length-drop width cs))
cut_in_one_way width cs (l ∷ n ∷ ls) (m ∷ o ∷ ms) h k = grind (arith, cut_in_one_way width (drop width cs) (n ∷ ls) (o ∷ ms) h.2 k.2)

-- and its parts, joined, are the text
pub cut_joined : (width : ℕ) (cs : List ℕ) (ls : List (List ℕ)) → IsCutEvery width cs ls → joined ls ≡ cs
cut_joined width cs [] h = absurd h
cut_joined width cs (l ∷ []) h = append-nil l ∙ h.0
cut_joined width cs (l ∷ m ∷ ls) h =
    ap (λ x. l ++ x) (cut_joined width (drop width cs) (m ∷ ls) h.2) ∙ ap (λ x. x ++ drop width cs) h.0 ∙ take-append-drop width cs
