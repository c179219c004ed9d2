-- The innermost part, which is kept last.
use Rattle.std.proofs.Common.{◌≡◌, ℕ, ◌+◌, ◌<◌, List, [], ◌∷◌, ◌++◌, length, get_or, set, take, refl, ap, sym, ◌∙◌, arith}
use Rattle.std.specs.Prelude.{reverse}
use Rattle.std.proofs.lemmas.List.{take_more, take_all, take-set, reverse-append, length-set, get_or-set_same}
use Rattle.tbr_c_tables.specs.declared.open_part.OpenPart.{OpenPart}
use Rattle.tbr_c_tables.specs.Open.{in_first}

reverse_from_last : (xs : List OpenPart) (n : ℕ) (d : OpenPart) → n + 1 ≡ length xs →
    reverse xs ≡ get_or xs n d ∷ reverse (take n xs)
reverse_from_last xs n d is =
    let within : n < length xs = omega (arith, is) in
    let all : xs ≡ take n xs ++ get_or xs n d ∷ [] = sym (take_all (n + 1) xs (omega (arith, is))) ∙ take_more xs n d within in
    ap reverse all ∙ reverse-append (take n xs) (get_or xs n d ∷ [])

-- it changes
pub innermost_changed : (f : OpenPart → OpenPart) (xs : List OpenPart) (n : ℕ) (x y : OpenPart) → n + 1 ≡ length xs →
    x ≡ get_or xs n x → y ≡ f x → reverse (set xs n y) ≡ in_first f (reverse xs)
innermost_changed f xs n x y is there made =
    reverse_from_last (set xs n y) n y (is ∙ sym (length-set xs n y))
    ∙ ap (λ (z : OpenPart). z ∷ reverse (take n (set xs n y))) (get_or-set_same xs n y y (omega (arith, is)))
    ∙ ap (λ (zs : List OpenPart). y ∷ reverse zs) (take-set xs n y)
    ∙ ap (λ (z : OpenPart). z ∷ reverse (take n xs)) (made ∙ ap f there)
    ∙ ap (in_first f) (sym (reverse_from_last xs n x is))

-- there is none
pub none_changed : (f : OpenPart → OpenPart) (xs : List OpenPart) → (0 < length xs → ⊥) → reverse xs ≡ in_first f (reverse xs)
none_changed f [] none = refl
none_changed f (x ∷ xs) none = absurd (none (omega arith))
