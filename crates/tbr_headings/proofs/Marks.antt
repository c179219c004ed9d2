-- What prefixes of headings take.
use Rattle.std.proofs.Common.{◌≡◌, ℕ, zero, suc, ◌+◌, ◌*◌, ◌<◌, ◌^◌, Option, None, Some, List, [], ◌∷◌, ◌++◌, length, replicate, unwrap_or, refl, ap, sym, subst, ◌∙◌, arith}
use Rattle.std.proofs.Math.Nat.{suc-mul}
use Rattle.std.specs.Prelude.{SomeIff, encode_utf8_all}
use lib.Utf8.{encode}
use Rattle.tbr_model.specs.Width.{width_of_text}

pub marked_columns : (columns : ℕ → Option ℕ) (level : ℕ) →
    width_of_text columns (replicate level 35 ++ 32 ∷ []) ≡ level * unwrap_or (columns 35) 0 + unwrap_or (columns 32) 0
marked_columns columns zero = omega arith
marked_columns columns (suc n) =
    let sign = unwrap_or (columns 35) 0 in
    ap (λ (w : ℕ). sign + w) (marked_columns columns n) ∙ omega (arith, suc-mul n sign)

pub marked_bytes : (level : ℕ) → length (encode_utf8_all (replicate level 35 ++ 32 ∷ [])) ≡ level + 1
unfolding encode
marked_bytes zero = refl
marked_bytes (suc n) = ap suc (marked_bytes n) ∙ omega arith

-- a sum, by its number
pub is_sum : (sum : Option ℕ) (m n : ℕ) → SomeIff sum (m < 2 ^ 64) m → m ≡ n → SomeIff sum (n < 2 ^ 64) n
is_sum sum m n h e = subst (λ (k : ℕ). SomeIff sum (k < 2 ^ 64) k) e h
