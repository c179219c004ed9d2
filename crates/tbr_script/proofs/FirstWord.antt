-- The first word of a line.
use Rattle.std.proofs.Common.{◌≡◌, ◌≢◌, ℕ, suc, ◌<◌, List, [], ◌∷◌, ◌++◌, length, get_or, refl, ap, ◌∙◌, arith}
use Rattle.std.proofs.lemmas.Bool.Decides.{nat_tests}
use Rattle.tbr_script.specs.Script.{words_of, onto_first}

not_space : (b : ℕ) (bs : List ℕ) → b ≢ 32 → words_of (b ∷ bs) ≡ onto_first b (words_of bs)
not_space b bs n = grind (arith, nat_tests)

-- without a space there is one word
pub one_word : (bs : List ℕ) → ((i : ℕ) → i < length bs → get_or bs i 0 ≢ 32) → words_of bs ≡ bs ∷ []
one_word [] n = refl
one_word (b ∷ bs) n = not_space b bs (n 0 (omega arith)) ∙ ap (onto_first b) (one_word bs (λ i lt. n (suc i) (omega arith)))

-- a word ends at the first space
pub word_before : (xs ys : List ℕ) → ((i : ℕ) → i < length xs → get_or xs i 0 ≢ 32) → words_of (xs ++ 32 ∷ ys) ≡ xs ∷ words_of ys
word_before [] ys n = refl
word_before (x ∷ xs) ys n = not_space x (xs ++ 32 ∷ ys) (n 0 (omega arith)) ∙ ap (onto_first x) (word_before xs ys (λ i lt. n (suc i) (omega arith)))
