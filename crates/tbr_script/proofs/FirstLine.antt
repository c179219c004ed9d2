-- The first line of a script.
use Rattle.std.proofs.Common.{◌≡◌, ◌≢◌, ℕ, suc, ◌+◌, ◌-◌, ◌<◌, List, [], ◌∷◌, ◌++◌, length, get_or, take, drop, refl, ap, ◌∙◌, arith}
use Rattle.std.proofs.lemmas.Grind.{common_steps}
use Rattle.std.proofs.lemmas.Bool.Decides.{nat_tests}
use Rattle.tbr_script.specs.Script.{lines_of, onto_first}
use Rattle.tbr_script.proofs.Texts.{parted_at}

not_newline : (b : ℕ) (bs : List ℕ) → b ≢ 10 → lines_of (b ∷ bs) ≡ onto_first b (lines_of bs)
not_newline b bs n = grind (arith, nat_tests)

-- without a newline there is one line
pub one_line : (bs : List ℕ) → 0 < length bs → ((i : ℕ) → i < length bs → get_or bs i 0 ≢ 10) → lines_of bs ≡ bs ∷ []
one_line [] h n = absurd (omega arith)
one_line (b ∷ []) h n = not_newline b [] (n 0 (omega arith))
one_line (b ∷ c ∷ bs) h n = not_newline b (c ∷ bs) (n 0 (omega arith)) ∙ ap (onto_first b) (one_line (c ∷ bs) (omega arith) (λ i lt. n (suc i) (omega arith)))

-- a line ends at the first newline
pub line_before : (xs ys : List ℕ) → ((i : ℕ) → i < length xs → get_or xs i 0 ≢ 10) → lines_of (xs ++ 10 ∷ ys) ≡ xs ∷ lines_of ys
line_before [] ys n = refl
line_before (x ∷ xs) ys n = not_newline x (xs ++ 10 ∷ ys) (n 0 (omega arith)) ∙ ap (onto_first x) (line_before xs ys (λ i lt. n (suc i) (omega arith)))

whole_rest : (n : ℕ) (bs : List ℕ) → take (length bs - n) (drop n bs) ≡ drop n bs
whole_rest n bs = grind (arith, common_steps)

-- the same, of the slices that the code takes
pub line_at : (bs : List ℕ) (k : ℕ) → k < length bs → get_or bs k 0 ≡ 10 → ((i : ℕ) → i < k → get_or bs i 0 ≢ 10) → lines_of bs ≡ take k bs ∷ lines_of (take (length bs - (k + 1)) (drop (k + 1) bs))
line_at bs k inside is none =
    let front : k ≡ k - 0 = omega arith in
    let parts = parted_at 10 bs (take k bs) (drop (k + 1) bs) k inside is none (ap (λ n. take n bs) front) refl in
    rw (whole_rest (k + 1) bs) (ap lines_of parts.0 ∙ line_before (take k bs) (drop (k + 1) bs) parts.1)
