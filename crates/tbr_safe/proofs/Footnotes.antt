-- Footnotes whose targets are escaped.
use Rattle.std.proofs.Common.{◌≡◌, ℕ, zero, suc, ◌+◌, ◌%◌, ◌/◌, ◌<◌, ◌==◌, Bool, true, false, List, [], ◌∷◌, ◌++◌, map, refl, arith, cond, lit<}
use Rattle.std.specs.Prelude.{codes}
use Rattle.std.specs.Char.{is_control}
use Rattle.std.specs.Fmt.{decimal, digits, digits_onto, digit_glyph}
use Rattle.std.specs.List.{AllByRecursion as Each}
use Rattle.std.proofs.Math.Nat.{mod-lt}
use Rattle.std.proofs.lemmas.Bool.{lt-ltb}
use Rattle.std.proofs.lemmas.Bool.Decides.{nat_tests}
use Rattle.tbr_tagged.specs.Elements.{characters}
use Rattle.tbr_decor.specs.Usual.{footnotes_from}
use Rattle.tbr_safe.specs.Escaped.{escaped}
use Rattle.tbr_safe.proofs.Controls.{IsShown, each_both, none_left}

a_digit : (d : ℕ) → d < 10 → IsShown (48 + d)
a_digit d h = grind (arith, nat_tests)

a_glyph : (d : ℕ) → d < 10 → IsShown (digit_glyph false d)
a_glyph d h = rw (lt-ltb d 10 h) (a_digit d h)

either : (b : Bool) (one other : List ℕ) → Each IsShown one → Each IsShown other → Each IsShown (cond b one other)
either true one other h k = h
either false one other h k = k

digits_are : (k n : ℕ) (acc : List ℕ) → Each IsShown acc → Each IsShown (digits_onto k 10 false n acc)
digits_are zero n acc h = h
digits_are (suc k) n acc h =
    let more : Each IsShown (digit_glyph false (n % 10) ∷ acc) = (a_glyph (n % 10) (mod-lt n (lit< tt)), h) in
    either (n / 10 == 0) (digit_glyph false (n % 10) ∷ acc) (digits_onto k 10 false (n / 10) (digit_glyph false (n % 10) ∷ acc)) more (digits_are k (n / 10) (digit_glyph false (n % 10) ∷ acc) more)

decimal_is : (n : ℕ) → Each IsShown (decimal n)
unfolding digits
decimal_is n = digits_are 64 n [] tt

line_is : (k : ℕ) (target : List ℕ) → Each IsShown target → Each IsShown ((codes "[" ++ decimal k ++ codes "]: " ++ target) ++ [])
line_is k target h =
    let number = each_both IsShown (codes "[") (decimal k) (refl, tt) (decimal_is k) in
    let front = each_both IsShown (codes "[" ++ decimal k) (codes "]: ") number (refl, (refl, (refl, tt))) in
    each_both IsShown (codes "[" ++ decimal k ++ codes "]: " ++ target) [] (each_both IsShown (codes "[" ++ decimal k ++ codes "]: ") target front h) tt

pub footnotes_are : {A : Type 0} (a : A) (k : ℕ) (targets : List (List ℕ)) →
    Each (λ line. Each (λ c. is_control c ≡ false) (characters line)) (footnotes_from a k (map escaped targets))
footnotes_are a k [] = tt
footnotes_are a k (target ∷ targets) = (line_is k (escaped target) (none_left target), footnotes_are a (k + 1) targets)
