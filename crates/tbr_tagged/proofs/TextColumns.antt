-- Columns of texts, and loops over characters.
use Rattle.tbr_tagged.proofs.Common.{◌≡◌, ℕ, suc, ◌+◌, ◌<◌, ◌≤◌, true, Option, Some, unwrap_or, List, [], ◌∷◌, ◌++◌, map, length, get_or, take, drop, refl, ap, sym, ◌∙◌, arith, drop-cons, map-id}
use Rattle.unicode_width.specs.Width.{char_width}
use Rattle.tbr_tagged.proofs.Common.{nat_tests, YieldsList-turn, take-append-drop, glyph, items_width, width_of_text, unicode_columns}
use Rattle.std.specs.Int.{is_in_range}
use Rattle.std.specs.Iterator.{Yields}
use Rattle.std.proofs.lemmas.Iterator.{YieldsList}
use Rattle.std.proofs.lemmas.Iterator.Consumers.{YieldsList-so_far}

-- printable ASCII takes one column
pub ascii_in_one : (c : ℕ) → is_in_range 0x20 0x7E c ≡ true → unicode_columns c ≡ Some 1
unfolding char_width
ascii_in_one c h = grind (arith, nat_tests)

-- a list, from what a loop has seen of it on
pub seen_and_rest : {A : Type 0} (all xs : List A) (x : A) → xs ≡ take (length xs) all → length xs < length all → x ≡ get_or all (length xs) x →
    (rest : List A) × (all ≡ xs ++ (x ∷ rest))
seen_and_rest all xs x seen below is = (drop (suc (length xs)) all, rw (← seen, drop-cons all (length xs) x below, ← is) at (sym (take-append-drop (length xs) all)))

pub width_of_text-append : (columns : ℕ → Option ℕ) (cs ds : List ℕ) → width_of_text columns (cs ++ ds) ≡ width_of_text columns cs + width_of_text columns ds
width_of_text-append columns [] ds = omega arith
width_of_text-append columns (c ∷ cs) ds = omega (arith, width_of_text-append columns cs ds)

-- a text takes what its beginning takes, and the character after that, or more
pub width_of_text-beginning : (columns : ℕ → Option ℕ) (all cs : List ℕ) (c : ℕ) (ds : List ℕ) → all ≡ cs ++ c ∷ ds → width_of_text columns cs + unwrap_or (columns c) 0 ≤ width_of_text columns all
width_of_text-beginning columns all cs c ds e = omega (arith, ap (width_of_text columns) e, width_of_text-append columns cs (c ∷ ds))

pub items_width-text : {A : Type 0} (columns : ℕ → Option ℕ) (cs : List ℕ) (a : A) → items_width columns (map (λ c. glyph c a) cs) ≡ width_of_text columns cs
items_width-text columns [] a = refl
items_width-text columns (c ∷ cs) a = ap (λ n. unwrap_or (columns c) 0 + n) (items_width-text columns cs a)

-- the same of a `for` that has yielded xs, and x now
pub turn_and_rest : {S A : Type 0} {steps : S → Option A → S → Type 0} {s : S} {all : List A} → YieldsList steps (λ x. x) s all → (xs : List A) (t : S) → Yields steps s xs t →
    (r : Option A) (u : S) (x : A) → r ≡ Some x → steps t r u → (rest : List A) × (all ≡ xs ++ (x ∷ rest))
turn_and_rest {S} {A} {steps} {s} {all} list xs t led r u x is step =
    let seen : map (λ (y : A). y) xs ≡ take (length xs) all = YieldsList-so_far list xs t led in
    let turn = YieldsList-turn list xs t led r u x is step in
    seen_and_rest all xs x (sym (map-id xs) ∙ seen) turn.0 turn.1
