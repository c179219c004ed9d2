-- Texts, as they are read piece by piece.
use Rattle.std.proofs.Common.{◌≡◌, ◌≢◌, ℕ, suc, ◌<◌, ◌==◌, Option, None, Some, List, [], ◌∷◌, ◌++◌, length, get_or, drop, take-append-drop, drop-cons, add-one, ◌+◌, encode_utf8, refl, sym}
use Rattle.std.proofs.Common.{ap, ◌∙◌, arith, lit<, append_assoc, append-nil, rules}
use Rattle.std.specs.List.{slice_range}
use Rattle.std.specs.Option.{option_map, option_and_then}
use Rattle.std.proofs.lemmas.Bool.{eqb-true}
use Rattle.std.proofs.lemmas.Bool.Decides.{nat_tests}
use Rattle.std.proofs.lemmas.Grind.{common_steps}
use Rattle.std.proofs.lemmas.Iterator.Adapters.{option_map_id}
use Rattle.std.proofs.lemmas.Str.{char_from_byte}
use Rattle.tbr_script.specs.Script.{character_by_letter}
use Rattle.tbr_script.specs.Read.{in_escape, at_brace, in_braces, with_character, character_read, read_from, text_read}
use Rattle.tbr_script.proofs.Reading.{test, if_not, eqb-of, to_brace}

-- ---- bytes that mean themselves

pub plain : (xs ys : List ℕ) → ((i : ℕ) → i < length xs → get_or xs i 0 ≢ 92) → text_read (xs ++ ys) ≡ option_map (λ more. xs ++ more) (text_read ys)
plain [] ys none = sym (option_map_id (text_read ys))
plain (x ∷ xs) ys none =
    if_not (x == 92) _ _ (eqb-of x 92 (none 0 (omega arith))) ∙ ap (option_map (λ more. x ∷ more)) (plain xs ys (λ i lt. none (suc i) (omega arith))) ∙ go (text_read ys)
  where
    go : (o : Option (List ℕ)) → option_map (λ more. x ∷ more) (option_map (λ more. xs ++ more) o) ≡ option_map (λ more. x ∷ (xs ++ more)) o
    go None = refl
    go (Some more) = refl

pub plain_all : (xs : List ℕ) → ((i : ℕ) → i < length xs → get_or xs i 0 ≢ 92) → text_read xs ≡ Some xs
plain_all xs none = ap text_read (sym (append-nil xs)) ∙ plain xs [] none ∙ ap Some (append-nil xs)

-- a text in two, at the first byte of its kind
pub parted_at : (b : ℕ) (bs before after : List ℕ) (k : ℕ) → k < length bs → get_or bs k 0 ≡ b → ((i : ℕ) → i < k → get_or bs i 0 ≢ b) →
    before ≡ slice_range bs 0 k → after ≡ drop (k + 1) bs → (bs ≡ before ++ b ∷ after) × ((i : ℕ) → i < length before → get_or before i 0 ≢ b)
parted_at b bs before after k inside is none front back = search (rules, drop-cons, add-one, take-append-drop, common_steps)

-- a backslash after bytes that mean themselves
pub up_to_escape : (writing before after : List ℕ) → (writing ≡ before ++ 92 ∷ after) × ((i : ℕ) → i < length before → get_or before i 0 ≢ 92) →
    text_read writing ≡ option_map (λ more. before ++ more) (read_from in_escape after)
up_to_escape writing before after parts = ap text_read parts.0 ∙ plain before (92 ∷ after) parts.1

-- ---- escapes

no_letter : (b : ℕ) → b ≢ 110 → b ≢ 116 → b ≢ 92 → character_by_letter b ≡ None
no_letter b n t s = grind (arith, nat_tests)

-- a first character that begins no escape
pub no_escape : (bs rest : List ℕ) (c : ℕ) → bs ≡ encode_utf8 c ++ rest → c ≢ 110 → c ≢ 116 → c ≢ 92 → c ≢ 117 → None ≡ read_from in_escape bs
no_escape [] rest c first n t s u = refl
no_escape (b ∷ bs) rest c first n t s u =
    let other : (d : ℕ) → d < 128 → c ≢ d → b ≢ d = λ d low not same. not (char_from_byte (b ∷ bs) rest c first (omega arith) (omega arith) ∙ same) in
    sym (if_not (b == 117) _ _ (eqb-of b 117 (other 117 (lit< tt) u))
    ∙ ap (option_and_then (λ d. with_character d (text_read bs))) (no_letter b (other 110 (lit< tt) n) (other 116 (lit< tt) t) (other 92 (lit< tt) s)))

-- what has no brace where one opens or closes
pub no_opening : (bs : List ℕ) → ((rest : List ℕ) → bs ≢ 123 ∷ rest) → None ≡ read_from at_brace bs
no_opening [] none = refl
no_opening (b ∷ bs) none =
    test (b == 123) (λ is. absurd (none bs (ap (λ x. x ∷ bs) (eqb-true b 123 is)))) (λ is. sym (if_not (b == 123) (read_from (in_braces []) bs) None is))

pub no_closing : (ds bs : List ℕ) → ((i : ℕ) → i < length bs → get_or bs i 0 ≢ 125) → None ≡ read_from (in_braces ds) bs
no_closing ds [] none = refl
no_closing ds (b ∷ bs) none =
    no_closing (ds ++ b ∷ []) bs (λ i lt. none (suc i) (omega arith)) ∙ sym (if_not (b == 125) _ _ (eqb-of b 125 (none 0 (omega arith))))

-- digits in braces
pub braced : (after inner digits rest : List ℕ) → after ≡ 123 ∷ inner →
    (inner ≡ digits ++ 125 ∷ rest) × ((i : ℕ) → i < length digits → get_or digits i 0 ≢ 125) →
    option_and_then (λ c. with_character c (text_read rest)) (character_read digits) ≡ read_from at_brace after
braced after inner digits rest brace (parts, none) = sym (ap (read_from at_brace) brace ∙ ap (read_from (in_braces [])) parts ∙ to_brace [] digits rest none)

-- ---- a text so far, and what the rest means

module _ (writing text rest : List ℕ) (so_far : text_read writing ≡ option_map (λ more. text ++ more) (text_read rest)) where
  -- up to an escape
  pub at_escape : (before : List ℕ) (o p : Option (List ℕ)) → text_read rest ≡ option_map (λ more. before ++ more) p → o ≡ p →
      text_read writing ≡ option_map (λ more. text ++ more) (option_map (λ more. before ++ more) o)
  at_escape before o p means is =
      so_far ∙ ap (option_map (λ more. text ++ more)) (means ∙ ap (option_map (λ more. before ++ more)) (sym is))

  -- up to the end
  pub at_end : (whole : List ℕ) → text_read rest ≡ Some rest → whole ≡ text ++ rest → Some whole ≡ text_read writing
  at_end whole means is = ap Some is ∙ sym (so_far ∙ ap (option_map (λ more. text ++ more)) means)

-- a text, and an escape after bytes that mean themselves
pub joined : (text before d mid new : List ℕ) (rest : Option (List ℕ)) → mid ≡ text ++ before → new ≡ mid ++ d →
    option_map (λ more. text ++ more) (option_map (λ more. before ++ more) (option_map (λ more. d ++ more) rest)) ≡ option_map (λ more. new ++ more) rest
joined text before d mid new None e f = refl
joined text before d mid new (Some more) e f = ap Some (sym (rw (f, e, append_assoc (text ++ before) d more, append_assoc text before (d ++ more)) refl))
