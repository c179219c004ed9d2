-- Words of a script, and which is near another one.
use Rattle.std.specs.Prelude.{◌≡◌, ◌≢◌, ℕ, ◌<◌, ◌≤◌, ◌==◌, min, nat_eq, List, ◌∷◌, ◌++◌, length, All, Contains, chars}
use Rattle.std.specs.List.{before_first, AllByRecursion as Each}
use Rattle.std.specs.Borrow.{Bor}
use Rattle.strsim.specs.Edits.{levenshtein_row}
use Rattle.tbr_model.specs.Codes.{space_character}

-- the first word of a line, in front of its first space
abbrev pub first_word : List ℕ → List ℕ
first_word line = before_first (λ b. b == space_character) line

-- no text begins with this word
abbrev pub NoneBegins : List ℕ → List (List ℕ) → Type 0
NoneBegins word texts = Each (λ text. first_word text ≢ word) texts

-- One of the texts, which begins with this word, and none before it does.
pub record IsFirstOf (word : List ℕ) (texts : List (List ℕ)) (text : List ℕ) : Type 0 where
  pub before : List (List ℕ)
  pub others : List (List ℕ)
  pub among : texts ≡ before ++ text ∷ others
  pub begins : first_word text ≡ word
  pub first : NoneBegins word before

-- the least number of characters put in, taken out or replaced that leads from one text to another
abbrev pub distance : List ℕ → List ℕ → ℕ
distance from to = levenshtein_row nat_eq (chars from) (chars to) (length (chars to))

-- how far the first word of a text is from a word
abbrev pub edits : List ℕ → Bor (List ℕ) → ℕ
edits word text = distance word (first_word text.now)

-- what is too far: three edits, or as many as the word has bytes
abbrev pub too_far : List ℕ → ℕ
too_far word = min (length word) 3

-- One of the texts, which isn't too far, and none of them is nearer.
pub record IsNearest (word : List ℕ) (texts : List (Bor (List ℕ))) (text : Bor (List ℕ)) : Type 0 where
  pub one : Contains texts text
  pub near : edits word text < too_far word
  pub least : All (λ other. edits word text ≤ edits word other) texts

-- all of them are too far
abbrev pub AreFar : List ℕ → List (Bor (List ℕ)) → Type 0
AreFar word texts = All (λ other. too_far word ≤ edits word other) texts
