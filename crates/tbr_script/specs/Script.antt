-- The language of scripts, by the bytes of a script.
use Rattle.std.specs.Prelude.{◌≡◌, ◌≢◌, ℕ, ◌^◌, ◌<◌, ◌≤◌, ◌==◌, if◌then◌else◌, ◌⊎◌, List, [], ◌∷◌, ◌++◌, length, flat_map, codes, encode_utf8, Option, Some, None}
use Rattle.std.specs.Char.{IsScalar}
use Rattle.std.specs.List.{AllByRecursion as Each}
use Rattle.std.specs.Str.Parse.{IsNumeral, digits_value}
use Rattle.std.specs.Borrow.{Bor}
use Rattle.tbr_model.specs.Codes.{newline_character, space_character, tab_character}
pub use Rattle.tbr_model.specs.Hard.{onto_first}

-- The lines of a script. A newline ends a line, and bytes after the last newline are a line.
abbrev pub lines_of : List ℕ → List (List ℕ)
lines_of [] = []
lines_of (b ∷ bs) = if b == newline_character then [] ∷ lines_of bs else onto_first b (lines_of bs)

-- one or more decimal digits of a value within `usize`
abbrev pub IsNumber : List ℕ → Type 0
IsNumber digits = IsNumeral 10 digits × (digits_value 10 digits < 2 ^ 64)

-- a size by its digits, which is at least 1
abbrev pub IsSize : List ℕ → ℕ → Type 0
IsSize digits size = IsNumber digits × (size ≡ digits_value 10 digits) × (0 < size)

-- one or more decimal digits of a value up to 255
abbrev pub IsByte : List ℕ → Type 0
IsByte digits = IsNumeral 10 digits × (digits_value 10 digits < 2 ^ 8)

-- one to six hexadecimal digits that name a character
abbrev pub NamesCharacter : List ℕ → Type 0
NamesCharacter digits = IsNumeral 16 digits × (length digits ≤ 6) × IsScalar (digits_value 16 digits)

abbrev pub backslash : ℕ
backslash = 92

-- the letters `n` and `t`
abbrev pub letter_n : ℕ
letter_n = 110

abbrev pub letter_t : ℕ
letter_t = 116

-- the character that a letter after a backslash means: `n` a newline, `t` a tab, a backslash itself
abbrev pub character_by_letter : ℕ → Option ℕ
character_by_letter b =
    if b == letter_n then Some newline_character
    else (if b == letter_t then Some tab_character else (if b == backslash then Some backslash else None))

-- what comes after the backslash of an escape, and the character that it means: a letter, or `u{..}` with its digits
abbrev pub IsEscape : List ℕ → ℕ → Type 0
IsEscape form c =
    ((letter : ℕ) × (form ≡ letter ∷ []) × (character_by_letter letter ≡ Some c))
    ⊎ ((digits : List ℕ) × (form ≡ codes "u{" ++ digits ++ codes "}") × NamesCharacter digits
    × (c ≡ digits_value 16 digits))

-- A piece of a text: a byte that means itself, or an escape with its character.
pub data Piece : Type 0 where
  itself : ℕ → Piece
  escape : List ℕ → ℕ → Piece

-- A backslash means nothing but the beginning of an escape.
abbrev pub IsPiece : Piece → Type 0
IsPiece (itself b) = b ≢ backslash
IsPiece (escape form c) = IsEscape form c

-- how a piece is written
abbrev pub written : Piece → List ℕ
written (itself b) = b ∷ []
written (escape form c) = backslash ∷ form

-- what a piece means
abbrev pub meant : Piece → List ℕ
meant (itself b) = b ∷ []
meant (escape form c) = encode_utf8 c

-- how a text is written, piece by piece
pub record IsText (writing text : List ℕ) : Type 0 where
  pub pieces : List Piece
  pub each : Each IsPiece pieces
  pub writes : flat_map written pieces ≡ writing
  pub means : flat_map meant pieces ≡ text

-- what is between two texts
abbrev pub bar : List ℕ
bar = codes " | "

-- Two texts, split where a bar comes first.
pub record AreSplitTexts (writing one other : List ℕ) : Type 0 where
  pub before : List ℕ
  pub after : List ℕ
  pub splits : writing ≡ before ++ (bar ++ after)
  pub first : (xs ys : List ℕ) → writing ≡ xs ++ (bar ++ ys) → length before ≤ length xs
  pub one_is : IsText before one
  pub other_is : IsText after other

-- ---- words

-- The words of a line. Exactly one space is between two, so a space too many makes an empty word.
abbrev pub words_of : List ℕ → List (List ℕ)
words_of [] = [] ∷ []
words_of (b ∷ bs) = if b == space_character then [] ∷ words_of bs else onto_first b (words_of bs)

-- the words still to come
abbrev pub words_after : Option (Bor (List ℕ)) → List (List ℕ)
words_after None = []
words_after (Some rest) = words_of rest.now
