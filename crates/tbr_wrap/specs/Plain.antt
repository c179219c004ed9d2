-- Characters that join a word where they are, at which no word ends, and words of them that go on a line at once.
use Rattle.std.specs.Prelude.{◌≡◌, ◌≤◌, ◌==◌, ℕ, Bool, true, false, ◌&&◌, ◌||◌, if◌then◌else◌, Option, None, Some, unwrap_or, List, [], ◌∷◌, ◌++◌, fold, length, take, chars}
use Rattle.std.specs.Char.{is_ascii_graphic}
use Rattle.std.specs.List.{AllByRecursion as Each}
use Rattle.std.specs.Str.{IsUtf8}
use Rattle.tbr_model.specs.Codes.{space_character}
use Rattle.tbr_model.specs.Run.{is_kept, is_break}
use Rattle.tbr_model.specs.Width.{width_of_text}
use Rattle.tbr_wrap.specs.declared.plain.Stretch.{Stretch}

-- the columns of printable ASCII but for the space
abbrev pub plain_width : (ℕ → Option ℕ) → ℕ → Option ℕ
plain_width columns c = if is_ascii_graphic c then columns c else None

-- printable ASCII, other than the space, of one column
abbrev pub is_narrow : (ℕ → Option ℕ) → ℕ → Bool
is_narrow columns c = unwrap_or (plain_width columns c) 0 == 1

-- the same, or the space where it joins a word too
abbrev pub is_plain : (ℕ → Option ℕ) → Bool → ℕ → Bool
is_plain columns spaced c = is_narrow columns c || (spaced && c == space_character)

abbrev pub ArePlain : (ℕ → Option ℕ) → Bool → List ℕ → Type 0
ArePlain columns spaced cs = Each (λ c. is_plain columns spaced c ≡ true) cs

abbrev pub begins_with_space : List ℕ → Bool
begins_with_space [] = false
begins_with_space (c ∷ cs) = c == space_character

-- A character joins the word where it is: one at which no word ends, or the space where it joins a word too.
abbrev pub joins : (ℕ → Option ℕ) → Bool → ℕ → Bool
joins columns spaced c = is_kept columns c || (spaced && c == space_character)

abbrev pub JoinWord : (ℕ → Option ℕ) → Bool → List ℕ → Type 0
JoinWord columns spaced cs = Each (λ c. joins columns spaced c ≡ true) cs

-- The characters join the word, one after the other. Where white space is kept, spaces do inside the word, and so after
-- its first character.
abbrev pub JoinInTurn : (ℕ → Option ℕ) → Bool → Bool → List ℕ → Type 0
JoinInTurn columns keeps inside [] = Unit {0}
JoinInTurn columns keeps inside (c ∷ cs) = (joins columns (keeps && inside) c ≡ true) × JoinWord columns keeps cs

-- the columns of a character at which no word ends
abbrev pub kept_width : (ℕ → Option ℕ) → ℕ → Option ℕ
kept_width columns c = if is_break c then None else columns c

-- What a text begins with, by its bytes, and how many characters these are.
pub record IsFront (text : List ℕ) (bytes count : ℕ) : Type 0 where
  pub within : bytes ≤ length text
  pub utf8 : IsUtf8 (take bytes text)
  pub number : count ≡ length (chars (take bytes text))

-- The same with the columns, of characters that join the word.
pub record IsStretch (columns : ℕ → Option ℕ) (keeps inside : Bool) (text : List ℕ) (s : Stretch) : Type 0 where
  pub front : IsFront text s.bytes s.count
  pub width : s.columns ≡ width_of_text columns (chars (take s.bytes text))
  pub join : JoinInTurn columns keeps inside (chars (take s.bytes text))

-- Whether a word is under way after one more character, where narrow words come with one space between two. None
-- where the character isn't one of these.
abbrev pub reads : (ℕ → Option ℕ) → Option Bool → ℕ → Option Bool
reads columns None c = None
reads columns (Some inside) c =
    if c == space_character then (if inside then Some false else None)
    else (if is_narrow columns c then Some true else None)

-- narrow words with one space between two, and one after the last
pub record AreWords (columns : ℕ → Option ℕ) (cs : List ℕ) : Type 0 where
  pub front : List ℕ
  pub is : cs ≡ front ++ space_character ∷ []
  pub read : fold (reads columns) (Some false) front ≡ Some true
