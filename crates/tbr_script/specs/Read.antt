-- Numbers and texts of a script, read from how they are written. What isn't written so gives nothing.
use Rattle.std.specs.Prelude.{ℕ, ◌^◌, ◌==◌, nat_lt, ◌&&◌, Bool, true, if◌then◌else◌, Option, None, Some, List, [], ◌∷◌, ◌++◌, length, take, drop, encode_utf8}
use Rattle.std.specs.Char.{digit_value}
use Rattle.std.specs.Option.{option_map, option_and_then}
use Rattle.std.specs.Str.{bytes_eq, all_scalars}
use Rattle.std.specs.Str.Parse.{digits_value}
use Rattle.tbr_script.specs.Script.{backslash, character_by_letter, bar}

-- a value, if this is so
abbrev pub when : {X : Type 0} → Bool → X → Option X
when b x = if b then Some x else None

-- ---- numbers

-- one digit or more in a radix, and nothing else
abbrev pub all_digits : ℕ → List ℕ → Bool
all_digits radix [] = true
all_digits radix (c ∷ cs) = nat_lt (digit_value c) radix && all_digits radix cs

abbrev pub is_numeral : ℕ → List ℕ → Bool
is_numeral radix ds = nat_lt 0 (length ds) && all_digits radix ds

-- a number within `usize`, a size of at least 1, and a number up to 255
abbrev pub is_number : List ℕ → Bool
is_number ds = is_numeral 10 ds && nat_lt (digits_value 10 ds) (2 ^ 64)

abbrev pub number_read : List ℕ → Option ℕ
number_read ds = when (is_number ds) (digits_value 10 ds)

abbrev pub size_read : List ℕ → Option ℕ
size_read ds = when (is_number ds && nat_lt 0 (digits_value 10 ds)) (digits_value 10 ds)

abbrev pub byte_read : List ℕ → Option ℕ
byte_read ds = when (is_numeral 10 ds && nat_lt (digits_value 10 ds) (2 ^ 8)) (digits_value 10 ds)

-- one to six hexadecimal digits that name a character
abbrev pub names_character : List ℕ → Bool
names_character ds = is_numeral 16 ds && (nat_lt (length ds) 7 && all_scalars (digits_value 16 ds ∷ []))

abbrev pub character_read : List ℕ → Option ℕ
character_read ds = when (names_character ds) (digits_value 16 ds)

-- ---- texts

-- Where a reader is: between bytes that mean themselves and escapes, after a backslash, after its `u`, or in braces,
-- after these digits.
pub data TextPlace : Type 0 where
  in_text : TextPlace
  in_escape : TextPlace
  at_brace : TextPlace
  in_braces : List ℕ → TextPlace

-- the letter `u`, and braces
abbrev pub letter_u : ℕ
letter_u = 117

abbrev pub opening_brace : ℕ
opening_brace = 123

abbrev pub closing_brace : ℕ
closing_brace = 125

-- a character before a text
abbrev pub with_character : ℕ → Option (List ℕ) → Option (List ℕ)
with_character c text = option_map (λ bytes. encode_utf8 c ++ bytes) text

-- a text from here on
abbrev pub read_from : TextPlace → List ℕ → Option (List ℕ)
read_from in_text [] = Some []
read_from in_escape [] = None
read_from at_brace [] = None
read_from (in_braces ds) [] = None
read_from in_text (b ∷ bs) =
    if b == backslash then read_from in_escape bs else option_map (λ bytes. b ∷ bytes) (read_from in_text bs)
read_from in_escape (b ∷ bs) =
    if b == letter_u then read_from at_brace bs
    else option_and_then (λ c. with_character c (read_from in_text bs)) (character_by_letter b)
read_from at_brace (b ∷ bs) = if b == opening_brace then read_from (in_braces []) bs else None
read_from (in_braces ds) (b ∷ bs) =
    if b == closing_brace
    then option_and_then (λ c. with_character c (read_from in_text bs)) (character_read ds)
    else read_from (in_braces (ds ++ b ∷ [])) bs

abbrev pub text_read : List ℕ → Option (List ℕ)
text_read writing = read_from in_text writing

-- ---- two texts

-- what is before the first bar and after it
abbrev pub split_at_bar : List ℕ → Option (List ℕ × List ℕ)
split_at_bar [] = None
split_at_bar (b ∷ bs) =
    if bytes_eq (take 3 (b ∷ bs)) bar then Some ([], drop 3 (b ∷ bs))
    else option_map (λ parts. (b ∷ parts.0, parts.1)) (split_at_bar bs)

abbrev pub texts_read : List ℕ → Option (List ℕ × List ℕ)
texts_read writing =
    option_and_then (λ parts.
    option_and_then (λ one. option_map (λ other. (one, other)) (text_read parts.1)) (text_read parts.0))
    (split_at_bar writing)
