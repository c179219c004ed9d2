-- The columns that terminals give characters.
use Rattle.std.specs.Prelude.{◌≡◌, ℕ, ◌≤◌, ◌==◌, Bool, true, false, ◌||◌, if◌then◌else◌, Option, Some, None, IfSome, IsTrue, min}
use Rattle.std.specs.Int.{is_in_range}
use Rattle.std.specs.Option.{option_map}
use Rattle.std.proofs.Common.{arith}
use Rattle.unicode_width.specs.Width.{char_width}
use Rattle.tbr_model.specs.Width.{takes_one_column, stroke}

-- those of `unicode_width`, but never more than two, and with the columns that are fixed
abbrev pub unicode_columns : ℕ → Option ℕ
unicode_columns c =
    if takes_one_column c then Some 1
    else if c == stroke then Some 0
    else option_map (λ n. min n 2) (char_width false c)

-- Blocks whose characters all take two columns: Han and Yi, Hangul, hiragana, katakana, their punctuation, and
-- full-width forms.
abbrev pub is_in_wide_block : ℕ → Bool
is_in_wide_block c =
    is_in_range 0x3400 0xA48C c || is_in_range 0xAC00 0xD7A3 c || is_in_range 0x3041 0x3096 c
    || is_in_range 0x309B 0x30FF c || is_in_range 0x3001 0x3029 c || is_in_range 0xFF01 0xFF60 c

pub unicode_columns_at_most_two : (c : ℕ) → IfSome (unicode_columns c) (λ n. n ≤ 2)
unicode_columns_at_most_two c = go (takes_one_column c) (c == stroke) (char_width false c)
  where
    go : (p q : Bool) (o : Option ℕ) →
        IfSome (if p then Some 1 else if q then Some 0 else option_map (λ n. min n 2) o) (λ n. n ≤ 2)
    go true q o = omega arith
    go false true o = omega arith
    go false false None = tt
    go false false (Some n) = omega arith

pub unicode_columns_drawn : (c : ℕ) → IsTrue (takes_one_column c) → unicode_columns c ≡ Some 1
unicode_columns_drawn c h = rw h
