-- Texts without control characters.
use Rattle.std.specs.Prelude.{◌≡◌, ◌≢◌, ◌↔◌, ℕ, false, IsTrue, Option, None, List, encode_utf8_all}
use Rattle.std.specs.Char.{is_control}
use Rattle.std.specs.List.{AllByRecursion as Each}
use Rattle.tbr_model.specs.Codes.{newline_character}

-- Control characters have no columns, and all others have.
abbrev pub ControlsHaveNone : (ℕ → Option ℕ) → Type 0
ControlsHaveNone columns = (c : ℕ) → (columns c ≡ None) ↔ IsTrue (is_control c)

-- the bytes of a text that has no control characters but newlines
abbrev pub HasNoControls : List ℕ → Type 0
HasNoControls text =
    (cs : List ℕ) × (text ≡ encode_utf8_all cs)
    × Each (λ c. c ≢ newline_character → is_control c ≡ false) cs
