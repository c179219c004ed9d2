-- The characters whose columns are fixed.
use Rattle.std.specs.Prelude.{ℕ, ◌+◌, ◌==◌, Bool, ◌||◌, Option, unwrap_or, List, [], ◌∷◌}
use Rattle.tbr_model.specs.Codes.{space_character, slash}

-- ─ │ ┌ ┐ └ ┘ ├ ┤ ┬ ┴ ┼
abbrev pub draws_border : ℕ → Bool
draws_border c =
    (c == 0x2500) || (c == 0x2502) || (c == 0x250C) || (c == 0x2510) || (c == 0x2514) || (c == 0x2518)
    || (c == 0x251C) || (c == 0x2524) || (c == 0x252C) || (c == 0x2534) || (c == 0x253C)

-- the space, the slash, and what borders are drawn with
abbrev pub takes_one_column : ℕ → Bool
takes_one_column c = (c == space_character) || (c == slash) || draws_border c

-- U+0336, which strikes out the character before it
abbrev pub stroke : ℕ
stroke = 0x0336

-- a text's columns: the sum over its characters, one without a width counting 0
abbrev pub width_of_text : (ℕ → Option ℕ) → List ℕ → ℕ
width_of_text columns [] = 0
width_of_text columns (c ∷ cs) = unwrap_or (columns c) 0 + width_of_text columns cs
