-- Texts that begin with characters of one byte and one column each.
use Rattle.tbr_tagged.proofs.Common.{◌≡◌, ℕ, ◌+◌, ◌≤◌, Option, List, [], ◌∷◌, ◌++◌, length, take, drop, chars, refl, ap, sym, ◌∙◌, arith, IsUtf8, IsAscii, IsCharBoundary, take-append-drop}
use Rattle.tbr_tagged.proofs.Common.{chars-append, chars-IsAscii, width_of_text, AreNarrow}
use Rattle.std.proofs.lemmas.List.{length-take-le}
use Rattle.std.proofs.lemmas.Str.{IsUtf8-from_ascii, IsCharBoundary-from_take}
use Rattle.std.proofs.lemmas.Str.Ascii.{IsAscii-nil, IsAscii-cons}
use Rattle.tbr_tagged.proofs.TextColumns.{width_of_text-append}

module _ (columns : ℕ → Option ℕ) where
  pub narrow_ascii : (cs : List ℕ) → AreNarrow columns cs → IsAscii cs
  narrow_ascii [] are = IsAscii-nil
  narrow_ascii (c ∷ cs) are = IsAscii-cons c cs are.0.0 (narrow_ascii cs are.1)

  pub narrow_width : (cs : List ℕ) → AreNarrow columns cs → width_of_text columns cs ≡ length cs
  narrow_width [] are = refl
  narrow_width (c ∷ cs) are = rw are.0.1 (omega (arith, narrow_width cs are.1))

  module _ (text : List ℕ) (n : ℕ) (utf8 : IsUtf8 text) (within : n ≤ length text) (are : AreNarrow columns (take n text)) where
    ascii : IsAscii (take n text)
    ascii = narrow_ascii (take n text) are

    pub narrow_boundary : IsCharBoundary text n
    narrow_boundary = IsCharBoundary-from_take text n utf8 within (IsUtf8-from_ascii (take n text) ascii)

    -- they are characters as they are bytes
    pub narrow_characters : chars text ≡ take n text ++ chars (drop n text)
    narrow_characters =
        ap chars (sym (take-append-drop n text))
        ∙ chars-append (take n text) (drop n text) (IsUtf8-from_ascii (take n text) ascii)
        ∙ ap (λ cs. cs ++ chars (drop n text)) (chars-IsAscii (take n text) ascii)

    -- the columns of the whole text
    pub narrow_columns : width_of_text columns (chars text) ≡ n + width_of_text columns (chars (drop n text))
    narrow_columns =
        omega
        (arith, ap (width_of_text columns) narrow_characters, width_of_text-append columns (take n text) (chars (drop n text)), narrow_width (take n text) are, length-take-le n text within)
