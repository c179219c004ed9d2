-- What texts are read as.
use Rattle.tbr_c.proofs.Common.{◌≡◌, ℕ, List, Bool, Result, Ok, Err, refl, ap, ◌∙◌, Fault, NotUtf8}
use Rattle.std.proofs.Common.{true, false, IsUtf8, if◌then◌else◌}
use Rattle.std.proofs.lemmas.Str.{IsUtf8-from_is_utf8, is_utf8-from_IsUtf8}
use Rattle.std.specs.Str.{is_utf8}
use Rattle.tbr_model.specs.declared.white_space.WhiteSpace.{WhiteSpace}
use Rattle.tbr_c.specs.Arguments.{and_then, text_read, mode_named, extent_of_text, extent_asked}

pub read_text : (bytes : List ℕ) → IsUtf8 bytes → text_read bytes ≡ Ok bytes
read_text bytes well = ap (λ (b : Bool). if b then Ok bytes else Err NotUtf8) (is_utf8-from_IsUtf8 bytes well)

pub read_no_text : (bytes : List ℕ) → (IsUtf8 bytes → ⊥) → text_read bytes ≡ Err NotUtf8
read_no_text bytes ill = go (is_utf8 bytes) refl
  where
    go : (b : Bool) → is_utf8 bytes ≡ b → text_read bytes ≡ Err NotUtf8
    go true is = absurd (ill (IsUtf8-from_is_utf8 bytes is))
    go false is = ap (λ (b : Bool). if b then Ok bytes else Err NotUtf8) is

-- the extent of a text in a mode that is known, by what is read of it
pub extent_read : (number : ℕ) (bytes : List ℕ) (mode : WhiteSpace) (read : Result (List ℕ) Fault) →
    mode_named number ≡ Ok mode → text_read bytes ≡ read →
    extent_asked number bytes ≡ and_then read (λ text. Ok (extent_of_text mode text))
extent_read number bytes mode read named is =
    ap (λ (m : Result WhiteSpace Fault). and_then m (λ mode. and_then (text_read bytes) (λ text. Ok (extent_of_text mode text))))
    named
    ∙ ap (λ (r : Result (List ℕ) Fault). and_then r (λ text. Ok (extent_of_text mode text))) is
