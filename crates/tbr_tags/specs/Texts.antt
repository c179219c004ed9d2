-- Texts are equal exactly where their characters are the same, and copies of them are equal.
use Rattle.std.specs.Prelude.{◌≡◌, ◌↔◌, true, List, ℕ, String, nat_eq, chars, string_bytes, IsTrue}
use Rattle.std.proofs.Common.{sym, ap, ◌∙◌, subst}
use Rattle.std.specs.Cmp.Lexicographic.{pointwise, same_text}
use Rattle.std.specs.String.{string_eq, string_eq_equiv}
use Rattle.std.specs.Str.{encode_utf8_all}
use Rattle.std.proofs.lemmas.Str.{encodes-chars, IsUtf8-string_bytes}

pub same_characters : {Z : Type 0} (s t : String Z) → IsTrue (string_eq s t) →
    chars (string_bytes s) ≡ chars (string_bytes t)
same_characters s t h = ap chars (same_text (string_bytes s) (string_bytes t) (sym h))

pub equal_text : {Z : Type 0} (s t : String Z) → chars (string_bytes s) ≡ chars (string_bytes t) →
    IsTrue (string_eq s t)
equal_text s t e =
    let bytes : string_bytes s ≡ string_bytes t =
    sym (encodes-chars (string_bytes s) (IsUtf8-string_bytes s)) ∙ ap encode_utf8_all e
    ∙ encodes-chars (string_bytes t) (IsUtf8-string_bytes t) in
    subst (λ (bs : List ℕ). pointwise nat_eq (string_bytes s) bs ≡ true) bytes (string_eq_equiv.refl s)

pub texts_equal_by_meaning : {Z : Type 0} (s t : String Z) →
    IsTrue (string_eq s t) ↔ (chars (string_bytes s) ≡ chars (string_bytes t))
texts_equal_by_meaning s t = (same_characters s t, equal_text s t)

pub text_copies_equal : {Z : Type 0} (s t : String Z) → string_bytes t ≡ string_bytes s → string_eq s t ≡ true
text_copies_equal s t copy = equal_text s t (ap chars (sym copy))
