-- Texts that are put together and copied out.
use Rattle.std.proofs.Common.{◌≡◌, ℕ, Ok, inl, List, String, string_bytes, encode_utf8_all, sym, ap, subst, ◌∙◌}
use Rattle.tbr_tagged.specs.View.{chars_of}
use Rattle.tbr_c_lines.specs.Copied.{IsCopied, CopiesMade}
use Rattle.tbr_c_lines.proofs.Places.{encodes_back}

-- a copy of a text that has these characters
pub copied_as : {Z : Type 0} (text : String Z) (cs before after : List ℕ) (old needed status : ℕ) → chars_of text ≡ cs →
    IsCopied (string_bytes text) before after needed status → CopiesMade (Ok (encode_utf8_all cs)) before after old needed status
copied_as text cs before after old needed status same copied =
    inl (subst (λ bytes. IsCopied bytes before after needed status) (sym (encodes_back text) ∙ ap encode_utf8_all same) copied)
