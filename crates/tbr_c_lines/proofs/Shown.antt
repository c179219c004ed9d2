-- Lines that are shown one after another.
use Rattle.std.proofs.Common.{◌≡◌, ℕ, inl, List, String, string_bytes, [], ◌∷◌, ◌++◌, refl, sym, ap, subst, ◌∙◌, append_assoc, append-nil}
use Rattle.tbr_tagged.specs.View.{chars_of}
use Rattle.tbr_c_lines.specs.Copied.{IsCopied}
use Rattle.tbr_c_lines.specs.Formats.{AreShown, ShowsRest, CopiesShown, lines_to_show}
use Rattle.tbr_c_lines.specs.declared.formats.Format.{Format}
use Rattle.tbr_c_lines.specs.declared.lines.Rest.{Rest}
use Rattle.tbr_c_lines.specs.declared.lines.Rest.TheVariants.{Bare, Rich, Text}
use Rattle.tbr_c_lines.proofs.Places.{encodes_back}

-- one line more
pub one_more_shown : {L : Type 0} (Shows : L → List ℕ → Type 0) (lines : List L) (line : L) (cs more : List ℕ) → AreShown Shows lines cs → Shows line more →
    AreShown Shows (lines ++ line ∷ []) (cs ++ more)
one_more_shown Shows [] line cs more h here = (more, [], here, refl, ap (λ (xs : List ℕ). xs ++ more) h ∙ sym (append-nil more))
one_more_shown Shows (l ∷ lines) line cs more h here =
    (h.0, h.1 ++ more, h.2, one_more_shown Shows lines line h.1 more h.3 here, ap (λ (xs : List ℕ). xs ++ more) h.4 ∙ append_assoc h.0 h.1 more)

-- a copy of a text that shows the lines that are left
pub copied_shown : {Z : Type 0} (format : Format) (rest : Rest) (text : String Z) (before after : List ℕ) (old needed status : ℕ) →
    ShowsRest format rest (chars_of text) → IsCopied (string_bytes text) before after needed status → CopiesShown format (lines_to_show rest) before after old needed status
copied_shown format (Bare lines) text before after old needed status shows copied =
    inl (chars_of text, shows, subst (λ bytes. IsCopied bytes before after needed status) (sym (encodes_back text)) copied)
copied_shown format (Rich lines) text before after old needed status shows copied =
    inl (chars_of text, shows, subst (λ bytes. IsCopied bytes before after needed status) (sym (encodes_back text)) copied)
copied_shown format (Text whole) text before after old needed status shows copied = absurd shows
