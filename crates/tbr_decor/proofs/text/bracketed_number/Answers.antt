use Rattle.std.proofs.Common.{[], ◌∷◌, refl, ◌++◌, chars, ap, ◌∙◌}
use lib.Utf8.{encode}
use Rattle.std.specs.Fmt.{decimal}
use Rattle.std.proofs.lemmas.Fmt.{IsAscii-decimal}
use Rattle.std.proofs.lemmas.Str.{chars-IsAscii, IsAscii-append}
use Rattle.tbr_decor.proofs.Texts.{ascii_all}
use Rattle.tbr_decor.proofs.text.bracketed_number.Goals as goal

pub returns : goal.returns
unfolding encode
returns c =
    let digits = decimal c.args.number in
    let opened = c.in_ok-push.ensures.bytes ∙ ap (λ bs. bs ++ 91 ∷ []) c.in_ok-text.ensures.bytes in
    let counted = c.in_ok-push_str.ensures.bytes ∙ ap (λ bs. bs ++ c.format-digits.result.now) opened in
    let bytes = c.in_ok-push-2.ensures.bytes ∙ ap (λ bs. bs ++ 93 ∷ []) (counted ∙ ap (λ ds. 91 ∷ ds) c.format-digits.ensures.text) in
    let ends = IsAscii-append digits (93 ∷ []) (IsAscii-decimal c.args.number c.ranges.number.fits) (ascii_all (93 ∷ []) refl) in
    ap chars bytes ∙ chars-IsAscii (91 ∷ digits ++ 93 ∷ []) (IsAscii-append (91 ∷ []) (digits ++ 93 ∷ []) (ascii_all (91 ∷ []) refl) ends)
