use Rattle.std.proofs.Common.{[], ◌∷◌, refl, ◌++◌, chars, string_bytes, ap, sym, ◌∙◌, append_assoc}
use Rattle.std.specs.Fmt.{decimal}
use Rattle.std.proofs.lemmas.Str.{chars-append, IsUtf8-string_bytes}
use Rattle.tbr_decor.proofs.Texts.{ascii_all, ascii_first}
use Rattle.tbr_decor.proofs.usual.numbered.Goals as goal

pub returns : goal.returns
returns c =
    let digits = decimal c.args.number in
    let number = string_bytes c.in_ok-text.text in
    let url = c.args.url.now in
    let bytes = c.in_ok-push_str-2.ensures.bytes ∙ ap (λ bs. bs ++ url) c.in_ok-push_str.ensures.bytes ∙ append_assoc number (58 ∷ 32 ∷ []) url in
    ap chars bytes ∙ chars-append number (58 ∷ 32 ∷ url) (IsUtf8-string_bytes c.in_ok-text.text)
    ∙ ap (λ cs. cs ++ chars (58 ∷ 32 ∷ url)) c.in_ok-text.ensures
    ∙ ap (λ cs. (91 ∷ digits ++ 93 ∷ []) ++ cs) (ascii_first (58 ∷ 32 ∷ []) url (ascii_all (58 ∷ 32 ∷ []) refl))
    ∙ ap (λ cs. 91 ∷ cs) (append_assoc digits (93 ∷ []) (58 ∷ 32 ∷ chars url) ∙ sym (append_assoc digits (93 ∷ 58 ∷ 32 ∷ []) (chars url)))
