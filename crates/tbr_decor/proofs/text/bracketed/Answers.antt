use Rattle.std.proofs.Common.{[], ◌∷◌, refl, ◌++◌, chars, ap, ◌∙◌}
use Rattle.tbr_decor.proofs.Texts.{ascii_all, ascii_first, ascii_last}
use Rattle.tbr_decor.proofs.text.bracketed.Goals as goal

pub returns : goal.returns
returns c =
    ap chars c.in_ok-format.ensures.ok ∙ ascii_first (91 ∷ []) (c.args.text.now ++ 93 ∷ []) (ascii_all (91 ∷ []) refl)
    ∙ ap (λ cs. 91 ∷ cs) (ascii_last c.args.text.now (93 ∷ []) c.utf8.text (ascii_all (93 ∷ []) refl))
