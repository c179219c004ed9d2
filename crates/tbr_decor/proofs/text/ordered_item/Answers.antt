use Rattle.std.proofs.Common.{[], ◌∷◌, refl, ◌++◌, chars, ap, ◌∙◌}
use Rattle.std.specs.Fmt.{signed_decimal}
use Rattle.std.proofs.lemmas.Fmt.{IsAscii-signed}
use Rattle.std.proofs.lemmas.Str.{chars-IsAscii, IsAscii-append}
use Rattle.std.proofs.Math.Facts.{to_z-of_z}
use Rattle.tbr_decor.proofs.Texts.{ascii_all}
use Rattle.tbr_decor.proofs.text.ordered_item.Goals as goal

pub returns : goal.returns
returns c =
    ap chars (c.in_ok-format.ensures.ok ∙ ap (λ z. signed_decimal z ++ 46 ∷ 32 ∷ []) (to_z-of_z c.ranges.i))
    ∙ chars-IsAscii (signed_decimal c.args.i ++ 46 ∷ 32 ∷ []) (IsAscii-append (signed_decimal c.args.i) (46 ∷ 32 ∷ []) (IsAscii-signed c.args.i c.ranges.i.sfits) (ascii_all (46 ∷ 32 ∷ []) refl))
