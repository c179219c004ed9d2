use Rattle.std.proofs.Common.{[], ◌∷◌, refl, ◌++◌, chars, ap, ◌∙◌}
use Rattle.std.specs.Fmt.{decimal}
use Rattle.std.proofs.lemmas.Fmt.{IsAscii-decimal}
use Rattle.std.proofs.lemmas.Str.{chars-IsAscii, IsAscii-append}
use Rattle.tbr_decor.proofs.Texts.{ascii_all}
use Rattle.tbr_recorded.proofs.texts.numbered.Goals as goal

pub returns : goal.returns
returns c =
    let digits = decimal c.args.number in
    let number = 91 ∷ digits ++ 93 ∷ [] in
    let is_number = IsAscii-append (91 ∷ []) (digits ++ 93 ∷ []) (ascii_all (91 ∷ []) refl)
    (IsAscii-append digits (93 ∷ []) (IsAscii-decimal c.args.number c.ranges.number.fits) (ascii_all (93 ∷ []) refl)) in
    ap chars c.in_ok-format.ensures.ok
    ∙ chars-IsAscii (c.args.bracket.now ++ number) (IsAscii-append c.args.bracket.now number (ascii_all c.args.bracket.now c.requires) is_number)
