use Rattle.std.proofs.Common.{[], ◌∷◌, ◌++◌, chars, ap, ◌∙◌}
use lib.Utf8.{encode}
use Rattle.tbr_decor.proofs.Texts.{ascii_header, repeated}
use Rattle.tbr_decor.proofs.text.header.Goals as goal

pub returns : goal.returns
unfolding encode
returns c =
    ap chars (c.in_ok-push.ensures.bytes ∙ ap (λ bs. bs ++ 32 ∷ []) (c.in_ok-text.ensures.bytes ∙ repeated c.args.level 35)) ∙ ascii_header c.args.level
