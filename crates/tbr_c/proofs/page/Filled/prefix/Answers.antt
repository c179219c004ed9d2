use Rattle.tbr_c.proofs.Common.{sym, ap, ◌∙◌, encode_utf8_all}
use Rattle.std.proofs.Common.{[]}
use Rattle.std.specs.String.{string_bytes}
use Rattle.std.proofs.lemmas.Str.{IsUtf8-string_bytes, encodes-chars}
use Rattle.tbr_decor.specs.Prefix.{asked_prefix}
use Rattle.tbr_c.proofs.Facts.{asked_on_top}
use Rattle.tbr_c.proofs.page.Filled.prefix.Goals as goal

pub returns-clause-text : goal.returns-clause-text
returns-clause-text g c =
    let text = c.in_ok-prefix.field-0 in
    let (r, top, is) = c.in_ok-prefix.ensures.text in
    let p = c.args.self.now.program in
    sym (encodes-chars (string_bytes text) (IsUtf8-string_bytes text))
    ∙ ap encode_utf8_all (is
    ∙ sym (asked_on_top [] (λ r. g.D.TextDecorator.prefix_text r.decorator (asked_prefix c.args.prefix)) p.stack r top))
