use Rattle.tbr_kept_lines.proofs.Common.{◌++◌, ap, ◌∙◌, chars, on_ok_weaker, chars_of, lines_characters, prefixed_characters}
use Rattle.tbr_kept_lines.proofs.Prefixes.{shown_with}
use Rattle.tbr_kept_lines.proofs.prefixed_lines.PrefixedLines.append_to.Goals as goal

pub returns : goal.returns
returns g c =
    let ended = c.self.inside.ended in
    let old = chars_of c.args.text.now in
    on_ok_weaker c.append_after.result
    (λ h. h ∙ (λ i. old ++ prefixed_characters ((ap chars c.as_str.ensures.value ∙ c.in_ok-first.ensures) i) ((ap chars c.as_str-2.ensures.value ∙ c.in_ok-others.ensures) i) ended)
    ∙ ap (λ cs. old ++ cs) (shown_with c.self.inside.prefixes c.none.result c.unwrap_or-prefixes.result c.none.ensures c.unwrap_or-prefixes.ensures ended ∙ ap lines_characters c.self.view_is))
    c.append_after.ensures
