use Rattle.tbr_kept_lines.proofs.Common.{◌||◌, ap, sym, ◌∙◌, nat_lt, list_any, line_has_content}
use Rattle.tbr_kept_lines.proofs.KeptParts.{content_of_both}
use Rattle.tbr_kept_lines.proofs.kept_lines.KeptLines.has_content.Goals as goal

pub returns-else-self : goal.returns-else-self
returns-else-self g c =
    let k = c.self.inside in
    ap (λ b. b || nat_lt 0 k.with_content) (sym c.if-self.false)
    ∙ content_of_both k.above.items k.last.items k.content_above k.with_content c.self.invariant.content_above c.self.invariant.content
    ∙ ap (list_any line_has_content) c.self.view_is
