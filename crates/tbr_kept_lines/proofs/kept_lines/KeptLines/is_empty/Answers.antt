use Rattle.tbr_kept_lines.proofs.Common.{not, ap, ◌∙◌, is_some_list}
use Rattle.tbr_kept_lines.proofs.KeptParts.{none_there, some_in_parts}
use Rattle.tbr_kept_lines.proofs.kept_lines.KeptLines.is_empty.Goals as goal

pub returns-else-is_empty : goal.returns-else-is_empty
returns-else-is_empty g c =
    let k = c.self.inside in
    c.if-is_empty.false ∙ some_in_parts g.T.PartialEq.eq k.above.items k.last.items c.self.invariant.parts (c.if-is_empty.ensures ∙ none_there k.above.items _ k.above.ok.0)
    ∙ ap (λ ls. not (is_some_list ls)) c.self.view_is
