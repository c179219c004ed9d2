use Rattle.tbr_kept_lines.proofs.Common.{◌∙◌, subst, on_ok_weaker, Pushes}
use Rattle.tbr_kept_lines.proofs.Prefixes.{texts_with, merged_with}
use Rattle.tbr_kept_lines.proofs.prefixed_lines.PrefixedLines.push_to.Goals as goal

pub push_after-requires-clause-first : goal.push_after-requires-clause-first
push_after-requires-clause-first g c = (merged_with g.T.PartialEq.eq c.self.inside.prefixes c.none.result c.unwrap_or-first.result c.none.ensures c.unwrap_or-first.ensures c.self.invariant).0

pub push_after-requires-clause-others : goal.push_after-requires-clause-others
push_after-requires-clause-others g c = (merged_with g.T.PartialEq.eq c.self.inside.prefixes c.none.result c.unwrap_or-first.result c.none.ensures c.unwrap_or-first.ensures c.self.invariant).1

pub returns : goal.returns
returns g c =
    let ended = c.self.inside.ended in
    let with = texts_with c.self.inside.prefixes c.none.result c.unwrap_or-first.result c.none.ensures c.unwrap_or-first.ensures ended ∙ c.self.view_is in
    on_ok_weaker c.push_after.result (λ h. subst (λ ls. Pushes g.T.PartialEq.eq c.args.lines.now.items ls c.push_after.new.lines.items) with h) c.push_after.ensures
