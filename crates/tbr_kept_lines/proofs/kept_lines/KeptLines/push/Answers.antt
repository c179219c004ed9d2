use Rattle.tbr_kept_lines.proofs.Common.{◌+◌, if◌then◌else◌, map, ap, sym, ◌∙◌, subst, filter, Each, IsMergedText, line_seen, line_has_content}
use Rattle.std.specs.Prelude.{length}
use Rattle.tbr_kept_lines.proofs.KeptParts.{each_after, content_more, one_or_none}
use Rattle.tbr_kept_lines.proofs.kept_lines.KeptLines.push.Goals as goal

pub invariant_of-self-2 : goal.invariant_of-self-2
invariant_of-self-2 g c =
    let eq = g.T.PartialEq.eq in
    let h = c.self.invariant in
    let line = c.args.line in
    let items = c.in_ok-push.ensures.items in
    record {
      parts = h.parts;
      content_above = h.content_above;
      merged = subst (λ ls. Each (IsMergedText eq) ls) (sym items) (each_after (IsMergedText eq) c.self.inside.last.items line h.merged c.requires);
      content = c.in-Some.ensures.1 ∙ ap (λ n. c.self.inside.with_content + n) (c.from-more.ensures ∙ one_or_none c.has_content.result ∙ ap (λ b. if b then 1 else 0) c.has_content.ensures)
          ∙ content_more eq line c.self.inside.last.items c.self.inside.with_content c.requires h.content
          ∙ ap (λ ls. length (filter line_has_content (map line_seen ls))) (sym items);
    }
