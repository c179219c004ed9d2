use Rattle.tbr_kept_lines.proofs.Common.{◌+◌, map, ap, sym, ◌∙◌, subst, filter, Each, IsMergedText, line_seen, line_has_content}
use Rattle.std.specs.Prelude.{length}
use Rattle.tbr_kept_lines.proofs.KeptParts.{each_append, content_appended}
use Rattle.tbr_kept_lines.proofs.kept_lines.KeptLines.extend.Goals as goal

pub invariant_of-self-2 : goal.invariant_of-self-2
invariant_of-self-2 g c =
    let h = c.self.invariant in
    let IsMerged = IsMergedText g.T.PartialEq.eq in
    let last = c.self.inside.last.items in
    let more = c.args.lines.items in
    let items = c.in_ok-append_all.ensures.ok in
    record {
      parts = h.parts;
      content_above = h.content_above;
      merged = subst (Each IsMerged) (sym items) (each_append IsMerged last more h.merged c.requires);
      content = c.in-Some.ensures.1 ∙ ap (λ n. n + c.count_content-more.result) h.content
          ∙ ap (λ n. length (filter line_has_content (map line_seen last)) + n) (c.count_content-more.ensures ∙ ap (λ ls. length (filter line_has_content (map line_seen ls))) c.deref.ensures.value)
          ∙ sym (content_appended last more) ∙ ap (λ ls. length (filter line_has_content (map line_seen ls))) (sym items);
    }
