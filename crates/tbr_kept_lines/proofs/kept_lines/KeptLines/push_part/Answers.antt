use Rattle.tbr_kept_lines.proofs.Common.{◌≡◌, true, false, ◌++◌, [], map, refl, ap, sym, ◌∙◌, subst, append-nil, rules, filter, Each, list_any, has_character, IsMergedText, parts_seen, HoldsPart}
use Rattle.tbr_kept_lines.proofs.Common.{line_seen, line_has_content, Part}
use Rattle.std.specs.Prelude.{length}
use Rattle.tbr_kept_lines.proofs.KeptParts.{each_after, part_after, content_after}
use Rattle.tbr_kept_lines.proofs.kept_lines.KeptLines.push_part.Goals as goal
use Rattle.tbr_kept_lines.proofs.kept_lines.KeptLines.push_part.Goals.{then-has_content, else-has_content}

pub invariant_of-self-2 : goal.invariant_of-self-2
invariant_of-self-2 g c =
    let eq = g.T.PartialEq.eq in
    let h = c.self.invariant in
    let k = c.self.inside in
    let part : Part g.row.T.Denot = record { before = c.replace-before.result; ended = c.args.ended } in
    let items = c.in_ok-push.ensures.items in
    let last = c.replace-before.ensures.value in
    let none : c.replace-before.new.dest.items ≡ [] = ap (λ v. v.items) c.replace-before.ensures.after ∙ c.new.ensures.items in
    let whole = ap (list_any line_has_content) (sym c.self.view_is) ∙ ap (λ ls. list_any line_has_content (parts_seen k.above.items ++ map line_seen ls)) (ap (λ v. v.items) (sym last)) in
    let later = ap (λ ps. list_any line_has_content (parts_seen ps)) (sym items) in
    record {
      parts =
          subst (λ ps. Each (HoldsPart eq) ps) (sym items)
          (each_after (HoldsPart eq) k.above.items part h.parts (record { merged = subst (λ ls. Each (IsMergedText eq) ls) (ap (λ v. v.items) (sym last)) h.merged; some = c.requires }));
      content_above = elim c.if-has_content.branch [
        | then-has_content w ↦ w.has_content-is ∙ w.if-has_content.true
            ∙ content_after k.above.items part true (list_any has_character part.ended)
            (sym w.if-has_content.true ∙ c.has_content.ensures ∙ whole) refl ∙ later
        | else-has_content w ↦ w.has_content-is
            ∙ content_after k.above.items part false w.has_character-has_content.result
            (sym w.if-has_content.false ∙ c.has_content.ensures ∙ whole) w.has_character-has_content.ensures ∙ later
      ];
      merged = subst (λ ls. Each (IsMergedText eq) ls) (sym none) tt;
      content = ap (λ ls. length (filter line_has_content (map line_seen ls))) (sym none);
    }

pub returns : goal.returns
returns g c = search (rules, append-nil, part_after, c.replace-before.ensures.after, c.new.ensures.items, c.in_ok-push.ensures.items, c.replace-before.ensures.value, c.self.view_is)
