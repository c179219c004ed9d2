use Rattle.tbr_kept_lines.proofs.Common.{◌≡◌, false, true, ap, sym, ◌∙◌, rules, chars, on_ok_weaker, map, line_seen}
use Rattle.tbr_kept_lines.proofs.Prefixes.{next_prefix, prefix_if_none, texts_more, some_shown}
use Rattle.tbr_kept_lines.proofs.kept_lines.KeptLines.append_part.Goals as goal
use Rattle.tbr_kept_lines.proofs.kept_lines.KeptLines.append_part.Goals.{then-is_empty, else-is_empty}

pub push_part-requires : goal.push_part-requires
push_part-requires g c = search (rules, some_shown, c.in_ok-ended.ensures, c.requires.part.some)

pub returns : goal.returns
returns g c =
    let eq = g.T.PartialEq.eq in
    let tag = c.args.tag.now in
    let first = chars c.args.first.now in
    let others = chars c.args.others.now in
    let before = c.args.part.before in
    let next : chars c.if-is_empty.next.now ≡ next_prefix eq tag first others (map line_seen before.items) =
    elim c.if-is_empty.branch [
      | then-is_empty w ↦ ap (λ n. chars n.now) w.next-is ∙ prefix_if_none eq tag first others before.items before.len true before.ok.0 (sym w.if-is_empty.true ∙ c.is_empty.ensures)
      | else-is_empty w ↦ ap (λ n. chars n.now) w.next-is ∙ prefix_if_none eq tag first others before.items before.len false before.ok.0 (sym w.if-is_empty.false ∙ c.is_empty.ensures)
    ] in
    on_ok_weaker c.push_part.result
    (texts_more eq tag first others (map line_seen before.items) c.args.self.now c.extend_prefixed.new.self
    c.push_part.new.self c.args.part.ended c.in_ok-ended.ended (chars c.if-is_empty.next.now) next
    c.in_ok-extend_prefixed.ensures c.in_ok-ended.ensures)
    c.push_part.ensures
