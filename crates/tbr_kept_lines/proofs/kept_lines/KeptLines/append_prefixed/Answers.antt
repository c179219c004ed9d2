use Rattle.tbr_kept_lines.proofs.Common.{◌++◌, refl, ap, sym, ◌∙◌, subst, map, chars, Each, on_ok_weaker, line_seen, parts_seen, HoldsPart, prefixed_lines, Appends}
use Rattle.tbr_kept_lines.proofs.KeptParts.{each_at}
use Rattle.tbr_kept_lines.proofs.ItemsLeft.{items_left, items_taken}
use Rattle.tbr_kept_lines.proofs.Prefixes.{part_more, prefixed_more}
use Rattle.tbr_kept_lines.proofs.kept_lines.KeptLines.append_prefixed.Goals as goal
use Rattle.tbr_kept_lines.proofs.kept_lines.KeptLines.append_prefixed.Goals.{In-Some}

holds : (g : _) (c : In-Some g) → HoldsPart g.T.PartialEq.eq c.in-Some.part
holds g c =
    let start = c.into_iter-part-iterator.result in
    let whole =
    sym c.into_iter-part-iterator.ensures.into_iter_gives.0
    ∙ items_left start start c.loop-part.part-iterator c.next.new.self c.loop-part.yielded c.in-Some.part refl
    c.loop-part.yielded_by c.in-Some.ensures.steps.0 in
    each_at (HoldsPart g.T.PartialEq.eq) c.loop-part.yielded c.in-Some.part _ (subst (Each (HoldsPart g.T.PartialEq.eq)) whole c.other.invariant.parts)

pub append_part-requires : goal.append_part-requires
append_part-requires g c = record { part = holds g (goal.at.append_part-requires g c).In-Some }

pub loop-part-preserved : goal.loop-part-preserved
loop-part-preserved g c =
    let inv = c.loop-part.invariant in
    let (lines, prefix) =
    part_more g.T.PartialEq.eq c.args.tag.now (chars c.args.first.now) (chars c.args.others.now)
    c.loop-part.yielded c.in-Some.part c.args.self.now c.loop-part.self c.append_part.new.self (chars c.loop-part.next.now)
    (holds g (goal.at.loop-part-preserved g c).In-Some) inv.prefix inv.lines c.in_ok-append_part.ensures in
    record {
      lines = lines;
      prefix = prefix;
      utf8 = c.utf8.others;
    }

pub returns : goal.returns
returns g c =
    let eq = g.T.PartialEq.eq in
    let tag = c.args.tag.now in
    let first = chars c.args.first.now in
    let others = chars c.args.others.now in
    let start = c.into_iter-part-iterator.result in
    let inv = c.loop-part.invariant in
    let all =
    sym
    (items_taken start start c.loop-part.part-iterator c.next.new.self c.loop-part.yielded refl
    c.loop-part.yielded_by c.in-None.ensures.steps) ∙ c.into_iter-part-iterator.ensures.into_iter_gives.0 in
    let last = map line_seen c.other.inside.last.items in
    on_ok_weaker c.extend_prefixed.result
    (λ h. subst (λ ls. Appends eq c.args.self.now (prefixed_lines tag first others ls) c.extend_prefixed.new.self) (ap (λ ps. parts_seen ps ++ last) all ∙ c.other.view_is)
    (prefixed_more eq tag first others (parts_seen c.loop-part.yielded) last c.args.self.now c.loop-part.self c.extend_prefixed.new.self (chars c.loop-part.next.now) inv.prefix inv.lines h))
    c.extend_prefixed.ensures
