use Rattle.tbr_kept_lines.proofs.Common.{◌≡◌, refl, ◌++◌, map, ap, sym, ◌∙◌, subst, AllZip, Each, parts_seen, HoldsPart, line_seen, SameSeen}
use Rattle.tbr_kept_lines.proofs.KeptParts.{part_listed, all_merged, each_at}
use Rattle.tbr_kept_lines.proofs.ItemsLeft.{items_left, items_taken}
use Rattle.tbr_kept_lines.proofs.kept_lines.lines_of.Goals as goal

pub loop-part-preserved : goal.loop-part-preserved
loop-part-preserved g c =
    let eq = g.T.PartialEq.eq in
    let inv = c.loop-part.invariant in
    let part = c.in-Some.part in
    let lines = c.loop-part.lines.items in
    let start = c.into_iter-part-iterator.result in
    let whole =
    sym c.into_iter-part-iterator.ensures.into_iter_gives.0
    ∙ items_left start start c.loop-part.part-iterator c.next.new.self c.loop-part.yielded part refl
    c.loop-part.yielded_by c.in-Some.ensures.steps.0 in
    let holds : HoldsPart eq part = each_at (HoldsPart eq) c.loop-part.yielded part _ (subst (λ ps. Each (HoldsPart eq) ps) whole c.requires.parts) in
    let (more, is, same, merged) = c.in_ok-push_to.ensures in
    let all : c.push_to.new.lines.items ≡ (lines ++ part.before.items) ++ more = is ∙ ap (λ ls. ls ++ more) c.in_ok-append_all.ensures.ok in (
      part_listed eq g.met.T.Eq.laws c.loop-part.yielded part lines more c.push_to.new.lines.items inv.0 same all,
      all_merged eq lines part.before.items more c.push_to.new.lines.items inv.1 holds.merged merged all,
    )

pub returns-clause-lines : goal.returns-clause-lines
returns-clause-lines g c =
    let start = c.into_iter-part-iterator.result in
    let all = items_taken start start c.loop-part.part-iterator c.next.new.self c.loop-part.yielded refl c.loop-part.yielded_by c.in-None.ensures.steps in
    subst (λ ps. AllZip (SameSeen g.T.PartialEq.eq) (map line_seen c.loop-part.lines.items) (parts_seen ps)) (sym all ∙ c.into_iter-part-iterator.ensures.into_iter_gives.0) c.loop-part.invariant.0
