use Rattle.tbr_border.proofs.Common.{◌≡◌, map-id, sym, ◌∙◌, rules, YieldsList-from_vec, YieldsList-end, map_push}
use Rattle.std.proofs.lemmas.Slice.Zip.{all_zipped_more}
use Rattle.tbr_border.proofs.border.mapped_holes.Goals as goal

pub loop-span-preserved : goal.loop-span-preserved
loop-span-preserved g c = search (rules, map_push, all_zipped_more, c.in_ok-push.ensures.items, c.loop-span.invariant, c.in_ok-mapped_element.ensures)

pub returns : goal.returns
returns g c =
    let given = c.into_iter-span-iterator.ensures.into_iter_gives in
    let list = YieldsList-from_vec c.args.holes.items given.0 (given.1 ∙ c.args.holes.ok.0) in
    let end = YieldsList-end list c.loop-span.yielded c.loop-span.span-iterator c.loop-span.yielded_by c.next.result c.next.new.self c.in-None.is c.next.ensures.steps in
    let all : c.loop-span.yielded ≡ c.args.holes.items = sym (map-id c.loop-span.yielded) ∙ end.0 in
    rw (← all) c.loop-span.invariant
