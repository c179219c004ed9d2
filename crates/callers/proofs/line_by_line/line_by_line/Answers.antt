use Rattle.callers.proofs.Common.{◌≡◌, ◌++◌, drop, length, ap, ◌∙◌, sym, subst, arith, YieldsList-from_vec, YieldsList-end, Block, left, HandsOne}
use Rattle.std.proofs.Common.{map-id}
use Rattle.tbr_wrap.specs.Block.{HandsOutFirst}
use Rattle.tbr_wrap.proofs.runs.LinesLeft.{left_after}
use Rattle.tbr_wrap.proofs.runs.BlockLaws.{one_handed, none_handed}
use Rattle.callers.proofs.Walks.{HasTaken, none_taken, one_taken, all_taken}
use Rattle.callers.proofs.line_by_line.line_by_line.Given.{Over}
use Rattle.callers.proofs.line_by_line.line_by_line.Goals.{In-Some}
use Rattle.callers.proofs.line_by_line.line_by_line.Goals as goal

-- the line that was taken
one : (g : Over) (c : In-Some g) → HandsOne g.W.CharWidth.columns g.T.PartialEq.eq c.loop-lines.block c.in-Some.line c.next_line.new.self
one g c =
    let columns = g.W.CharWidth.columns in let block = c.loop-lines.block in
    one_handed columns g.T.PartialEq.eq block c.next_line.new.self c.in_ok-line.ensures.answers.ok c.in-Some.line
    (subst (λ o. HandsOutFirst columns g.T.PartialEq.eq block (left columns block) o) c.in-Some.is c.in_ok-line.ensures.line)

pub loop-lines-init : goal.loop-lines-init
loop-lines-init g c = rw c.new-lines.ensures.items (none_taken g.W.CharWidth.columns g.T.PartialEq.eq c.args.block)

pub loop-lines-smaller : goal.loop-lines-smaller
loop-lines-smaller g c =
    let f = one g (goal.at.loop-lines-smaller g c).In-Some in
    let gone = ap (λ (s : Block g.row.T.Denot). length (left g.W.CharWidth.columns s)) f.leaves ∙ ap length (left_after c.loop-lines.block g.W.CharWidth.columns ∙ ap (drop 1) f.left_is) in
    omega (arith, ap length f.left_is, gone)

pub loop-lines-preserved : goal.loop-lines-preserved
loop-lines-preserved g c =
    one_taken g.W.CharWidth.columns g.T.PartialEq.eq c.args.block c.loop-lines.block c.next_line.new.self c.loop-lines.lines.items c.push.new.self.items c.in-Some.line c.loop-lines.invariant
    (one g (goal.at.loop-lines-preserved g c).In-Some) c.in_ok-push.ensures.items

pub returns : goal.returns
returns g c =
    let columns = g.W.CharWidth.columns in let eq = g.T.PartialEq.eq in let block = c.loop-lines.block in
    let given = c.into_iter-line-iterator.ensures.into_iter_gives in
    let rest = c.in_ok-line-items.line-items in
    let list = YieldsList-from_vec rest.items given.0 (given.1 ∙ rest.ok.0) in
    let end = YieldsList-end list c.loop-line.yielded c.loop-line.line-iterator c.loop-line.yielded_by c.next.result c.next.new.self c.in-None.is c.next.ensures.steps in
    let yielded : c.loop-line.yielded ≡ rest.items = sym (map-id c.loop-line.yielded) ∙ end.0 in
    let none =
    none_handed columns eq block c.next_line.new.self c.in_ok-line.ensures.answers.ok
    (subst (λ o. HandsOutFirst columns eq block (left columns block) o) c.in_default.is
    c.in_ok-line.ensures.line) in
    all_taken columns eq c.args.block c.next_line.new.self c.loop-lines.lines.items rest.items c.loop-line.lines.items
    (subst (λ (s : Block g.row.T.Denot). HasTaken columns eq c.args.block s c.loop-lines.lines.items) (sym none.1) c.loop-lines.invariant)
    (c.loop-line.invariant ∙ ap (λ ls. c.loop-lines.lines.items ++ ls) yielded) c.in_ok-line-items.ensures.gives
