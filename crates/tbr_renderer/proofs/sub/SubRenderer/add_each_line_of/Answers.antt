use Rattle.tbr_renderer.proofs.Common.{List, length, drop, ap, ◌∙◌, arith, rules, same_annotations, Block, left, left_after, HandsOne}
use Rattle.tbr_wrap.proofs.runs.BlockLaws.{one_handed}
use Rattle.tbr_renderer.proofs.BlockEnds.{one_line_more}
use Rattle.tbr_renderer.proofs.sub.SubRenderer.add_each_line_of.Given.{Over}
use Rattle.tbr_renderer.proofs.sub.SubRenderer.add_each_line_of.Goals.{In-Some}
use Rattle.tbr_renderer.proofs.sub.SubRenderer.add_each_line_of.Goals as goal

-- the line that the block hands out
one : (g : Over) (c : In-Some g) → HandsOne g.W.CharWidth.columns (same_annotations g.D.Annotation.Tag.same) c.loop-block.block c.in-Some.line c.next_line.new.self
one g c = search (rules, one_handed, c.in_ok-line.ensures.answers.ok, c.in-Some.is, c.in_ok-line.ensures.line)

pub add_line-requires-clause-merged : goal.add_line-requires-clause-merged
add_line-requires-clause-merged g c = (one g (goal.at.add_line-requires-clause-merged g c).In-Some).shows.merged

pub loop-block-preserved : goal.loop-block-preserved
loop-block-preserved g c =
    one_line_more g.D.Annotation.Tag.same g.D.Annotation.Tag.tells g.W.CharWidth.columns c.args.block
    c.loop-block.block c.next_line.new.self c.args.self.now c.loop-block.self c.add_line.new.self c.in-Some.line
    c.loop-block.invariant (one g (goal.at.loop-block-preserved g c).In-Some) c.in_ok-add_line.ensures.line

pub loop-block-smaller : goal.loop-block-smaller
loop-block-smaller g c =
    let columns = g.W.CharWidth.columns in let f = one g (goal.at.loop-block-smaller g c).In-Some in
    let gone = ap (λ (b : Block (List g.row.D-Annotation-Meaning.Denot)). length (left columns b)) f.leaves ∙ ap length (left_after c.loop-block.block columns ∙ ap (drop 1) f.left_is) in
    omega (arith, ap length f.left_is, gone)
