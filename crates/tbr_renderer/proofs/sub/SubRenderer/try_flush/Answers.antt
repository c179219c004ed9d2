use Rattle.tbr_renderer.proofs.Common.{List, ◌≡◌, None, Err, map, refl, arith, ap, ◌∙◌, rules, Block, loose, element_of, flush_leaves, names_of}
use Rattle.tbr_wrap.proofs.runs.BlockLaws.{flush_in_two, none_open_taken}
use Rattle.tbr_renderer.proofs.OutcomeParts.{passed_on, never_narrow, tries_ok, tries_err}
use Rattle.tbr_renderer.proofs.BlockEnds.{markers_named, are_markers, block_flushed, block_best, block_refused}
use Rattle.tbr_renderer.proofs.sub.SubRenderer.try_flush.Given.{Over}
use Rattle.tbr_renderer.proofs.sub.SubRenderer.try_flush.Goals.{In_ok-flush}
use Rattle.tbr_renderer.proofs.sub.SubRenderer.try_flush.Goals as goal

pub returns-in_err-flush-clause-tries : goal.returns-in_err-flush-clause-tries
returns-in_err-flush-clause-tries g c =
    let columns = g.W.CharWidth.columns in
    tries_err _ c.args.self.now c.take_block.new.self c.from_residual.result c.in_err-flush.field-0.0 c.from_residual.ensures.1
    (λ narrow. block_refused columns c.args.self.now c.in-Some.block c.in-Some.ensures.block c.in-Some.ensures.opened (c.flush.ensures.answers.too_narrow (c.in_err-flush.was ∙ ap Err narrow)))

pub returns-in_err-flush-clause-two_columns : goal.returns-in_err-flush-clause-two_columns
returns-in_err-flush-clause-two_columns g c = λ two is.
    let k = c.in-Some.ensures.opened in
    flush_in_two g.W.CharWidth.columns (g.met.W.CharWidth.drawn_in_one 32 refl) g.met.W.CharWidth.at_most_two c.in-Some.block
    (omega (arith, two, ap (λ (b : Block (List g.row.D-Annotation-Meaning.Denot)). b.width) k.is)) (ap (λ (b : Block (List g.row.D-Annotation-Meaning.Denot)). b.failure) k.is)
    (c.flush.ensures.answers.too_narrow (passed_on is c.from_residual.ensures.1 c.in_err-flush.was))

-- the block that was flushed hasn't failed
live : (g : Over) (c : In_ok-flush g) → c.flush.new.self.failure ≡ None
live g c = search (rules, flush_leaves, c.in-Some.ensures.opened, c.in_ok-flush.ensures.answers.ok)

pub returns-in_err-markers-clause-tries : goal.returns-in_err-markers-clause-tries
returns-in_err-markers-clause-tries g c =
    tries_err _ c.args.self.now c.take_block.new.self c.from_residual-in_err-markers.result c.in_err-markers.field-0.0 c.from_residual-in_err-markers.ensures.1
    (λ narrow. absurd (never_narrow (c.take_trailing_fragments.ensures.memory (live g (goal.at.returns-in_err-markers-clause-tries g c).In_ok-flush)) (c.in_err-markers.was ∙ ap Err narrow)))

pub returns-in_err-markers-clause-two_columns : goal.returns-in_err-markers-clause-two_columns
returns-in_err-markers-clause-two_columns g c = λ two is.
    never_narrow (c.take_trailing_fragments.ensures.memory (live g (goal.at.returns-in_err-markers-clause-two_columns g c).In_ok-flush))
    (passed_on is c.from_residual-in_err-markers.ensures.1 c.in_err-markers.was)

pub add_lines_of-requires-clause-ended : goal.add_lines_of-requires-clause-ended
add_lines_of-requires-clause-ended g c =
    none_open_taken g.W.CharWidth.columns c.in-Some.block c.flush.new.self c.in_ok-flush.ensures.answers.ok c.take_trailing_fragments.new.self c.in_ok-markers.ensures.answers.ok

pub add_waiting-requires : goal.add_waiting-requires
add_waiting-requires g c = are_markers (map element_of c.in_ok-markers.markers.items) (loose g.W.CharWidth.columns c.flush.new.self) c.in_ok-markers.ensures.markers

pub returns-clause-tries : goal.returns-clause-tries
returns-clause-tries g c =
    let columns = g.W.CharWidth.columns in
    tries_ok _ c.args.self.now c.add_waiting.new.self tt
    (block_flushed columns c.args.self.now c.in-Some.block c.in-Some.ensures.block c.in-Some.ensures.opened
    c.flush.new.self c.take_trailing_fragments.new.self c.in_ok-flush.ensures.answers.ok c.in_ok-markers.ensures.answers.ok
    (names_of (map element_of c.in_ok-markers.markers.items)) c.take_block.new.self c.add_lines_of.new.self c.add_waiting.new.self c.in-Some.ensures.rest c.in_ok-add_lines_of.ensures.lines
    (markers_named (map element_of c.in_ok-markers.markers.items) (loose columns c.flush.new.self) c.in_ok-markers.ensures.markers) c.in_ok-add_waiting.ensures.waiting)

pub returns-clause-best : goal.returns-clause-best
returns-clause-best g c =
    block_best g.W.CharWidth.columns c.args.self.now c.in-Some.block c.in-Some.ensures.block c.in-Some.ensures.opened c.in_ok-flush.ensures.best
