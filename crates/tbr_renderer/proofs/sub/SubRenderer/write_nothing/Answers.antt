use Rattle.tbr_renderer.proofs.Common.{List, refl, ap, false, true, [], arith, on_ok_weaker, Block, text_events, text_in_two, text_leaves, sound_text, block_width, may_overflow}
use Rattle.tbr_renderer.proofs.Common.{text_annotations, last_mode}
use Rattle.tbr_renderer.proofs.JoinedTexts.{fresh_grown, writes}
use Rattle.tbr_renderer.proofs.sub.SubRenderer.write_nothing.Goals as goal

-- no tag and no mode tells anything of the empty text: those are taken that other text would have
pub returns-clause-fresh : goal.returns-clause-fresh
returns-clause-fresh g c =
    let columns = g.W.CharWidth.columns in let r = c.args.self.now in let preformatted = g.D.TextDecorator.preformatted in
    let main = text_annotations preformatted false r in let continued = text_annotations preformatted true r in let mode = last_mode r.modes in
    let old = c.args.block.now in let new = c.add_empty_text.new.self in let answers = c.add_empty_text.ensures.answers main continued mode in
    on_ok_weaker c.add_empty_text.result (λ e.
    fresh_grown columns (block_width r) (may_overflow r) old new (text_events [] main continued mode) (text_leaves columns old new [] main continued mode e)
    (sound_text columns old c.requires.fresh.sound new [] main continued mode e) c.requires.fresh)
    answers.ok

pub returns-clause-writes : goal.returns-clause-writes
returns-clause-writes g c =
    let r = c.args.self.now in let preformatted = g.D.TextDecorator.preformatted in
    let main = text_annotations preformatted false r in let continued = text_annotations preformatted true r in
    let answers = c.add_empty_text.ensures.answers main continued (last_mode r.modes) in
    writes g.W.CharWidth.columns r c.args.block.now c.requires.fresh [] main continued (last_mode r.modes)
    preformatted refl refl refl c.add_empty_text.result c.add_empty_text.new.self answers.ok answers.too_narrow

pub returns-clause-two_columns : goal.returns-clause-two_columns
returns-clause-two_columns g c = λ two is.
    let r = c.args.self.now in let preformatted = g.D.TextDecorator.preformatted in
    let main = text_annotations preformatted false r in let continued = text_annotations preformatted true r in let mode = last_mode r.modes in
    let width = ap (λ (b : Block (List g.row.D-Annotation-Meaning.Denot)). b.width) c.requires.fresh.is in
    let live = ap (λ (b : Block (List g.row.D-Annotation-Meaning.Denot)). b.failure) c.requires.fresh.is in
    text_in_two g.W.CharWidth.columns (g.met.W.CharWidth.drawn_in_one 32 refl) g.met.W.CharWidth.at_most_two c.args.block.now [] main continued mode (omega (arith, two, width)) live
    ((c.add_empty_text.ensures.answers main continued mode).too_narrow is)
