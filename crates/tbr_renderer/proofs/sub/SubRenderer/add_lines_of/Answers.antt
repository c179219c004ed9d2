use Rattle.tbr_renderer.proofs.JoinedLines.{added_at_once, texts_told}
use Rattle.tbr_renderer.proofs.sub.SubRenderer.add_lines_of.Goals as goal

pub returns-clause-lines : goal.returns-clause-lines
returns-clause-lines g c =
    let columns = g.W.CharWidth.columns in
    let same = g.D.Annotation.Tag.same in let tells = g.D.Annotation.Tag.tells in
    let plain = c.adds_as_is.ensures c.if-not-adds_as_is.false in
    added_at_once columns c.args.self.now c.push_ended.new.self _ _
    (texts_told same tells columns c.args.block plain.padding _ _ c.into_ended.ensures.gives)
    plain.unpadded plain.waits c.in_ok-push_ended.ensures.lines
