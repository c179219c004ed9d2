use Rattle.tbr_renderer.proofs.Common.{chars}
use Rattle.tbr_renderer.proofs.AppendedLines.{kept_after}
use Rattle.tbr_renderer.proofs.sub.SubRenderer.append_after.Goals as goal

pub returns-clause-lines : goal.returns-clause-lines
returns-clause-lines g c =
    let same = g.D.Annotation.Tag.same in let tells = g.D.Annotation.Tag.tells in
    kept_after same tells g.W.CharWidth.columns c.args.self.now c.append_kept.new.self c.append_kept.result c.in_ok-tag.tag c.in_ok-tag.ensures
    (chars c.args.first.now) (chars c.args.others.now) c.args.lines c.requires.0 c.requires.1 c.append_kept.ensures.rest c.append_kept.ensures.lines
