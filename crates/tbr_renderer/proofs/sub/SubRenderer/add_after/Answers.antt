use Rattle.tbr_renderer.proofs.Common.{length, map, chars, ap, sym, ◌∙◌, on_ok_weaker, line_seen, alike, with_prefixed}
use Rattle.tbr_renderer.proofs.AppendedLines.{seen, length-seen}
use Rattle.tbr_renderer.proofs.JoinedLines.{lines_told}
use Rattle.tbr_renderer.proofs.sub.SubRenderer.add_after.Goals as goal

pub returns-clause-lines : goal.returns-clause-lines
returns-clause-lines g c =
    let same = g.D.Annotation.Tag.same in let tells = g.D.Annotation.Tag.tells in let old = c.args.self.now in
    let prefixes = alike (chars c.args.first.now) (chars c.args.others.now) in
    let all = c.in_ok-into_vec.field-0.items in
    let told = lines_told same tells (map line_seen all) c.args.lines c.in_ok-into_vec.ensures.lines in
    on_ok_weaker c.add_texts_after.result (λ h.
    h ∙ ap (λ n. with_prefixed g.W.CharWidth.columns old (prefixes n) (seen all)) (sym (length-seen all))
    ∙ ap (λ ls. with_prefixed g.W.CharWidth.columns old (prefixes (length ls)) ls) told)
    c.add_texts_after.ensures.lines
