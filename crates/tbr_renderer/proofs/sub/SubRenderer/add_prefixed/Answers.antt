use Rattle.tbr_renderer.proofs.Common.{◌≡◌, length, map, chars, ap, sym, ◌∙◌, subst, arith, rules, length-map, on_ok_weaker, line_seen, AreAlike, texts_of, with_prefixed}
use Rattle.tbr_renderer.specs.Appended.{GivesFirst}
use Rattle.tbr_renderer.proofs.AppendedLines.{alike_all}
use Rattle.tbr_renderer.proofs.JoinedLines.{lines_told}
use Rattle.tbr_renderer.proofs.sub.SubRenderer.add_prefixed.Goals as goal

pub returns-2-clause-lines : goal.returns-2-clause-lines
returns-2-clause-lines g c =
    let same = g.D.Annotation.Tag.same in let tells = g.D.Annotation.Tag.tells in
    let given = c.in_ok-given.given.items in
    on_ok_weaker c.add_each_after.result (λ h. (
      given,
      subst (λ n. GivesFirst g.I.Iterator.next_gives n c.args.prefixes given) c.in_ok-count.ensures c.in_ok-given.ensures,
      h ∙ ap (with_prefixed g.W.CharWidth.columns c.args.self.now (texts_of g.P.AsStr.text given))
          (lines_told same tells (map line_seen c.in_ok-into_vec.field-0.items) c.args.lines c.in_ok-into_vec.ensures.lines),
    ))
    c.add_each_after.ensures.lines

pub returns-clause-lines : goal.returns-clause-lines
returns-clause-lines g c =
    let given = c.in_ok-given.given.items in let texts = texts_of g.P.AsStr.text given in
    let first = chars c.in-Some.first.now in let others = chars c.in-Some.others.now in
    let alike : AreAlike first others texts = search (rules, c.in-Some.ensures, c.deref.ensures.value) in
    let long : length texts ≡ length c.args.lines =
    omega (arith, length-map given (λ x. chars (g.P.AsStr.text x)), c.len-2.ensures, c.if-len-count.true, c.in_ok-count.ensures) in
    on_ok_weaker c.append_after.result (λ h. (
      given,
      subst (λ n. GivesFirst g.I.Iterator.next_gives n c.args.prefixes given) c.in_ok-count.ensures c.in_ok-given.ensures,
      h ∙ ap (λ ps. with_prefixed g.W.CharWidth.columns c.args.self.now ps c.args.lines) (sym (alike_all first others texts (length c.args.lines) alike long)),
    ))
    c.append_after.ensures.lines
