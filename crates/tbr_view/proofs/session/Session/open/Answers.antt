use Rattle.tbr_view.proofs.Common.{◌≡◌, ◌-◌, [], ◌∷◌, ◌++◌, chars, ap, sym, ◌∙◌, subst, arith, width_of_text, chars_of, decoration_of, top_of, StartBlock, layout, ask, OfBlock, other_prefix}
use Rattle.tbr_view.proofs.Common.{stands_apart, openers, DoesIf}
use Rattle.tbr_view.proofs.States.{block_opens, openers_push}
use Rattle.tbr_view.proofs.session.Session.open.Goals as goal

pub returns-clause-opens : goal.returns-clause-opens
returns-clause-opens g c =
    let columns = g.W.CharWidth.columns in
    let deco = decoration_of g.D.TextDecorator g.D.Annotation.Tag.tells in
    let self = c.args.self.now in
    let texts = c.in_ok-prefixes.prefixes in
    let unchanged = c.prefix-2.ensures.unchanged in
    let apart = c.lay_out_if.new.self.program in
    let asked = c.in-Ok.ensures.text in
    let is_first = c.in_ok-prefixes.ensures.first in
    let first = ap chars is_first ∙ asked.2 ∙ ap (g.D.TextDecorator.prefix_text asked.0.decorator) c.prefix.ensures in
    let others = c.in_ok-prefixes.ensures.others ∙ ap (λ bs. other_prefix columns c.args.block (chars bs)) (sym is_first) in
    let takes : c.in_ok-columns.columns ≡ width_of_text columns (chars_of texts.first) =
    c.in_ok-columns.ensures ∙ ap (λ bs. width_of_text columns (chars bs)) (c.as_str.ensures.value ∙ sym is_first) in
    let top = c.top.result.now in
    let wide : c.width-width.result ≡ top.width = c.width-width.ensures in
    let n = c.width-width.result - c.in_ok-columns.columns in
    let begins = subst (λ x. DoesIf columns deco (stands_apart c.args.block) x (ask (layout StartBlock)) apart) unchanged
    (subst (λ b. DoesIf columns deco b c.prefix-2.new.self (ask (layout StartBlock)) apart) c.stands_apart.ensures c.in_ok-lay_out_if.ensures.does) in
    let levels = ap (λ k. openers k.inside) c.in_ok-enter.ensures ∙ openers_push c.command.new.self.levels.inside.items _
    ∙ ap (λ l. openers l.inside.items ++ OfBlock c.args.block texts ∷ []) (c.in_ok-command.ensures.levels ∙ c.in_ok-lay_out_if.ensures.levels) in
    block_opens columns deco self.program c.command.new.self.program self.levels.inside.items c.enter.new.self.inside.items c.args.block texts asked.0 top apart n
    asked.1 (ap (λ x. top_of x.stack) (sym unchanged) ∙ c.top.ensures) first others
    (omega (arith, takes, wide, c.if-width-columns.false)) (omega (arith, takes, wide)) begins c.in_ok-command.ensures.does levels
