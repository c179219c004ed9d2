use Rattle.tbr_view.proofs.Common.{◌≡◌, ℕ, Bool, chars, ap, sym, ◌∙◌, on_ok_weaker, width_of_text, chars_of, StartBlock, layout, ask, TableScript, with_bare, other_prefix, stands_apart}
use Rattle.tbr_view.proofs.Common.{Known, Levels, openers, kept}
use Rattle.tbr_tables.specs.declared.step.Step.TheVariants as step
use Rattle.tbr_view.specs.Tables.{with_if}
use Rattle.tbr_view.proofs.States.{openers_push}
use Rattle.tbr_view.proofs.session.Session.record_block.Goals as goal

pub returns-clause-records : goal.returns-clause-records
returns-clause-records g c =
    let columns = g.W.CharWidth.columns in
    let self = c.args.self.now in
    let texts = c.in_ok-prefixes.prefixes in
    let asked = c.in-Ok.ensures.text in
    let is_first = c.in_ok-prefixes.ensures.first in
    let first = ap chars is_first ∙ asked.2 ∙ ap (g.D.TextDecorator.prefix_text asked.0.decorator) c.prefix.ensures in
    let others = c.in_ok-prefixes.ensures.others ∙ ap (λ bs. other_prefix columns c.args.block (chars bs)) (sym is_first) in
    let takes : c.in_ok-columns.columns ≡ width_of_text columns (chars_of texts.first) =
    c.in_ok-columns.ensures ∙ ap (λ bs. width_of_text columns (chars bs)) (c.as_str.ensures.value ∙ sym is_first) in
    let laid = c.in_ok-lay_out_if.ensures ∙ ap (λ (b : Bool). with_if columns b (ask (layout StartBlock)) c.args.table) c.stands_apart.ensures in
    let levels = ap (λ (l : Levels). openers l.inside.items) c.add_step.ensures.levels
    ∙ ap (λ (k : Known). openers k.inside) c.in_ok-enter.ensures ∙ openers_push self.levels.inside.items _ in
    on_ok_weaker c.add_step.result (λ h. record {
      top = asked.0;
      is_top = asked.1;
      texts = texts;
      first = first;
      others = others;
      records = record {
        program = c.add_step.ensures.program ∙ c.prefix-2.ensures.unchanged;
        levels = levels;
        tables = h ∙ ap (λ (x : TableScript). kept (with_bare columns (step.Inside c.in_ok-columns.columns) x) self.tables) laid
            ∙ ap (λ (n : ℕ). kept (with_bare columns (step.Inside n) (with_if columns (stands_apart c.args.block) (ask (layout StartBlock)) c.args.table)) self.tables) takes;
      };
    }) c.add_step.ensures.tables
