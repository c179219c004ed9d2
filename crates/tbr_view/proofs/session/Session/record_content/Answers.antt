use Rattle.tbr_view.proofs.Common.{sym, ap, ◌∙◌, subst, OnOk, on_ok_weaker, decoration_of, Known, Levels, Statement, openers, place_of, DoesInTable}
use Rattle.tbr_view.proofs.States.{openers_push}
use Rattle.tbr_view.proofs.session.Session.record_content.Goals as goal

pub returns-in_ok-check_command-in-Command-clause-does : goal.returns-in_ok-check_command-in-Command-clause-does
returns-in_ok-check_command-in-Command-clause-does g c =
    let columns = g.W.CharWidth.columns in
    let deco = decoration_of g.D.TextDecorator g.D.Annotation.Tag.tells in
    let self = c.args.self.now in
    let here = place_of self.program self.levels.inside.items self.tables in
    let new = c.record_command.new.self in
    let there = place_of new.program new.levels.inside.items new.tables in
    subst (λ (asks : Statement). OnOk c.record_command.result (DoesInTable columns deco here c.args.table asks there)) (sym c.in-Command.is) (c.record_command.ensures.records)

pub returns-in-Open-clause-does : goal.returns-in-Open-clause-does
returns-in-Open-clause-does g c =
    let columns = g.W.CharWidth.columns in
    let deco = decoration_of g.D.TextDecorator g.D.Annotation.Tag.tells in
    let self = c.args.self.now in
    let here = place_of self.program self.levels.inside.items self.tables in
    let new = c.record_block.new.self in
    let there = place_of new.program new.levels.inside.items new.tables in
    subst (λ (asks : Statement). OnOk c.record_block.result (DoesInTable columns deco here c.args.table asks there)) (sym c.in-Open.is) (c.record_block.ensures.records)

pub returns-in-Close-clause-does : goal.returns-in-Close-clause-does
returns-in-Close-clause-does g c =
    let columns = g.W.CharWidth.columns in
    let deco = decoration_of g.D.TextDecorator g.D.Annotation.Tag.tells in
    let self = c.args.self.now in
    let here = place_of self.program self.levels.inside.items self.tables in
    let new = c.record_end.new.self in
    let there = place_of new.program new.levels.inside.items new.tables in
    subst (λ (asks : Statement). OnOk c.record_end.result (DoesInTable columns deco here c.args.table asks there)) (sym c.in-Close.is) (c.record_end.ensures.records)

pub returns-in_ok-enter-in-Table-clause-does : goal.returns-in_ok-enter-in-Table-clause-does
returns-in_ok-enter-in-Table-clause-does g c =
    let columns = g.W.CharWidth.columns in
    let deco = decoration_of g.D.TextDecorator g.D.Annotation.Tag.tells in
    let self = c.args.self.now in
    let here = place_of self.program self.levels.inside.items self.tables in
    let new = c.add_step.new.self in
    let there = place_of new.program new.levels.inside.items new.tables in
    let levels = ap (λ (l : Levels). openers l.inside.items) c.add_step.ensures.levels
    ∙ ap (λ (k : Known). openers k.inside) c.in_ok-enter-in-Table.ensures ∙ openers_push self.levels.inside.items _ in
    subst (λ (asks : Statement). OnOk c.add_step.result (DoesInTable columns deco here c.args.table asks there))
    (sym c.in-Table.is) (on_ok_weaker c.add_step.result
    (λ h. record { program = c.add_step.ensures.program; levels = levels; tables = h }) c.add_step.ensures.tables)
