use Rattle.tbr_view.proofs.Common.{sym, ◌∙◌, on_ok_weaker, decoration_of, place_of}
use Rattle.tbr_view.proofs.Places.{does_in_table, does_outside}
use Rattle.tbr_view.proofs.session.Session.run_statement.Goals as goal

pub returns-in-Some-clause-does : goal.returns-in-Some-clause-does
returns-in-Some-clause-does g c =
    let self = c.args.self.now in
    let here = place_of self.program self.levels.inside.items self.tables in
    let new = c.run_in_table.new.self in
    let there = place_of new.program new.levels.inside.items new.tables in
    on_ok_weaker c.run_in_table.result (does_in_table g.W.CharWidth.columns (decoration_of g.D.TextDecorator g.D.Annotation.Tag.tells) here there c.in-Some.table c.args.statement
    (sym c.take.ensures.value ∙ c.in-Some.is) c.take.new.self c.take.ensures.after) c.run_in_table.ensures.does

pub returns-in-None-clause-does : goal.returns-in-None-clause-does
returns-in-None-clause-does g c =
    let self = c.args.self.now in
    let here = place_of self.program self.levels.inside.items self.tables in
    let new = c.run_outside.new.self in
    let there = place_of new.program new.levels.inside.items new.tables in
    on_ok_weaker c.run_outside.result (does_outside g.W.CharWidth.columns (decoration_of g.D.TextDecorator g.D.Annotation.Tag.tells) here there c.args.statement
    (sym c.take.ensures.value ∙ c.in-None.is) c.take.new.self c.take.ensures.after) c.run_outside.ensures.does
