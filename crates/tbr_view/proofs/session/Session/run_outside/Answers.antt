use Rattle.tbr_view.proofs.Common.{sym, subst, OnOk, on_ok_weaker, decoration_of, Statement, place_of, DoesOutside}
use Rattle.tbr_view.proofs.Places.{on_both}
use Rattle.tbr_view.proofs.session.Session.run_outside.Goals as goal

pub returns-in-Command-clause-does : goal.returns-in-Command-clause-does
returns-in-Command-clause-does g c =
    let columns = g.W.CharWidth.columns in
    let deco = decoration_of g.D.TextDecorator g.D.Annotation.Tag.tells in
    let self = c.args.self.now in
    let here = place_of self.program self.levels.inside.items self.tables in
    let new = c.run.new.self in
    let there = place_of new.program new.levels.inside.items new.tables in
    subst (λ (asks : Statement). OnOk c.run.result (DoesOutside columns deco here asks there)) (sym c.in-Command.is) (on_both c.run.result _ _ c.run.ensures.does c.run.ensures.tables)

pub returns-in-Open-clause-does : goal.returns-in-Open-clause-does
returns-in-Open-clause-does g c =
    let columns = g.W.CharWidth.columns in
    let deco = decoration_of g.D.TextDecorator g.D.Annotation.Tag.tells in
    let self = c.args.self.now in
    let here = place_of self.program self.levels.inside.items self.tables in
    let new = c.open.new.self in
    let there = place_of new.program new.levels.inside.items new.tables in
    subst (λ (asks : Statement). OnOk c.open.result (DoesOutside columns deco here asks there)) (sym c.in-Open.is)
    (on_ok_weaker c.open.result (λ opens. (opens, c.open.ensures.tables)) c.open.ensures.opens)

pub returns-in-Close-clause-does : goal.returns-in-Close-clause-does
returns-in-Close-clause-does g c =
    let columns = g.W.CharWidth.columns in
    let deco = decoration_of g.D.TextDecorator g.D.Annotation.Tag.tells in
    let self = c.args.self.now in
    let here = place_of self.program self.levels.inside.items self.tables in
    let new = c.close.new.self in
    let there = place_of new.program new.levels.inside.items new.tables in
    subst (λ (asks : Statement). OnOk c.close.result (DoesOutside columns deco here asks there)) (sym c.in-Close.is)
    (on_ok_weaker c.close.result (λ closes. (closes, c.close.ensures.tables)) c.close.ensures.closes)
