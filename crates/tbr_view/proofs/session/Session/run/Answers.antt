use Rattle.tbr_view.proofs.Common.{ap, sym, ◌∙◌, decoration_of, known_in, openers, opened_by}
use Rattle.tbr_recorded.specs.declared.texts.Texts.{Texts}
use Rattle.tbr_view.specs.Tables.{counted}
use Rattle.tbr_view.proofs.States.{commanded, openers_noted}
use Rattle.tbr_view.proofs.session.Session.run.Goals as goal

pub returns-clause-does : goal.returns-clause-does
returns-clause-does g c =
    let self = c.args.self.now in
    let command = c.args.command.now in
    let next = c.note_levels.new.self in
    let may = sym c.may_not_append.ensures ∙ c.if-may_not_append.false in
    let before = c.in_ok-note_ends_of.ensures.levels ∙ c.in_ok-note_losses_of.ensures.levels in
    let after = c.in_ok-note_stretch.ensures.levels ∙ c.in_ok-note_row.ensures.levels in
    let inside = ap (λ l. l.inside) (after ∙ c.in_ok-command.ensures.levels ∙ before) ∙ c.note_texts.ensures.inside in
    let levels = ap (λ k. openers k.inside) c.in_ok-note_levels.ensures.levels
    ∙ openers_noted (known_in c.note_stretch.new.self.levels) c.args.number command ∙ ap (λ v. opened_by command (openers v.items)) inside in
    let here = c.in_ok-note_ends_of.ensures.program ∙ c.in_ok-note_losses_of.ensures.program ∙ c.note_texts.ensures.program in
    let there = c.in_ok-note_levels.ensures.program ∙ c.in_ok-note_stretch.ensures.program ∙ c.in_ok-note_row.ensures.program in
    commanded g.W.CharWidth.columns (decoration_of g.D.TextDecorator g.D.Annotation.Tag.tells) self.program next.program self.levels.inside.items next.levels.inside.items
    command c.note_ends_of.new.self.program c.command.new.self.program here there may c.in_ok-command.ensures.does levels

pub returns-clause-tables : goal.returns-clause-tables
returns-clause-tables g c =
    let command = c.args.command.now in
    let texts = ap (λ (x : Texts). record c.note_texts.new.self.tables { texts = x }) c.note.ensures in
    c.in_ok-note_levels.ensures.tables ∙ c.in_ok-note_stretch.ensures.tables ∙ c.in_ok-note_row.ensures.tables ∙ c.in_ok-command.ensures.tables
    ∙ c.in_ok-note_ends_of.ensures.tables ∙ c.in_ok-note_losses_of.ensures.tables ∙ texts ∙ ap (counted command) c.note_texts.ensures.tables
