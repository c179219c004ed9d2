use Rattle.tbr_view.proofs.Common.{ap, ◌∙◌, Vec, on_ok_weaker, Level, Levels, Known, known_in, openers, opened_by, kept}
use Rattle.tbr_view.specs.Tables.{with_given}
use Rattle.tbr_view.proofs.States.{openers_noted}
use Rattle.tbr_view.proofs.session.Session.record_command.Goals as goal

pub returns-clause-records : goal.returns-clause-records
returns-clause-records g c =
    let command = c.args.command in
    let inside = ap (λ (l : Levels). l.inside) (c.in_ok-note_stretch.ensures.levels ∙ c.in_ok-note_ends_of.ensures.levels) in
    let levels = ap (λ (l : Levels). openers l.inside.items) c.record_given.ensures.levels ∙ ap (λ (k : Known). openers k.inside) c.in_ok-note_levels.ensures.levels
    ∙ openers_noted (known_in c.note_stretch.new.self.levels) c.args.number command ∙ ap (λ (v : Vec Level). opened_by command (openers v.items)) inside in
    let program = c.record_given.ensures.program ∙ c.in_ok-note_levels.ensures.program ∙ c.in_ok-note_stretch.ensures.program ∙ c.in_ok-note_ends_of.ensures.program in
    let tables = c.in_ok-note_levels.ensures.tables ∙ c.in_ok-note_stretch.ensures.tables ∙ c.in_ok-note_ends_of.ensures.tables in
    on_ok_weaker c.record_given.result (λ h. record {
      program = program;
      levels = levels;
      tables = h ∙ ap (kept (with_given g.W.CharWidth.columns command c.args.table)) tables;
    }) c.record_given.ensures.tables
