use Rattle.tbr_view.proofs.Common.{[], ◌∷◌, ◌++◌, inl, inr, refl, sym, ap, ◌∙◌, subst, Vec, on_ok_weaker, Level, Levels, Opener, Leaves, openers}
use Rattle.tbr_statements.specs.declared.level.Opener.TheVariants.{Table, InnerTable}
use Rattle.tbr_view.proofs.Places.{on_both}
use Rattle.tbr_view.proofs.States.{openers_last}
use Rattle.tbr_view.proofs.session.Session.end_table.Goals as goal

pub returns-in-Some-Table-clause-ends : goal.returns-in-Some-Table-clause-ends
returns-in-Some-Table-clause-ends g c =
    let old = c.args.self.now.levels in
    let rest = c.leave.new.self in
    let leaves = subst (λ (by : Opener). Leaves old.inside.items old.notes by rest.inside.items rest.notes) c.in-Some-Table.field-0-is c.in-Some-Table.ensures.closed in
    let levels = openers_last old.inside.items rest.inside.items Table old.notes rest.notes leaves
    ∙ ap (λ (v : Vec Level). openers v.items ++ Table ∷ []) (sym c.draw_ended.ensures.inside) in
    on_ok_weaker c.draw_ended.result (λ h. inl (record { levels = levels; draws = h.0; tables = h.1 }))
    (on_both c.draw_ended.result _ _ c.draw_ended.ensures.draws c.draw_ended.ensures.tables)

pub returns-in-Some-InnerTable-clause-ends : goal.returns-in-Some-InnerTable-clause-ends
returns-in-Some-InnerTable-clause-ends g c =
    let old = c.args.self.now.levels in
    let rest = c.leave.new.self in
    let leaves = subst (λ (by : Opener). Leaves old.inside.items old.notes by rest.inside.items rest.notes) c.in-Some-InnerTable.field-0-is c.in-Some-InnerTable.ensures.closed in
    let levels = openers_last old.inside.items rest.inside.items InnerTable old.notes rest.notes leaves
    ∙ ap (λ (l : Levels). openers l.inside.items ++ InnerTable ∷ []) (sym c.add_step.ensures.levels) in
    on_ok_weaker c.add_step.result (λ h. inr (record {
      levels = levels;
      records = record { program = c.add_step.ensures.program; levels = refl; tables = h };
    })) c.add_step.ensures.tables
