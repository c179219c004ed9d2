use Rattle.tbr_view.proofs.Common.{[], ◌∷◌, ◌++◌, refl, ap, sym, ◌∙◌, subst, on_ok_weaker, Levels, Opener, OfBlock, Leaves, openers, kept}
use Rattle.tbr_view.specs.Tables.{with_append}
use Rattle.tbr_view.proofs.States.{openers_last, ends_with}
use Rattle.tbr_view.proofs.session.Session.record_end.Goals as goal

pub returns-in-Some-Block-clause-records : goal.returns-in-Some-Block-clause-records
returns-in-Some-Block-clause-records g c =
    let old = c.args.self.now.levels in
    let rest = c.leave.new.self in
    let block = c.in-Some-Block.block in
    let texts = c.in-Some-Block.prefixes in
    let closed = sym c.is_closed_by.ensures ∙ c.if-not-is_closed_by.false in
    let leaves = subst (λ (l : Levels). Leaves l.inside.items l.notes (OfBlock block texts) rest.inside.items rest.notes) c.in_ok-note_ends.ensures.levels
    (subst (λ (by : Opener). Leaves c.note_ends.new.self.levels.inside.items c.note_ends.new.self.levels.notes by
    rest.inside.items rest.notes) c.in-Some-Block.field-0-is c.in-Some-Block.ensures.closed) in
    on_ok_weaker c.record_append.result (λ h. record {
      block = block;
      texts = texts;
      levels = openers_last old.inside.items rest.inside.items (OfBlock block texts) old.notes rest.notes leaves
          ∙ ap (λ (l : Levels). openers l.inside.items ++ OfBlock block texts ∷ []) (sym c.record_append.ensures.levels);
      ends = ends_with old.inside.items rest.inside.items block texts c.args.by.now old.notes rest.notes closed leaves;
      records = record {
        program = c.record_append.ensures.program ∙ c.in_ok-note_ends.ensures.program;
        levels = refl;
        tables = h ∙ ap (kept (with_append g.W.CharWidth.columns block texts c.args.table)) c.in_ok-note_ends.ensures.tables;
      };
    }) c.record_append.ensures.tables
