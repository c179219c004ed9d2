use Rattle.tbr_view.proofs.Common.{sym, ◌∙◌, subst, on_ok_weaker, decoration_of, OfBlock, Leaves, state_of, BlockAppends, BlockCloses}
use Rattle.tbr_view.proofs.States.{block_closes}
use Rattle.tbr_view.proofs.session.Session.close.Goals as goal

pub returns-in-Some-Block-clause-closes : goal.returns-in-Some-Block-clause-closes
returns-in-Some-Block-clause-closes g c =
    let columns = g.W.CharWidth.columns in
    let deco = decoration_of g.D.TextDecorator g.D.Annotation.Tag.tells in
    let self = c.args.self.now in
    let rest = c.leave.new.self in
    let q = c.close_block.new.self.program in
    let block = c.in-Some-Block.block in
    let texts = c.in-Some-Block.prefixes in
    let closed = sym c.is_closed_by.ensures ∙ c.if-not-is_closed_by.false in
    let leaves = subst (λ l. Leaves l.inside.items l.notes (OfBlock block texts) rest.inside.items rest.notes) (c.in_ok-note_ends.ensures.levels ∙ c.in_ok-note_losses.ensures.levels)
    (subst (λ by. Leaves c.note_ends.new.self.levels.inside.items c.note_ends.new.self.levels.notes by rest.inside.items rest.notes) c.in-Some-Block.field-0-is c.in-Some-Block.ensures.closed) in
    on_ok_weaker c.close_block.result (λ h.
    let appends = subst (λ x. BlockAppends columns deco x block texts q) (c.in_ok-note_ends.ensures.program ∙ c.in_ok-note_losses.ensures.program) h in
    subst (λ l. BlockCloses columns deco (state_of self.program self.levels.inside.items) c.args.by.now (state_of q l.inside.items)) (sym c.close_block.ensures.levels)
    (block_closes columns deco self.program q self.levels.inside.items rest.inside.items block texts c.args.by.now self.levels.notes rest.notes closed leaves appends))
    c.close_block.ensures.appends
