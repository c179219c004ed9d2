use Rattle.tbr_wrap.proofs.Common.{ap, sym, ◌∙◌, refl, Block}
use Rattle.tbr_wrap.proofs.runs.HeldRuns.{line_held, word_held}
use Rattle.tbr_wrap.proofs.block.WrappedBlock.has_no_character.Goals as goal

pub returns-then-not-has_line : goal.returns-then-not-has_line
returns-then-not-has_line g c =
    let k = c.self.invariant (ap (λ (s : Block g.row.T.Denot). s.failure) c.self.view_is ∙ c.requires) in
    let line = sym (line_held _ _ _ _ _ k) ∙ sym (rw c.deref.ensures at c.has_line.ensures k.before k.stands.lays.laid k.stands.lays.holds) in
    let word = sym (word_held _ _ _ _ _ k) ∙ sym (rw c.deref-then-not-has_line.ensures at c.has_word.ensures) in
    rw (← c.self.view_is, line, c.if-not-has_line.true, word) refl

pub returns-else-not-has_line : goal.returns-else-not-has_line
returns-else-not-has_line g c =
    let k = c.self.invariant (ap (λ (s : Block g.row.T.Denot). s.failure) c.self.view_is ∙ c.requires) in
    let line = sym (line_held _ _ _ _ _ k) ∙ sym (rw c.deref.ensures at c.has_line.ensures k.before k.stands.lays.laid k.stands.lays.holds) in
    rw (← c.self.view_is, line, c.if-not-has_line.false) refl
