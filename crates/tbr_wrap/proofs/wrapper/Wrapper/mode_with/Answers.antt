use Rattle.tbr_wrap.proofs.Common.{refl, same_has}
use Rattle.tbr_wrap.proofs.wrapper.Wrapper.mode_with.Goals as goal

pub returns-then-has_word : goal.returns-then-has_word
returns-then-has_word g c = λ js same. rw (← same_has g.T.PartialEq.eq c.args.self.now.lines.flat.word js same, ← c.has_word.ensures, c.if-has_word.true) refl

pub returns-else-has_word : goal.returns-else-has_word
returns-else-has_word g c = λ js same. rw (← same_has g.T.PartialEq.eq c.args.self.now.lines.flat.word js same, ← c.has_word.ensures, c.if-has_word.false) refl
