use Rattle.tbr_wrap.proofs.Common.{same_has}
use Rattle.tbr_wrap.proofs.wrapper.Wrapper.flush_word.Goals as goal

pub returns-then-not-has_word-clause-laid : goal.returns-then-not-has_word-clause-laid
returns-then-not-has_word-clause-laid g c = λ before given p s.
    rw (← same_has g.T.PartialEq.eq c.args.self.now.lines.flat.word p.word s.word, ← c.has_word.ensures, c.if-not-has_word.true) s

pub returns-clause-laid : goal.returns-clause-laid
returns-clause-laid g c = λ before given p s.
    rw (← same_has g.T.PartialEq.eq c.args.self.now.lines.flat.word p.word s.word, ← c.has_word.ensures, c.if-not-has_word.false) (c.lay.ensures.laid before given p s)

pub returns-clause-wider : goal.returns-clause-wider
returns-clause-wider g c = λ refused before given p s.
    rw (← same_has g.T.PartialEq.eq c.args.self.now.lines.flat.word p.word s.word, ← c.has_word.ensures, c.if-not-has_word.false) (c.lay.ensures.wider refused before given p s)
