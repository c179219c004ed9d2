use Rattle.tbr_wrap.proofs.Common.{None, sym, ◌∙◌}
use Rattle.tbr_wrap.proofs.words.WordsLaid.{held_some, spaced_stands}
use Rattle.tbr_wrap.proofs.wrapper.Wrapper.wrap_space.Goals as goal

pub trim_word-requires-clause-stands : goal.trim_word-requires-clause-stands
trim_word-requires-clause-stands g c =
    let w = c.requires.stands in
    (w.0, w.1, record w.2 { space = None }, spaced_stands g.W.CharWidth.columns g.T.PartialEq.eq c.args.self.now _ w.0 w.1 w.2 None w.3 (rw c.take.ensures.after tt))

pub returns-in-PreWrap-clause-wrapped : goal.returns-in-PreWrap-clause-wrapped
returns-in-PreWrap-clause-wrapped g c = λ before given p s.
    let columns = g.W.CharWidth.columns in let eq = g.T.PartialEq.eq in
    let w = held_some eq c.args.self.now.space c.in-Some.space p.space (sym c.take.ensures.value ∙ c.in-Some.is) s.space in
    let taken = spaced_stands columns eq c.args.self.now _ before given p None s (rw c.take.ensures.after tt) in
    rw w.1 (rw (sym w.4 ∙ c.in-PreWrap.is) (c.trim_word.ensures.trimmed before given p w.0 taken))
