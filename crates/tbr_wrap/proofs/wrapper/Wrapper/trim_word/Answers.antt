use Rattle.tbr_wrap.proofs.Common.{refl, ◌∙◌, rules, without_leading, same_width}
use Rattle.tbr_wrap.proofs.wrapper.Wrapper.trim_word.Goals as goal

pub returns-clause-trimmed : goal.returns-clause-trimmed
returns-clause-trimmed g c = λ before given p s t.
    let columns = g.W.CharWidth.columns in let eq = g.T.PartialEq.eq in let k = c.trim.ensures in
    let word = k.word p.word t.word in
    let lays = k.trimmed columns before given p.laid (g.met.W.CharWidth.drawn_in_one 32 refl) t.lays in
    let wide = c.in_ok-self.ensures ∙ same_width columns eq c.trim.new.self.flat.word (without_leading p.word) word in
    search (rules, lays, word, wide)
