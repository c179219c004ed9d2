use Rattle.tbr_wrap.proofs.Common.{rules, [], on_ok_weaker, SameItems}
use Rattle.tbr_wrap.proofs.words.WordsLaid.{put_fitting, same_narrow, on_ok_both}
use Rattle.tbr_wrap.proofs.wrapper.Wrapper.put_fresh.Goals as goal

pub returns-then-width-self-clause-put : goal.returns-then-width-self-clause-put
returns-then-width-self-clause-put g c = search (rules, put_fitting, c.in_ok-place_word.ensures, c.replace-width.ensures.value, c.if-width-self.true, c.replace-width.ensures.after)

pub returns-clause-put : goal.returns-clause-put
returns-clause-put g c = λ before given p s.
    let k = c.put_word.ensures in
    on_ok_weaker c.put_word.result (λ x. let word : SameItems g.T.PartialEq.eq c.put_word.new.self.flat.word [] = rw x.1 tt in search (rules, x.0, word, c.replace-width.ensures.after))
    (on_ok_both c.put_word.result _ _ (k.put p.word s.word before given p.laid s.lays) k.word)

pub returns-clause-too_narrow : goal.returns-clause-too_narrow
returns-clause-too_narrow g c = λ refused before given p s.
    let n = c.put_word.ensures.too_narrow refused in
    (n.0, λ h. n.1 (same_narrow g.W.CharWidth.columns g.T.PartialEq.eq c.args.self.now.lines.width c.args.self.now.lines.flat.word p.word s.word h))
