use Rattle.tbr_wrap.proofs.Common.{◌≡◌, true, nat_lt, arith, lt-ltb, items_width}
use Rattle.tbr_wrap.proofs.wrapper.Wrapper.break_word.Goals as goal

pub returns-clause-wider : goal.returns-clause-wider
returns-clause-wider g c = λ refused before given p s.
    let some : nat_lt 0 (items_width g.W.CharWidth.columns p.word) ≡ true = lt-ltb _ _ (omega (arith, c.if-self-eq0.false, s.word_width)) in
    rw some (c.lay.ensures.wider refused before given p s)
