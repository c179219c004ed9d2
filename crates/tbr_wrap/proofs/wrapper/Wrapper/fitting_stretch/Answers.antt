use Rattle.tbr_wrap.proofs.Common.{refl, subst, take, arith, has_character, is_pre, ArePlain}
use Rattle.tbr_wrap.proofs.words.Letters.{plain_stretch}
use Rattle.tbr_wrap.proofs.wrapper.Wrapper.fitting_stretch.Goals as goal

pub returns-in_default-clause-stretch : goal.returns-in_default-clause-stretch
returns-in_default-clause-stretch g c =
    plain_stretch g.W.CharWidth.columns (is_pre c.args.mode) (has_character c.args.self.now.lines.flat.word) c.args.text.now 0 (g.met.W.CharWidth.drawn_in_one 32 refl) (omega arith) tt

pub returns-then-count-gt0-clause-stretch : goal.returns-then-count-gt0-clause-stretch
returns-then-count-gt0-clause-stretch g c =
    let columns = g.W.CharWidth.columns in let text = c.args.text.now in let k = c.plain_in_front-count.ensures in
    plain_stretch columns (is_pre c.args.mode) (has_character c.args.self.now.lines.flat.word) text c.plain_in_front-count.result (g.met.W.CharWidth.drawn_in_one 32 refl) k.within
    (subst (λ b. ArePlain columns b (take c.plain_in_front-count.result text)) c.joins_spaces.ensures k.plain)

pub returns-clause-stretch : goal.returns-clause-stretch
returns-clause-stretch g c = c.letters_in_front.ensures.letters (is_pre c.args.mode) (has_character c.args.self.now.lines.flat.word)
