use Rattle.tbr_wrap.proofs.Common.{refl, sym, ◌∙◌, subst, rules, None, on_ok_weaker, put_spaces, put_pending, HoldsRule, SameSpace, same_items_trans}
use Rattle.tbr_wrap.proofs.words.WordsLaid.{on_ok_both, held_some}
use Rattle.tbr_wrap.proofs.wrapper.Wrapper.put_pending.Goals as goal

pub returns-in-Some-clause-put : goal.returns-in-Some-clause-put
returns-in-Some-clause-put g c = λ before given p s.
    let columns = g.W.CharWidth.columns in let eq = g.T.PartialEq.eq in let width = c.args.self.now.lines.width in
    let new = c.put_spaces.new.self in let k = c.put_spaces.ensures in
    let w = held_some eq c.args.self.now.space c.in-Some.space p.space (sym c.take.ensures.value ∙ c.in-Some.is) s.space in
    let both = on_ok_both c.put_spaces.result _ _ (k.put columns w.0.tag (g.met.W.CharWidth.drawn_in_one 32 refl) w.3 before given p.laid s.lays) k.word in
    on_ok_weaker c.put_spaces.result (λ b.
    let lays =
    subst (λ o. HoldsRule columns eq new before given (put_pending width o p.laid)) (sym w.1)
    (subst (λ n. HoldsRule columns eq new before given (put_spaces width w.0.tag n p.laid)) w.2 b.0) in
    let space : SameSpace eq c.take.new.self None = rw c.take.ensures.after tt in
    let word = same_items_trans eq g.met.T.Eq.laws new.flat.word c.args.self.now.lines.flat.word p.word b.1 s.word in
    search (rules, lays, space, word)) both
