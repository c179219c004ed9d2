use Rattle.tbr_wrap.proofs.Common.{refl, sym, ◌∙◌, subst, rules, None, on_ok_weaker, extended, spaces, space_text, pending_width, HoldsRule, SameSpace, same_items_trans}
use Rattle.tbr_wrap.proofs.words.WordsLaid.{on_ok_both, held_some}
use Rattle.tbr_wrap.proofs.wrapper.Wrapper.place_pending.Goals as goal

pub returns-in-Some-clause-placed : goal.returns-in-Some-clause-placed
returns-in-Some-clause-placed g c = λ before given p s.
    let columns = g.W.CharWidth.columns in let eq = g.T.PartialEq.eq in let new = c.place_spaces.new.self in
    let k = c.place_spaces.ensures in
    let w = held_some eq c.args.self.now.space c.in-Some.space p.space (sym c.take.ensures.value ∙ c.in-Some.is) s.space in
    let both = on_ok_both c.place_spaces.result _ _ (k.placed columns w.0.tag (g.met.W.CharWidth.drawn_in_one 32 refl) w.3 before given p.laid s.lays) k.word in
    on_ok_weaker c.place_spaces.result (λ b.
    let lays =
    subst (λ o. HoldsRule columns eq new before given (extended p.laid (space_text o) (pending_width o))) (sym w.1)
    (subst (λ n. HoldsRule columns eq new before given (extended p.laid (spaces n w.0.tag) n)) w.2 b.0) in
    let space : SameSpace eq c.take.new.self None = rw c.take.ensures.after tt in
    let word = same_items_trans eq g.met.T.Eq.laws new.flat.word c.args.self.now.lines.flat.word p.word b.1 s.word in
    search (rules, lays, space, word)) both
