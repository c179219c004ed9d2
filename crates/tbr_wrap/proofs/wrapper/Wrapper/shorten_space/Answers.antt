use Rattle.tbr_wrap.proofs.Common.{◌≡◌, ◌-◌, false, nat_le, refl, arith, rules, on_ok_weaker, same_items_trans}
use borrow.Author.Tests.{lt-leb}
use Rattle.tbr_wrap.proofs.words.WordsLaid.{on_ok_both}
use Rattle.tbr_wrap.proofs.wrapper.Wrapper.shorten_space.Goals as goal

pub returns-then-space-room-clause-shortened : goal.returns-then-space-room-clause-shortened
returns-then-space-room-clause-shortened g c = λ before given p s t same.
    let columns = g.W.CharWidth.columns in let eq = g.T.PartialEq.eq in let b = c.args.self.now.lines in
    let new = c.place_spaces.new.self in let k = c.place_spaces.ensures in
    let less : nat_le (b.width - p.laid.width) s.width ≡ false = lt-leb _ _ (omega (arith, c.if-space-room.true, same.0, t.lays.holds.width, t.lays.shows.width)) in
    let both = on_ok_both c.place_spaces.result _ _ (k.placed columns s.tag (g.met.W.CharWidth.drawn_in_one 32 refl) same.1 before given p.laid t.lays) k.word in
    rw less (on_ok_weaker c.place_spaces.result (λ x.
    let lays = rw same.0 at x.0 in
    let word = same_items_trans eq g.met.T.Eq.laws new.flat.word b.flat.word p.word x.1 t.word in
    search (rules, lays, word)) both)
