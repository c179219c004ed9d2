use Rattle.tbr_wrap.proofs.Common.{◌≡◌, ◌+◌, true, false, nat_lt, arith, lt-ltb, le-ltb, on_ok_weaker, end_if_character, pending_width, same_items_trans}
use Rattle.tbr_model.specs.Rule.{put_tab}
use Rattle.tbr_wrap.proofs.words.WordsLaid.{same_held_width}
use Rattle.tbr_wrap.proofs.words.ModeCases.{stands_put}
use Rattle.tbr_wrap.proofs.wrapper.Wrapper.tab.Goals as goal

pub returns-then-pending-self-clause-put : goal.returns-then-pending-self-clause-put
returns-then-pending-self-clause-put g c = λ columns a one h before given p s.
    let eq = g.T.PartialEq.eq in let laws = g.met.T.Eq.laws in let b = c.args.self.now in
    let k = c.put_tab.ensures in
    let is : b.lines.line_width + c.pending_width-pending.result ≡ p.laid.width + pending_width p.space =
    omega
    (arith, s.lays.holds.width, s.lays.shows.width, c.pending_width-pending.ensures, same_held_width eq b.space p.space s.space) in
    let test : nat_lt (p.laid.width + pending_width p.space) b.lines.width ≡ true = lt-ltb _ _ (omega (arith, is, c.if-pending-self.true)) in
    let put = rw is at (k.put columns a one h before given p.laid s.lays) in
    let word = on_ok_weaker c.put_tab.result (λ w. same_items_trans eq laws c.put_tab.new.self.flat.word b.lines.flat.word p.word w s.word) k.word in
    rw test (stands_put columns eq b c.put_tab.new.self before given p (put_tab b.lines.width (p.laid.width + pending_width p.space) a p.laid) c.put_tab.result s put word)

pub put_tab-requires-2-clause-after : goal.put_tab-requires-2-clause-after
put_tab-requires-2-clause-after g c =
    let w = c.requires.stands in
    omega (arith, (c.in_ok-end_if_character.ensures.ended w.0 w.1.0 w.1.1 w.1.2.laid w.1.3.lays).1)

pub returns-clause-put : goal.returns-clause-put
returns-clause-put g c = λ columns a one h before given p s.
    let eq = g.T.PartialEq.eq in let laws = g.met.T.Eq.laws in let b = c.args.self.now in
    let f = c.in_ok-end_if_character.ensures in let k = c.put_tab-2.ensures in
    let is : b.lines.line_width + c.pending_width-pending.result ≡ p.laid.width + pending_width p.space =
    omega
    (arith, s.lays.holds.width, s.lays.shows.width, c.pending_width-pending.ensures, same_held_width eq b.space p.space s.space) in
    let test : nat_lt (p.laid.width + pending_width p.space) b.lines.width ≡ false = le-ltb _ _ (omega (arith, is, c.if-pending-self.false)) in
    let put = rw f.limits.width at (k.put columns a one h before given (end_if_character p.laid) (f.ended columns before given p.laid s.lays).0) in
    let word = on_ok_weaker c.put_tab-2.result (λ w. same_items_trans eq laws c.put_tab-2.new.self.flat.word b.lines.flat.word p.word (rw f.flat at w) s.word) k.word in
    rw test (stands_put columns eq b c.put_tab-2.new.self before given p (put_tab b.lines.width 0 a (end_if_character p.laid)) c.put_tab-2.result s put word)
