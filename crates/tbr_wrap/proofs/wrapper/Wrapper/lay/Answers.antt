use Rattle.tbr_wrap.proofs.Common.{◌≡◌, ◌<◌, ◌+◌, true, false, nat_le, sym, ◌∙◌, arith, rules, items_width, pending_width, wrap_space, held_width}
use borrow.Author.Tests.{le-leb, lt-leb}
use Rattle.tbr_wrap.proofs.words.WordsLaid.{same_held_width, no_room}
use Rattle.tbr_model.proofs.rule.WiderLines.{lay_wider}
use Rattle.tbr_wrap.proofs.wrapper.Wrapper.lay.Goals as goal

pub returns-then-has_room-clause-laid : goal.returns-then-has_room-clause-laid
returns-then-has_room-clause-laid g c = λ before given p s.
    let columns = g.W.CharWidth.columns in let b = c.args.self.now in
    let fits : nat_le (p.laid.width + (pending_width p.space + items_width columns p.word)) b.lines.width ≡ true =
    le-leb _ _ (omega (arith, c.has_room.ensures.0 c.if-has_room.true, same_held_width g.T.PartialEq.eq b.space p.space s.space, s.word_width, s.lays.holds.width, s.lays.shows.width)) in
    rw fits (c.in_ok-lay_here.ensures.laid before given p s)

pub lay_fresh-requires : goal.lay_fresh-requires
lay_fresh-requires g c = search (rules, c.requires.stands, c.in_ok-wrap_space.ensures.wrapped)

pub returns-clause-wider : goal.returns-clause-wider
returns-clause-wider g c = λ refused before given p s.
    let columns = g.W.CharWidth.columns in let eq = g.T.PartialEq.eq in let b = c.args.self.now in
    let q = wrap_space columns b.lines.width p p.space in
    let full : nat_le (p.laid.width + (pending_width p.space + items_width columns p.word)) b.lines.width ≡ false =
    lt-leb _ _ (let past : b.lines.width < b.lines.line_width + (held_width b.space + b.word_width) =
    no_room _ _ (λ h. let room : c.has_room.result ≡ true = c.has_room.ensures.1 h in
    let none : c.has_room.result ≡ false = c.if-has_room.false in absurd (let e : true ≡ false = sym room ∙ none in cc)) in
    omega (arith, past, same_held_width eq b.space p.space s.space, s.word_width, s.lays.holds.width, s.lays.shows.width)) in
    let n = c.lay_fresh.ensures.too_narrow refused before given q (c.in_ok-wrap_space.ensures.wrapped before given p s) in (
      sym c.in_ok-wrap_space.ensures.limits.may_overflow ∙ n.0,
      lay_wider columns b.lines.width p full (λ h. n.1 (rw c.in_ok-wrap_space.ensures.limits.width h)),
    )
