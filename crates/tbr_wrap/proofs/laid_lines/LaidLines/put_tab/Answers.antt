use Rattle.tbr_wrap.proofs.Common.{◌≡◌, true, ◌-◌, ◌%◌, false, nat_le, ◌∙◌, extended, spaces}
use borrow.Author.Tests.{lt-leb}
use Rattle.tbr_wrap.proofs.laid_lines.LaidLines.put_tab.Goals as goal

pub returns-clause-put : goal.returns-clause-put
returns-clause-put g c = λ columns a one same before given r h.
    let laws = g.met.T.Eq.laws in let room = c.args.self.now.width - c.args.column in
    let copy : g.T.PartialEq.eq c.in_ok-tag.tag a ≡ true = laws.congr _ _ a (laws.symm _ _ ∙ g.met.T.Tag.copies_equal _ _ c.in_ok-tag.ensures.cases) ∙ same in
    let test : nat_le (8 - c.args.column % 8) room ≡ false = lt-leb _ _ c.if-stop-room.false in
    rw test (c.end_line.ensures.ended columns before given (extended r (spaces room a) room) (c.in_ok-place_spaces.ensures.placed columns a one copy before given r h))
