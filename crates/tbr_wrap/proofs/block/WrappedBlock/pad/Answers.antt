use Rattle.tbr_wrap.proofs.Common.{◌≡◌, None, append-nil, refl, items_of}
use Rattle.tbr_tagged.proofs.SameItems.{same_items}
use Rattle.tbr_wrap.proofs.block.WrappedBlock.pad.Goals as goal

pub returns-then-not-self-clause-items : goal.returns-then-not-self-clause-items
returns-then-not-self-clause-items g c =
    let none : c.args.self.now.padding ≡ None = rw (← c.self.view_is, c.if-not-self.true) refl in
    rw (none, append-nil) (same_items g.T.PartialEq.eq g.met.T.Eq.laws (items_of c.args.line.now))
