use Rattle.tbr_wrap.proofs.Common.{◌≡◌, List, None, ◌++◌, length, AllZip, Item, left, ShowsText}
use Rattle.tbr_wrap.proofs.block.WrappedBlock.hand_out.Given as goal

abbrev pub invariant-loop-lines : goal.invariant-loop-lines
invariant-loop-lines g l =
    (l.self.failure ≡ None) × (l.self.padding ≡ l.initial.self.padding) × (l.self.width ≡ l.initial.self.width)
    × (given : List (List (Item g.row.T.Denot))) ×
    (left g.W.CharWidth.columns l.initial.self ≡ given ++ left g.W.CharWidth.columns l.self) × AllZip
    (ShowsText g.W.CharWidth.columns g.T.PartialEq.eq l.initial.self.padding l.initial.self.width) l.lines.items
    given

abbrev pub decreases-loop-lines : goal.decreases-loop-lines
decreases-loop-lines g l = length (left g.W.CharWidth.columns l.self)
