use Rattle.tbr_wrap.proofs.Common.{arith}
use Rattle.tbr_wrap.proofs.lines.CutLines.{none_cut}
use Rattle.tbr_wrap.proofs.ended_lines.EndedLines.move_line.Goals as goal

pub returns-in_default-clause-items : goal.returns-in_default-clause-items
returns-in_default-clause-items g c = λ is rest e.
    absurd
    (none_cut c.self.inside.laid.value.lines.ended.items c.self.inside.laid.value.lines.flat.placed is
    c.args.self.now rest
    (omega (arith, c.self.invariant.0, rw c.deref_mut.ensures.value at c.in_default.ensures.cases.0))
    c.self.view_is e)
