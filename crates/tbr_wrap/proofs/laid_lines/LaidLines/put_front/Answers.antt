use Rattle.std.specs.Bool.{⊤}
use Rattle.tbr_wrap.proofs.Common.{arith}
use Rattle.tbr_wrap.proofs.lines.LaidByRule.{put_here, put_next}
use Rattle.tbr_wrap.proofs.laid_lines.LaidLines.put_front.Goals.{then-width-self-2+in_ok-end_line, else-width-self-2}
use Rattle.tbr_wrap.proofs.laid_lines.LaidLines.put_front.Goals as goal

pub returns-clause-put : goal.returns-clause-put
returns-clause-put g c =
    let columns = g.W.CharWidth.columns in let eq = g.T.PartialEq.eq in let laws = g.met.T.Eq.laws in
    let old = c.args.self.now in let new = c.place_front.new.self in let put = c.in_ok-place_front.ensures.put in
    elim c.if-width-self-2.branch [
      | then-width-self-2+in_ok-end_line w ↦
          let ended = w.in_ok-end_line.ensures in let mid = w.end_line.new.self in
          put_next {E = ⊤} columns eq laws old mid new (put_here columns eq laws mid c.if-width-self-2.self new put w.self-is) ended.flat ended.limits.width (ended.ended columns)
          (omega (arith, c.requires.width, w.if-width-self-2.true)) (omega (arith, c.requires.width, c.if-width-self.false))
      | else-width-self-2 w ↦ put_here columns eq laws old c.if-width-self-2.self new put w.self-is
    ]
