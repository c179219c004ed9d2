use Rattle.tbr_wrap.proofs.Common.{refl}
use Rattle.tbr_wrap.proofs.lines.HeldLines.{holds_end}
use Rattle.tbr_wrap.proofs.lines.LaidByRule.{lays_ended}
use Rattle.tbr_wrap.proofs.laid_lines.LaidLines.end_line.Goals as goal

pub returns-clause-held : goal.returns-clause-held
returns-clause-held g c = λ before l h. holds_end c.args.self.now _ before l c.args.self.now.line_len h h.len refl c.in_ok-push_back.ensures.items refl refl refl

pub returns-clause-ended : goal.returns-clause-ended
returns-clause-ended g c = λ columns before given r h.
    lays_ended columns g.T.PartialEq.eq g.met.T.Eq.laws c.args.self.now _ (record { width = refl; may_overflow = refl }) before given r h
    (holds_end c.args.self.now _ before h.laid c.args.self.now.line_len h.holds h.holds.len refl c.in_ok-push_back.ensures.items refl refl refl)
