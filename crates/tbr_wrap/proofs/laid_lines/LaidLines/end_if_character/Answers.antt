use Rattle.tbr_wrap.proofs.Common.{refl, sym, ◌∙◌}
use Rattle.tbr_wrap.proofs.lines.LaidByRule.{lays_some, lays_none}
use Rattle.tbr_wrap.proofs.laid_lines.LaidLines.end_if_character.Goals as goal

pub returns-then-not-has_line-clause-ended : goal.returns-then-not-has_line-clause-ended
returns-then-not-has_line-clause-ended g c = λ columns before given r h.
    lays_none columns g.T.PartialEq.eq g.met.T.Eq.laws c.args.self.now _ (record { width = refl; may_overflow = refl })
    before given r h (sym (c.has_line.ensures before h.laid h.holds) ∙ c.if-not-has_line.true) h.holds refl

pub returns-clause-ended : goal.returns-clause-ended
returns-clause-ended g c = λ columns before given r h. (
  lays_some columns g.T.PartialEq.eq g.met.T.Eq.laws c.args.self.now c.end_line.new.self
      (record { width = c.in_ok-end_line.ensures.limits.width; may_overflow = c.in_ok-end_line.ensures.limits.may_overflow })
      before given r h (sym (c.has_line.ensures before h.laid h.holds) ∙ c.if-not-has_line.false)
      (c.in_ok-end_line.ensures.ended columns before given r h),
  c.in_ok-end_line.ensures.line_width,
)
