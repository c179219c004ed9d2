use Rattle.tbr_wrap.proofs.Common.{◌∙◌, sym, arith}
use Rattle.tbr_wrap.proofs.words.ModeCases.{collapse_zero, collapse_pending, collapse_empty, same_some}
use Rattle.tbr_wrap.proofs.wrapper.Wrapper.collapse.Goals as goal
use Rattle.tbr_wrap.proofs.wrapper.Wrapper.collapse.Goals.{then-c-eq-ZERO_WIDTH_SPACE-via-then-c-eq-ZERO_WIDTH_SPACE, then-c-eq-ZERO_WIDTH_SPACE-via-else-c-eq-ZERO_WIDTH_SPACE+then-is_some}
use Rattle.tbr_wrap.proofs.wrapper.Wrapper.collapse.Goals.{then-c-eq-ZERO_WIDTH_SPACE-via-else-c-eq-ZERO_WIDTH_SPACE+else-is_some+then-self-eq0}

pub returns-then-c-eq-ZERO_WIDTH_SPACE-clause-after_change : goal.returns-then-c-eq-ZERO_WIDTH_SPACE-clause-after_change
returns-then-c-eq-ZERO_WIDTH_SPACE-clause-after_change g c = λ columns a same before given p s.
    elim c.then-c-eq-ZERO_WIDTH_SPACE.branch [
      | then-c-eq-ZERO_WIDTH_SPACE-via-then-c-eq-ZERO_WIDTH_SPACE w ↦ rw (collapse_zero c.args.c a p w.if-c-eq-ZERO_WIDTH_SPACE.true) s
      | then-c-eq-ZERO_WIDTH_SPACE-via-else-c-eq-ZERO_WIDTH_SPACE+then-is_some w ↦ rw
          (collapse_pending c.args.c a p
          (same_some g.T.PartialEq.eq c.args.self.now.space p.space s.space
          (sym w.is_some.ensures ∙ w.if-is_some.true))) s
      | then-c-eq-ZERO_WIDTH_SPACE-via-else-c-eq-ZERO_WIDTH_SPACE+else-is_some+then-self-eq0 w ↦ rw
          (collapse_empty c.args.c a p (omega (arith, w.if-self-eq0.true, s.lays.holds.width, s.lays.shows.width))) s
    ]
