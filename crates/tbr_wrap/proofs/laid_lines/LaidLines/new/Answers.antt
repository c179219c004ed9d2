use Rattle.tbr_wrap.proofs.Common.{[], refl, ap, arith, nothing_laid}
use Rattle.tbr_wrap.proofs.laid_lines.LaidLines.new.Goals as goal

pub returns-clause-holds : goal.returns-clause-holds
returns-clause-holds g c = λ columns eq. record {
  laid = nothing_laid;
  holds = record { placed = ap (λ f. f.placed) c.new.ensures; lens = c.new-2.ensures.items; len = refl; markers = refl; width = refl };
  shows = record { rest = []; split = refl; done = tt; last = tt; width = refl };
  measured = record { small = omega arith; line = refl; done = tt };
}
