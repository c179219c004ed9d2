use Rattle.tbr_flat.proofs.Common.{chars, sym, subst, HasGrown, grown_same}
use Rattle.tbr_tagged.proofs.GrownLines.{grown_by_text}
use Rattle.tbr_flat.proofs.text_queue.TextQueue.move_under.Goals as goal

pub returns-in_err-push_text-clause-grown : goal.returns-in_err-push_text-clause-grown
returns-in_err-push_text-clause-grown g c = subst (HasGrown c.args.line.now) (sym c.in_err-push_text.ensures.err) (grown_same c.args.line.now)

pub returns-clause-grown : goal.returns-clause-grown
returns-clause-grown g c =
    subst (HasGrown c.args.line.now) (sym c.in_ok-push_text.ensures.ok) (grown_by_text g.T.PartialEq.eq c.args.line.now (chars c.front.result.now) c.args.tag)
