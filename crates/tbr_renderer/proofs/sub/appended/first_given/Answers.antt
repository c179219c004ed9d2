use Rattle.tbr_renderer.proofs.Common.{rules, length-append}
use Rattle.std.proofs.iter.Next.{Yields-more}
use Rattle.tbr_renderer.proofs.sub.appended.first_given.Goals as goal

pub loop-preserved : goal.loop-preserved
loop-preserved g c = search (rules, Yields-more, length-append, c.loop.invariant, c.in_ok-push.ensures.items, c.in-Some.ensures.goes_on, c.in-Some.ensures.gives)
