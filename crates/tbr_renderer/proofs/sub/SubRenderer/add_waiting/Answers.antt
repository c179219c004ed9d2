use Rattle.tbr_renderer.proofs.Fields.{holds_waiting, waiting_seen}
use Rattle.tbr_renderer.proofs.sub.SubRenderer.add_waiting.Goals as goal

pub invariant_of-self-2 : goal.invariant_of-self-2
invariant_of-self-2 g c = holds_waiting g.W.CharWidth.columns c.self.inside c.args.markers.items c.append.new.self c.in_ok-append.ensures.items c.self.invariant c.requires

pub returns-clause-waiting : goal.returns-clause-waiting
returns-clause-waiting g c = waiting_seen g.W.CharWidth.columns c.self.inside c.args.markers.items c.append.new.self c.in_ok-append.ensures.items c.args.self.now c.self.view_is
