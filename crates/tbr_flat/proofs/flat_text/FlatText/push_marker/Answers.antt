use Rattle.tbr_flat.proofs.Common.{string_bytes, ◌∙◌, rules, on_ok_weaker}
use Rattle.tbr_flat.proofs.MarkedItems.{marked_push}
use Rattle.tbr_flat.proofs.MarkedText.{covered_pushed}
use Rattle.tbr_flat.proofs.flat_text.FlatText.push_marker.Goals as goal

pub invariant_of-self : goal.invariant_of-self
invariant_of-self g c =
    (c.self.invariant.0, covered_pushed c.push.result c.self.inside.word c.push.new.self (string_bytes c.args.name) c.push.ensures.ok c.push.ensures.err ∙ c.self.invariant.1)

pub returns : goal.returns
returns g c = search (rules, marked_push, on_ok_weaker, c.self.view_is, c.self.invariant.1, c.push.ensures.ok)
