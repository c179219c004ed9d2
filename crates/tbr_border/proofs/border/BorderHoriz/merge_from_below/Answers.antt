use Rattle.tbr_border.proofs.Common.{rules}
use Rattle.tbr_border.proofs.HolesInOrder.{in_order_longer}
use Rattle.tbr_border.proofs.border.BorderHoriz.merge_from_below.Goals as goal

pub invariant_of-self : goal.invariant_of-self
invariant_of-self g c = search (rules, in_order_longer, c.deref_mut.ensures.value, c.self.invariant, c.merge.ensures.longer)
