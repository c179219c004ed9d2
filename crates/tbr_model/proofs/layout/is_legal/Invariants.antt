use Rattle.tbr_model.proofs.Common.{◌↔◌, drop, slot_values, IsLegalLayout}
use Rattle.tbr_model.proofs.layouts.Cuts.{LegalAfter}
use Rattle.tbr_model.proofs.layout.is_legal.Given as goal

-- the cuts are legal exactly where those that are left are
abbrev pub invariant-loop-to : goal.invariant-loop-to
invariant-loop-to g l = IsLegalLayout l.width (slot_values l.slots) l.cuts ↔ LegalAfter l.width (slot_values l.slots) l.from (drop l.to-index l.later)
