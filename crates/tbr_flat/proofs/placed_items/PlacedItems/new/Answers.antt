use Rattle.tbr_flat.proofs.Common.{ap, ◌∙◌, is_utf8, is_utf8-from_IsUtf8}
use Rattle.tbr_flat.proofs.placed_items.PlacedItems.new.Goals as goal

pub invariant_of-result : goal.invariant_of-result
invariant_of-result c = ap is_utf8 c.chars.ensures.rest ∙ is_utf8-from_IsUtf8 c.args.text.now c.utf8.text
