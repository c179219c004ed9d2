use Rattle.tbr_flat.proofs.Common.{append_assoc, rules, take-add, drop-drop}
use Rattle.std.proofs.lemmas.List.Concat.{flat_map-append}
use Rattle.tbr_flat.proofs.flat_text.FlatText.move_text.Goals as goal

pub loop-left-preserved : goal.loop-left-preserved
loop-left-preserved g c = search (rules, take-add, flat_map-append, append_assoc, drop-drop, c.loop-left.invariant, c.in_ok-left.ensures.some.1, c.in_ok-left.ensures.text, c.in_ok-left.ensures.rest)
