use Rattle.tbr_border.proofs.Common.{rules, take_all}
use Rattle.std.proofs.Common.{vec_len}
use Rattle.tbr_border.proofs.BorderText.{map-copies}
use Rattle.tbr_border.proofs.border.BorderHoriz.new_type.Goals as goal

pub returns : goal.returns
returns g c = search (rules, take_all, vec_len, map-copies, c.new-segments.ensures.items, c.new-segments.ensures.len, c.in_ok-new.ensures.ok, c.in_ok-resize.ensures.items, c.new.ensures.items)
