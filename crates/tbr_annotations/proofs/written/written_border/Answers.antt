use Rattle.std.proofs.Common.{rules}
use Rattle.std.proofs.lemmas.Result.{IfOk-weaker}
use Rattle.tbr_annotations.proofs.MappedBorders.{border_is_so}
use Rattle.tbr_annotations.proofs.written.written_border.Goals as goal

pub returns : goal.returns
returns g c = search (rules, IfOk-weaker, border_is_so, c.try_map_tag.ensures)
