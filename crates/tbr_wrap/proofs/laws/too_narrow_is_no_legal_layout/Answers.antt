use Rattle.tbr_wrap.proofs.Common.{rules}
use Rattle.tbr_wrap.proofs.runs.BlockLaws.{no_layout_if_refused, refused_if_no_layout}
use Rattle.tbr_wrap.proofs.laws.too_narrow_is_no_legal_layout.Goals as goal

pub returns : goal.returns
returns g c = search (rules, no_layout_if_refused, refused_if_no_layout)
