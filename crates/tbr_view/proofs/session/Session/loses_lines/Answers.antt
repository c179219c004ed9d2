use Rattle.tbr_view.proofs.Common.{ap, sym, ◌∙◌}
use Rattle.tbr_view.specs.Session.{lines_hang}
use Rattle.tbr_view.proofs.session.Session.loses_lines.Goals as goal

pub returns : goal.returns
returns g c = c.has_overhanging_lines.ensures ∙ ap lines_hang (sym c.top.ensures)
