use Rattle.tbr_wrap.proofs.Common.{rules, on_ok_weaker}
use Rattle.tbr_wrap.proofs.words.RunEnds.{marked_stands}
use Rattle.tbr_wrap.proofs.wrapper.Wrapper.add_marker.Goals as goal

pub returns-clause-added : goal.returns-clause-added
returns-clause-added g c = search (rules, on_ok_weaker, marked_stands, c.push_marker.ensures)
