use Rattle.tbr_show.proofs.Common.{rules}
use Rattle.tbr_show.proofs.Appended.{one_after, on_ok_then}
use Rattle.tbr_show.proofs.html.push_coloured.Goals as goal

pub returns : goal.returns
returns c = search (rules, one_after, on_ok_then, c.in_ok-push_ascii.ensures, c.in_ok-push_ascii-2.ensures, c.in_ok-push_ascii-3.ensures, c.in_ok-push_parts.ensures, c.push_ascii-4.ensures)
