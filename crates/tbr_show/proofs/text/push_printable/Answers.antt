use Rattle.tbr_show.proofs.Common.{rules}
use Rattle.tbr_show.proofs.Appended.{printable_all, on_ok_then}
use Rattle.tbr_show.proofs.text.push_printable.Goals as goal

pub returns-then-is_printable : goal.returns-then-is_printable
returns-then-is_printable c = search (rules, on_ok_then, printable_all, c.is_printable.ensures, c.if-is_printable.true, c.push_text.ensures)
