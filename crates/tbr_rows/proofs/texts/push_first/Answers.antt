use Rattle.tbr_rows.proofs.Common.{rules, eqb-true, eqb-false, nil_from_length, on_ok_weaker, first_of}
use Rattle.tbr_rows.proofs.texts.push_first.Goals as goal

pub returns-then-is_empty-clause-items : goal.returns-then-is_empty-clause-items
returns-then-is_empty-clause-items g c = search (rules, nil_from_length, eqb-true, on_ok_weaker, c.if-is_empty.ensures, c.push_filler.ensures.items)

pub returns-clause-items : goal.returns-clause-items
returns-clause-items g c = search (rules, first_of, eqb-false, on_ok_weaker, c.if-is_empty.ensures, c.move_first.ensures.items)
