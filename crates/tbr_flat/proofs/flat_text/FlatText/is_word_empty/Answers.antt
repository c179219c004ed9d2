use Rattle.tbr_flat.proofs.Common.{nil_from_length, rules, eqb-true, eq-eqb, true≢false}
use Rattle.tbr_flat.proofs.MarkedText.{unmarked}
use Rattle.tbr_flat.proofs.flat_text.FlatText.is_word_empty.Goals as goal

pub returns-then-is_word_empty : goal.returns-then-is_word_empty
returns-then-is_word_empty g c = search (rules, nil_from_length, eqb-true, eq-eqb, unmarked, c.self.view_is, c.is_word_empty.ensures.0, c.if-is_word_empty.true, c.len.ensures)

pub returns-else-is_word_empty : goal.returns-else-is_word_empty
returns-else-is_word_empty g c = search (rules, true≢false, unmarked, c.self.view_is, c.if-is_word_empty.false, c.is_word_empty.ensures.1)
