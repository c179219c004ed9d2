use Rattle.tbr_flat.proofs.Common.{append-nil, rules}
use Rattle.tbr_flat.proofs.MarkedText.{nothing_left}
use Rattle.tbr_flat.proofs.flat_text.FlatText.take_markers.Goals as goal

pub returns-clause-markers : goal.returns-clause-markers
returns-clause-markers g c = search (rules, nothing_left, append-nil, c.loop-name.invariant, c.holds_characters.ensures.word, c.in_default.ensures.1)

pub returns-clause-rest : goal.returns-clause-rest
returns-clause-rest g c = search (rules, nothing_left, c.loop-name.invariant, c.holds_characters.ensures.word, c.in_default.ensures.1, c.in_default.ensures.0)
