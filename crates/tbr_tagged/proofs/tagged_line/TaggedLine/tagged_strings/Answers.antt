use Rattle.tbr_tagged.proofs.Common.{ap, length, sym, ◌∙◌, rules, length-map, elements_left, strings_of, piece_of}
use Rattle.tbr_tagged.proofs.LineWalks.{few_stored, strings_are_pieces, pieces_among}
use Rattle.tbr_tagged.proofs.tagged_line.TaggedLine.tagged_strings.Goals as goal

pub returns-clause-pieces : goal.returns-clause-pieces
returns-clause-pieces g c = rw (← c.self.view_is, ← c.iter.ensures) (strings_are_pieces (elements_left c.iter.result))

pub returns-clause-len : goal.returns-clause-len
returns-clause-len g c = sym (length-map (strings_of (elements_left c.iter.result)) piece_of) ∙ ap length (returns-clause-pieces g c)

pub returns-clause-fits : goal.returns-clause-fits
returns-clause-fits g c = search (rules, pieces_among, length-map, few_stored, c.self.view_is)
