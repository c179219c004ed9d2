use Rattle.tbr_tagged.proofs.Common.{rules}
use Rattle.tbr_tagged.proofs.TextAfter.{chars_one}
use Rattle.tbr_tagged.proofs.element.new_piece.Goals as goal

pub returns : goal.returns
returns g c = search (rules, chars_one, c.in_ok-push.ensures.bytes, c.new-s.ensures.bytes, g.met.T.Tag.copies_equal, c.in_ok-tag.ensures.cases)
