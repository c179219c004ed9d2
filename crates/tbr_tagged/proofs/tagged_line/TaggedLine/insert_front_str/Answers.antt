use Rattle.tbr_tagged.proofs.Common.{map, rules, stored, element_of}
use Rattle.std.specs.Str.{chars}
use Rattle.tbr_tagged.proofs.TextAfter.{chars_some}
use Rattle.tbr_tagged.proofs.TextInFront.{items_inserted, merged_inserted}
use Rattle.tbr_tagged.proofs.tagged_line.TaggedLine.insert_front_str.Goals as goal

pub returns-clause-items : goal.returns-clause-items
returns-clause-items g c =
    rw (c.in_ok-put_str_in_front.ensures.ok, ← c.self.view_is) (items_inserted g.T.PartialEq.eq g.met.T.Eq.laws (map element_of (stored c.self.inside.elements)) (chars c.args.text.now) c.args.tag)

pub returns-clause-merged : goal.returns-clause-merged
returns-clause-merged g c = search (rules, merged_inserted, chars_some, c.in_ok-put_str_in_front.ensures.ok, c.self.view_is)
