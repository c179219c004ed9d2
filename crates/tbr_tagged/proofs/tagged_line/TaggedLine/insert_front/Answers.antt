use Rattle.tbr_tagged.proofs.Common.{map, chars, rules, string_bytes, IsUtf8-string_bytes, stored, element_of}
use Rattle.tbr_tagged.proofs.TextAfter.{chars_some}
use Rattle.tbr_tagged.proofs.TextInFront.{items_inserted, merged_inserted}
use Rattle.tbr_tagged.proofs.tagged_line.TaggedLine.insert_front.Goals as goal

pub returns-clause-items : goal.returns-clause-items
returns-clause-items g c =
    rw (c.in_ok-put_text_in_front.ensures.ok, ← c.self.view_is)
    (items_inserted g.T.PartialEq.eq g.met.T.Eq.laws (map element_of (stored c.self.inside.elements))
    (chars (string_bytes c.args.ts.s)) c.args.ts.tag)

pub returns-clause-merged : goal.returns-clause-merged
returns-clause-merged g c = search (rules, chars_some, IsUtf8-string_bytes, merged_inserted, c.in_ok-put_text_in_front.ensures.ok, c.self.view_is)
