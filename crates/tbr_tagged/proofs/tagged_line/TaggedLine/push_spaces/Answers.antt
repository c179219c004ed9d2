use Rattle.tbr_tagged.proofs.Common.{map, rules, on_ok_weaker, spaces, stored, element_of}
use Rattle.tbr_tagged.proofs.SameItems.{push_items}
use Rattle.tbr_tagged.proofs.TextAfter.{pushed_merged}
use Rattle.tbr_tagged.proofs.tagged_line.TaggedLine.push_spaces.Goals as goal

pub returns-clause-items : goal.returns-clause-items
returns-clause-items g c =
    rw (← c.self.view_is) (on_ok_weaker c.push_spaces.result
    (push_items g.T.PartialEq.eq g.met.T.Eq.laws (map element_of (stored c.self.inside.elements)) (map element_of (stored c.push_spaces.new.elements)) (spaces c.args.count) c.args.tag.now)
    c.push_spaces.ensures.ok)

pub returns-clause-merged : goal.returns-clause-merged
returns-clause-merged g c = search (rules, pushed_merged, on_ok_weaker, c.self.view_is, c.push_spaces.ensures.ok)
