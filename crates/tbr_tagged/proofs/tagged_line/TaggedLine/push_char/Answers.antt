use Rattle.tbr_tagged.proofs.Common.{map, [], ◌∷◌, on_ok_weaker, stored, element_of}
use Rattle.tbr_tagged.proofs.SameItems.{push_items}
use Rattle.tbr_tagged.proofs.TextAfter.{pushed_merged}
use Rattle.tbr_tagged.proofs.tagged_line.TaggedLine.push_char.Goals as goal

pub returns-clause-items : goal.returns-clause-items
returns-clause-items g c =
    rw (← c.self.view_is) (on_ok_weaker c.push_glyph.result
    (push_items g.T.PartialEq.eq g.met.T.Eq.laws (map element_of (stored c.self.inside.elements)) (map element_of (stored c.push_glyph.new.elements)) (c.args.c ∷ []) c.args.tag.now)
    c.push_glyph.ensures.ok)

pub returns-clause-merged : goal.returns-clause-merged
returns-clause-merged g c = λ merged.
    let pushed = pushed_merged g.T.PartialEq.eq g.met.T.Eq.laws _ (map element_of (stored c.push_glyph.new.elements)) (c.args.c ∷ []) c.args.tag.now (rw (← c.self.view_is) at merged) in
    on_ok_weaker c.push_glyph.result pushed c.push_glyph.ensures.ok
