use Rattle.std.proofs.Common.{◌∙◌}
use Rattle.tbr_tags.specs.Lists.{lists_eq_is_same}
use Rattle.tbr_annotations.specs.Chain.{annotations_of}
use Rattle.tbr_annotations.proofs.Chains.{down_is_up}
use Rattle.tbr_annotations.proofs.annotations.AnnotationsPartialEq.eq.Goals as goal

pub returns-then-len : goal.returns-then-len
returns-then-len g c =
    let one = annotations_of c.self.inside.chain in
    let two = annotations_of c.other.inside.chain in
    rw (← c.self.view_is, ← c.other.view_is) (c.equal_chains.ensures ∙ down_is_up g.A.PartialEq.eq c.self.inside.chain c.other.inside.chain
    ∙ lists_eq_is_same g.A.Tag.meaning g.A.PartialEq.eq g.A.Tag.same g.met.A.Tag.equal_by_meaning g.A.Tag.tells one two)
