use Rattle.std.proofs.Common.{◌∙◌, ap, map, reverse}
use Rattle.tbr_tags.specs.Lists.{copies_mean_the_same}
use Rattle.tbr_annotations.specs.Chain.{annotations_of}
use Rattle.tbr_annotations.proofs.annotations.Annotations.to_vec.Goals as goal

pub returns : goal.returns
returns g c =
    rw (← c.self.view_is) (ap (map g.A.Tag.meaning) c.reverse.ensures.items
    ∙ copies_mean_the_same g.A.Tag.meaning g.A.Clone.is_clone g.A.PartialEq.eq g.met.A.Tag.equal_by_meaning g.met.A.Tag.copies_equal
    (annotations_of c.self.inside.chain) (reverse c.in_ok-copies.copies.items) c.in_ok-copies.ensures)
