use Rattle.tbr_tagged.proofs.Common.{rules, map_push}
use Rattle.std.proofs.lemmas.Slice.Zip.{all_zipped_more}
use Rattle.tbr_tagged.proofs.elements.map_tag.Goals as goal

pub loop-element-preserved : goal.loop-element-preserved
loop-element-preserved g c = search (rules, map_push, all_zipped_more, c.in_ok-push.ensures.items, c.loop-element.invariant, c.map_tag.ensures.mapped)
