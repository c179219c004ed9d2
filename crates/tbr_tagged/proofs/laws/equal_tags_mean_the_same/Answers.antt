use Rattle.tbr_tagged.proofs.Common.{rules}
use Rattle.tbr_tagged.proofs.MappedTags.{means_same_items, means_same_lines}
use Rattle.tbr_tagged.proofs.laws.equal_tags_mean_the_same.Goals as goal

pub returns : goal.returns
returns g c = search (rules, means_same_items, means_same_lines)
