use Rattle.tbr_tagged.proofs.Common.{chars-nil}
use Rattle.tbr_tagged.proofs.element.TaggedLineElement.as_str.Goals as goal

pub returns-in-FragmentStart : goal.returns-in-FragmentStart
returns-in-FragmentStart g c = rw c.in-FragmentStart.is chars-nil
