use Rattle.tbr_tagged.proofs.Common.{refl, element_of}
use Rattle.tbr_tagged.proofs.TextAfter.{last_of-map}
use Rattle.tbr_tagged.proofs.element_list.ElementList.ends_under.Goals as goal

pub returns-in-Listed : goal.returns-in-Listed
returns-in-Listed g c =
    rw (c.in-Listed.is, last_of-map element_of c.in-Listed.list.items, c.is_under-in-Listed.ensures, c.last.ensures.value, c.deref.ensures.value) refl
