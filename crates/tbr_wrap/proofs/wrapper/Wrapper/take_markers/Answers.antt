use Rattle.tbr_wrap.proofs.Common.{arith, on_ok_weaker}
use Rattle.tbr_wrap.proofs.words.RunEnds.{unmarked_stands}
use Rattle.tbr_wrap.proofs.wrapper.Wrapper.take_markers.Goals as goal

pub returns-clause-taken : goal.returns-clause-taken
returns-clause-taken g c = grind (arith, on_ok_weaker, unmarked_stands, c.requires.none, c.take_markers.ensures.rest)
