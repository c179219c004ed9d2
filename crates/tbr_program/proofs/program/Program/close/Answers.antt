use Rattle.tbr_program.proofs.Common.{sym, subst, GoesOn}
use Rattle.tbr_program.proofs.Levels.{below_live}
use Rattle.tbr_program.proofs.program.Program.close.Goals as goal

pub returns-clause-goes_on : goal.returns-clause-goes_on
returns-clause-goes_on g c =
    below_live c.self.inside.renderers c.self.inside.pending c.self.inside.opened
    (subst GoesOn (sym c.self.view_is) c.requires.goes_on) c.pop-inside.new.self c.close.result c.close.new.self
    c.pop-inside.ensures.below c.close.ensures
