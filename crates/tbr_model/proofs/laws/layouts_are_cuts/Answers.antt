use Rattle.tbr_model.proofs.layouts.Cuts.{lines_again, legal_alike, best_alike}
use Rattle.tbr_model.proofs.laws.layouts_are_cuts.Goals as goal

pub returns-clause-cuts_of_lines : goal.returns-clause-cuts_of_lines
returns-clause-cuts_of_lines g c = lines_again

pub returns-clause-legal : goal.returns-clause-legal
returns-clause-legal g c = legal_alike

pub returns-clause-best : goal.returns-clause-best
returns-clause-best g c = best_alike
