use Rattle.script_laws.proofs.StackCalls.{lines_step, link_number_is_its_own}
use Rattle.script_laws.proofs.laws.links_of_scripts_end_with_their_own_numbers.Goals as goal

pub returns : goal.returns
returns g c = record { calls = lines_step; number = link_number_is_its_own }
