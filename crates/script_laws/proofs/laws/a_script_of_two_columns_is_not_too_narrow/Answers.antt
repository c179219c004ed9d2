use Rattle.script_laws.proofs.TwoColumns.{not_too_narrow}
use Rattle.script_laws.proofs.laws.a_script_of_two_columns_is_not_too_narrow.Goals as goal

pub returns : goal.returns
returns g c = not_too_narrow
