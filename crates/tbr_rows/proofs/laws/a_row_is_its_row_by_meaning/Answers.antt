use Rattle.tbr_rows.proofs.MeantRows.{row_means}
use Rattle.tbr_rows.proofs.laws.a_row_is_its_row_by_meaning.Goals as goal

pub returns : goal.returns
returns g c = λ f eq same means told tells columns style tag hanging cells top row seen is laid.
    row_means f eq same means told tells columns style tag hanging cells top row seen is laid
