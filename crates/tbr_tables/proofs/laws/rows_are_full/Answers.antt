use Rattle.tbr_tables.proofs.Tiles.{rows_full}
use Rattle.tbr_tables.proofs.laws.rows_are_full.Goals as goal

pub returns : goal.returns
returns c moves columns each = rows_full moves columns each
