use Rattle.tbr_tables.proofs.Widths.{below_where}
use Rattle.tbr_tables.proofs.laws.cells_are_below_where_words_do_not_fit.Goals as goal

pub returns : goal.returns
returns c = below_where
