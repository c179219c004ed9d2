use Rattle.column_widths.proofs.AnyWidths.{words_fit}
use Rattle.column_widths.proofs.laws.longest_words_fit.Goals as goal

pub returns : goal.returns
returns c = words_fit
