use Rattle.tbr_tables.proofs.Within.{all_words_fit}
use Rattle.tbr_tables.proofs.laws.no_word_is_cut.Goals as goal

pub returns : goal.returns
returns c columns wrap steps = all_words_fit columns wrap steps
