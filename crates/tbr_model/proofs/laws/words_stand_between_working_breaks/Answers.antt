use Rattle.tbr_model.proofs.words.Regions.{words_parted}
use Rattle.tbr_model.proofs.laws.words_stand_between_working_breaks.Goals as goal

pub returns-clause-left : goal.returns-clause-left
returns-clause-left g c = λ columns run regions rest h. (words_parted columns run regions rest h).1
