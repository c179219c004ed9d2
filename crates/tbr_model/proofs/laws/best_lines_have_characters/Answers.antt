use Rattle.tbr_model.proofs.words.LinesHaveCharacters.{best_characters}
use Rattle.tbr_model.proofs.laws.best_lines_have_characters.Goals as goal

pub returns : goal.returns
returns g c = best_characters
