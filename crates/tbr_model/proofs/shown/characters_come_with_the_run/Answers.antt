use Rattle.tbr_model.proofs.Common.{◌≡◌, true}
use Rattle.tbr_model.proofs.lines.RunCharacters.{come_with_run}
use Rattle.tbr_model.proofs.shown.characters_come_with_the_run.Goals as goal

pub returns : goal.returns
returns g c = λ columns width eq same es. come_with_run columns width (λ a b. eq a b ≡ true) same es
