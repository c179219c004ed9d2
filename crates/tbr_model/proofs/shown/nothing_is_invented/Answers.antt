use Rattle.tbr_model.proofs.Common.{◌≡◌, true}
use Rattle.tbr_model.proofs.lines.NothingInvented.{nothing_invented}
use Rattle.tbr_model.proofs.shown.nothing_is_invented.Goals as goal

pub returns : goal.returns
returns g c = λ columns width eq same. nothing_invented columns width (λ a b. eq a b ≡ true) same
