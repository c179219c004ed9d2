use Rattle.tbr_model.proofs.Common.{◌≡◌, true}
use Rattle.tbr_model.proofs.lines.KeptOrder.{shown_in_order}
use Rattle.tbr_model.proofs.shown.order_is_kept.Goals as goal

pub returns : goal.returns
returns g c = λ columns width eq same es. shown_in_order columns width (λ a b. eq a b ≡ true) same es
