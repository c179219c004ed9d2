use Rattle.tbr_model.proofs.layouts.Cuts.{first_gap}
use Rattle.tbr_model.proofs.laws.first_gap_never_counts.Goals as goal

pub returns : goal.returns
returns g c = record {
  legal = λ width s gap ss cuts h. (first_gap width s gap ss cuts h).0;
  texts = λ width s gap ss cuts h. (first_gap width s gap ss cuts h).1;
}
