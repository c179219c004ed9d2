use Rattle.tbr_model.proofs.words.KeptItems.{narrow_if_legal, best_lines, best_if_narrow}
use Rattle.tbr_model.proofs.laws.legal_layouts_exist.Goals as goal

pub returns : goal.returns
returns g c = record {
  legal = λ columns width run. (
    λ some. narrow_if_legal columns width run some.0 some.1,
    λ narrow. (best_lines columns width run, (best_if_narrow columns width run narrow).legal),
  );
  best = λ columns width run narrow. (best_lines columns width run, best_if_narrow columns width run narrow);
}
