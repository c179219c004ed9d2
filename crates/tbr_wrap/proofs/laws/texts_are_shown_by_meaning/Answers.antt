use Rattle.tbr_wrap.proofs.Common.{rules}
use Rattle.tbr_wrap.proofs.runs.ShownMeanings.{line_means, lines_mean}
use Rattle.tbr_wrap.proofs.laws.texts_are_shown_by_meaning.Goals as goal

pub returns : goal.returns
returns g c = search (rules, line_means, lines_mean)
