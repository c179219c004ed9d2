use Rattle.tbr_statements.proofs.NearWords.{IsBest, NoneIsNearer}
use Rattle.tbr_statements.proofs.words.nearest.Given as goal

abbrev pub invariant-loop-text : goal.invariant-loop-text
invariant-loop-text l = record {
  best : IsBest l.word l.among l.best l.least;
  none : NoneIsNearer l.word l.among l.text-index l.least;
}
