use Rattle.tbr_view.proofs.Common.{◌≡◌}
use Rattle.tbr_view.proofs.session.Session.warn_of.Given as goal

abbrev pub invariant-loop-place : goal.invariant-loop-place
invariant-loop-place g l = record {
  program : l.self.program ≡ l.initial.self.program;
  levels : l.self.levels ≡ l.initial.self.levels;
  lost : l.self.lost ≡ l.initial.self.lost;
  tables : l.self.tables ≡ l.initial.self.tables;
}
