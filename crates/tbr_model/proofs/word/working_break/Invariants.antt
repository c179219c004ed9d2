use Rattle.tbr_model.proofs.Common.{◌≡◌, take, list_any, takes_columns, NoBreakWorks, entry_values}
use Rattle.tbr_model.proofs.word.working_break.Given as goal

abbrev pub invariant-loop-place : goal.invariant-loop-place
invariant-loop-place g l =
    let before = entry_values (take l.place l.entries) in
    (l.works ≡ list_any (takes_columns g.W.CharWidth.columns) before) × NoBreakWorks g.W.CharWidth.columns before
