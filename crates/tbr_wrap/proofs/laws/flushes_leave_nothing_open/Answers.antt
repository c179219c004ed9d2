use Rattle.tbr_wrap.proofs.Common.{rules}
use Rattle.tbr_wrap.proofs.runs.BlockLaws.{none_open, no_columns_open, run_waits, waiting_loose, none_open_taken}
use Rattle.tbr_wrap.proofs.laws.flushes_leave_nothing_open.Goals as goal

pub returns : goal.returns
returns g c = search (rules, none_open, no_columns_open, run_waits, waiting_loose, none_open_taken)
