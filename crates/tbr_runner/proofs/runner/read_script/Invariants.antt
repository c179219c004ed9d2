use Rattle.tbr_runner.proofs.Common.{◌≡◌, ◌-◌, ◌^◌, false, length, vec_len}
use Rattle.std.specs.Io.KnownBytes.{Consumes}
use Rattle.tbr_runner.proofs.runner.read_script.Given as goal

abbrev pub decreases-loop-count : goal.decreases-loop-count
decreases-loop-count g l = 2 ^ 64 - vec_len l.script

abbrev pub invariant-loop-count : goal.invariant-loop-count
invariant-loop-count g l = record {
  so_far : Consumes (g.R.Source.remaining l.fn.reader) (g.R.Source.remaining l.reader) l.script.items;
  works : g.R.Source.failed l.reader ≡ false;
  room : length l.buffer ≡ 4096;
}
