use Rattle.std.proofs.Common.{◌≡◌, ℕ, List, ◌++◌, length}
use Rattle.std.specs.Io.KnownBytes.{Appends}
use Rattle.tbr_script.proofs.streams.write_all.Given as goal

abbrev pub invariant-loop-rest : goal.invariant-loop-rest
invariant-loop-rest g l = record {
  written : (done : List ℕ) × (done ++ l.rest ≡ l.fn.bytes) × Appends (g.S.Sink.contents l.fn.sink) (g.S.Sink.contents l.sink) done;
  failure : g.S.Sink.failed l.sink ≡ g.S.Sink.failed l.fn.sink;
}

abbrev pub decreases-loop-rest : goal.decreases-loop-rest
decreases-loop-rest g l = length l.rest
