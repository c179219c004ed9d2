use Rattle.tbr_show.proofs.Common.{◌≡◌, ◌++◌, map, flat_map, element_of, element_tokens}
use Rattle.tbr_show.proofs.ndjson.write_elements.Given as goal

abbrev pub invariant-loop-element : goal.invariant-loop-element
invariant-loop-element g l = record {
  tokens : l.writer.tokens ≡ l.initial.writer.tokens ++ flat_map (element_tokens g.W.CharWidth.columns) (map (λ e. element_of e.now) l.yielded);
  before : l.writer.before ≡ l.initial.writer.before;
}
