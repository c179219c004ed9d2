use Rattle.tbr_show.proofs.Common.{◌≡◌, ◌++◌, take, flat_map, annotation_tokens}
use Rattle.tbr_show.proofs.ndjson.write_annotations.Given as goal

abbrev pub invariant-loop-annotation : goal.invariant-loop-annotation
invariant-loop-annotation l = record {
  tokens : l.writer.tokens ≡ l.initial.writer.tokens ++ flat_map annotation_tokens (take l.annotation-index l.annotations);
  before : l.writer.before ≡ l.initial.writer.before;
}
