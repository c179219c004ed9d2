use Rattle.std.proofs.Common.{◌≡◌, ◌++◌, take, flat_map}
use Rattle.tbr_c_lines.specs.Formats.{tokens_of}
use Rattle.tbr_c_lines.proofs.formats.write_pieces.Given as goal

abbrev pub invariant-loop-piece : goal.invariant-loop-piece
invariant-loop-piece l = record {
  tokens : l.writer.tokens ≡ l.initial.writer.tokens ++ flat_map (λ p. tokens_of l.is_bare p.what) (take l.piece-index l.pieces);
  before : l.writer.before ≡ l.initial.writer.before;
}
