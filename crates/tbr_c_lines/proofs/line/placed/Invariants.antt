use Rattle.std.proofs.Common.{◌≡◌, length, encode_utf8_all}
use Rattle.tbr_tagged.specs.Elements.{characters}
use Rattle.tbr_tagged.specs.View.{elements_of}
use Rattle.tbr_c_lines.specs.Line as seen
use Rattle.tbr_c_lines.proofs.line.placed.Given as goal

abbrev pub invariant-loop-element : goal.invariant-loop-element
invariant-loop-element g l = record {
  pieces : l.pieces.items ≡ seen.pieces_at g.A.Annotation.shown 0 (elements_of l.yielded);
  begin : l.begin ≡ length (encode_utf8_all (characters (elements_of l.yielded)));
}
