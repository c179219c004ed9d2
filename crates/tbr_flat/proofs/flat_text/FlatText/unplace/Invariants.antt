use Rattle.tbr_flat.proofs.Common.{◌≡◌, ◌+◌, ◌++◌, length, marked, covered}
use Rattle.tbr_flat.proofs.flat_text.FlatText.unplace.Given as goal

abbrev pub invariant-loop : goal.invariant-loop
invariant-loop g l = record {
  text : l.self-inside.text ≡ l.initial.self-inside.text;
  placed_fits : covered l.self-inside.placed ≡ length l.self-inside.text.placed;
  word_fits : covered l.self-inside.word ≡ length l.self-inside.text.word;
  items : marked l.self-inside.text.placed l.self-inside.placed.markers ++ marked l.self-inside.text.word l.self-inside.word.markers ≡ l.fn.self.placed ++ l.fn.self.word;
  moved : length (marked l.self-inside.text.placed l.self-inside.placed.markers) + l.counter ≡ length l.fn.self.placed;
}
