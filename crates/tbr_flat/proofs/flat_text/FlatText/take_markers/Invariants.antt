use Rattle.tbr_flat.proofs.Common.{◌≡◌, ◌++◌, false, length, map, has_character, names_in_items, marked, covered, element_of}
use Rattle.tbr_tagged.specs.Elements.{marker_element}
use Rattle.tbr_flat.proofs.flat_text.FlatText.take_markers.Given as goal

abbrev pub invariant-loop-name : goal.invariant-loop-name
invariant-loop-name g l = record {
  placed : marked l.self-inside.text.placed l.self-inside.placed.markers ≡ l.fn.self.placed;
  placed_fits : covered l.self-inside.placed ≡ length l.self-inside.text.placed;
  word_fits : covered l.self-inside.word ≡ length l.self-inside.text.word;
  no_character : has_character (marked l.self-inside.text.word l.self-inside.word.markers) ≡ false;
  markers : map element_of l.markers.items ++ map marker_element (names_in_items (marked l.self-inside.text.word l.self-inside.word.markers)) ≡ map marker_element (names_in_items l.fn.self.word);
}

abbrev pub decreases-loop-name : goal.decreases-loop-name
decreases-loop-name g l = length l.self-inside.word.markers
