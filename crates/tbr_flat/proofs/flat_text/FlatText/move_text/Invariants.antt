use Rattle.tbr_flat.proofs.Common.{◌≡◌, ◌≤◌, ◌-◌, ◌++◌, take, drop, item_characters}
use Rattle.tbr_tagged.specs.View.{chars_of}
use Rattle.tbr_flat.proofs.flat_text.FlatText.move_text.Given as goal

abbrev pub invariant-loop-left : goal.invariant-loop-left
invariant-loop-left g l = record {
  within : l.left ≤ l.fn.items;
  text : chars_of l.text ≡ chars_of l.fn.text ++ item_characters (take (l.fn.items - l.left) l.fn.self.placed);
  rest : l.self ≡ record l.fn.self { placed = drop (l.fn.items - l.left) l.fn.self.placed };
}

abbrev pub decreases-loop-left : goal.decreases-loop-left
decreases-loop-left g l = l.left
