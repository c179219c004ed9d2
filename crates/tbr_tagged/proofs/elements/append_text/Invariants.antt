use Rattle.tbr_tagged.proofs.Common.{◌≡◌, ◌++◌, map, take, chars, string_bytes, characters, element_of}
use Rattle.tbr_tagged.proofs.elements.append_text.Given as goal

abbrev pub invariant-loop-element : goal.invariant-loop-element
invariant-loop-element g l = chars (string_bytes l.text) ≡ chars (string_bytes l.fn.text) ++ characters (map element_of (take l.element-index l.elements))
