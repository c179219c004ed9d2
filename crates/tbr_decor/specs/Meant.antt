-- Elements of lines under what their tags mean.
use Rattle.std.specs.Prelude.{List, map}
use Rattle.tbr_tagged.specs.Elements.{Element}
-- an element with its tag as what that means
pub use Rattle.tbr_tagged.specs.Mapped.{map_element as meant}

-- and so each element of lines
abbrev pub lines_meant : {A M : Type 0} → (A → M) → List (List (Element A)) → List (List (Element M))
lines_meant meaning lines = map (map (meant meaning)) lines
