-- Lists of annotations.
use Rattle.std.specs.Prelude.{Bool, List}
use Rattle.std.specs.Cmp.Lexicographic.{pointwise}

-- as many annotations, which mean the same in order
abbrev pub same_annotations : {M : Type 0} → (M → M → Bool) → List M → List M → Bool
same_annotations same = pointwise same
