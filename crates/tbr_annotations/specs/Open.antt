-- What open annotations are known by.
use Rattle.std.specs.Prelude.{◌≡◌, List, [], ◌∷◌, ◌++◌}

-- the list and one more
abbrev pub HasOneMore : {M : Type 0} → List M → List M → Type 0
HasOneMore {M} list more = (m : M) × (more ≡ list ++ m ∷ [])

-- its last one
abbrev pub HasLast : {M : Type 0} → List M → M → Type 0
HasLast {M} list m = (front : List M) × (list ≡ front ++ m ∷ [])
