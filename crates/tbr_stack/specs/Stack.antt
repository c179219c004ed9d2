-- What a contract sees of a stack of renderers.
use Rattle.std.specs.Prelude.{ℕ, Option, Some, None, List, [], ◌∷◌, drop}

-- A renderer of the stack. A link that is open in it is the place of its target, from 1, and the one that was opened
-- last comes first.
pub record Level (R : Type 0) : Type 0 where
  pub renderer : R
  pub open_links : List ℕ

-- A stack, the top first, and the targets of all its links as characters, in the order in which these were started.
pub record Stack (R : Type 0) : Type 0 where
  pub levels : List (Level R)
  pub links : List (List ℕ)
  pub table_depth : ℕ

abbrev pub new_level : {R : Type 0} → R → Level R
new_level r = record { renderer = r; open_links = [] }

abbrev pub new_stack : {R : Type 0} → R → Stack R
new_stack r = record { levels = new_level r ∷ []; links = []; table_depth = 0 }

-- one more renderer on top
abbrev pub pushed : {R : Type 0} → R → Stack R → Stack R
pushed r s = record s { levels = new_level r ∷ s.levels }

-- what is left where the top is taken
abbrev pub below : {R : Type 0} → Stack R → Stack R
below s = record s { levels = drop 1 s.levels }

abbrev pub first_renderer : {R : Type 0} → List (Level R) → Option R
first_renderer [] = None
first_renderer (level ∷ levels) = Some level.renderer

-- the top renderer
abbrev pub top_of : {R : Type 0} → Stack R → Option R
top_of s = first_renderer s.levels

-- a change of the first
abbrev pub in_first : {X : Type 0} → (X → X) → List X → List X
in_first change [] = []
in_first change (x ∷ xs) = change x ∷ xs

-- another renderer in the place of the top
abbrev pub with_top : {R : Type 0} → Stack R → R → Stack R
with_top s r = record s { levels = in_first (λ level. record level { renderer = r }) s.levels }
