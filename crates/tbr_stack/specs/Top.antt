-- What the calls on the top make of a stack.
use Rattle.std.specs.Prelude.{◌≡◌, Option, Some, None, List, [], ◌∷◌, map}
use Rattle.tbr_tagged.specs.Outcome.{Outcome, refused}
use Rattle.tbr_tagged.specs.declared.Error.{Error}
use Rattle.tbr_tagged.specs.declared.Error.TheVariants.{OutOfMemory}
use Rattle.tbr_renderer.specs.Outcomes.{changed}
use Rattle.tbr_renderer.specs.Renderer.{Renderer}
use Rattle.tbr_stack.specs.Stack.{Level, Stack, top_of, with_top}

-- the kept refusal of the top
abbrev pub failure_of_first : {D A T : Type 0} → List (Level (Renderer D A T)) → Option Error
failure_of_first [] = None
failure_of_first (level ∷ levels) = level.renderer.failure

abbrev pub failure_of : {D A T : Type 0} → Stack (Renderer D A T) → Option Error
failure_of s = failure_of_first s.levels

-- The top makes a step, and all else stays.
abbrev pub ChangesTop : {R : Type 0} → (R → R → Type 0) → Stack R → Stack R → Type 0
ChangesTop {R} Step s t = (before after : R) × (top_of s ≡ Some before) × Step before after × (t ≡ with_top s after)

-- What a change makes of the top, and all else stays. A stack without renderers has nothing to change.
abbrev pub in_top_of : {R : Type 0} → (R → Outcome R) → Stack R → Option R → Outcome (Stack R)
in_top_of change s None = refused OutOfMemory
in_top_of change s (Some top) = changed (with_top s) (change top)

abbrev pub in_top : {R : Type 0} → (R → Outcome R) → Stack R → Outcome (Stack R)
in_top change s = in_top_of change s (top_of s)

-- Something holds of the top.
abbrev pub OfTop : {R : Type 0} → (R → Type 0) → Stack R → Type 0
OfTop {R} P s = (top : R) × (top_of s ≡ Some top) × P top
