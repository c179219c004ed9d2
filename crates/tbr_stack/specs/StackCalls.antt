-- Calls on a stack, one after another, and which link is the next to end after them.
use Rattle.std.specs.Prelude.{◌≡◌, ℕ, ◌+◌, zero, suc, Option, None, Some, List, [], ◌∷◌, ◌++◌, if◌then◌else◌, length}
use Rattle.tbr_tagged.specs.Outcome.{Outcome, done}
use Rattle.tbr_decor.specs.Decoration.{Decoration}
use Rattle.tbr_renderer.specs.Renderer.{Renderer}
use Rattle.tbr_stack.specs.Stack.{Stack, with_top, pushed, below}
use Rattle.tbr_stack.specs.Links.{after_link_start, after_link_end, after_end_showing}

-- A call on a stack. What is done to the top alone may be anything, and so may the renderer that is pushed.
pub data StackCall : Type 0 where
  change_top : StackCall
  set_table_depth : ℕ → StackCall
  push : StackCall
  pop : StackCall
  start_link : List ℕ → StackCall
  end_link : StackCall

-- the targets of the links that start
abbrev pub targets_of : List StackCall → List (List ℕ)
targets_of [] = []
targets_of (start_link target ∷ calls) = target ∷ targets_of calls
targets_of (other ∷ calls) = targets_of calls

-- ---- which link ends

-- A link started, and these calls come. The numbers say how many links are open that started since: the first in the
-- top, and so on down to the renderer of the link. They begin as 0 alone. The link is the next to end where it is still
-- open after the calls, and they are 0 alone again. An end in a renderer in which no link is open closes none.
abbrev pub IsNextToEnd : List ℕ → List StackCall → Type 0
IsNextToEnd numbers [] = numbers ≡ 0 ∷ []
IsNextToEnd numbers (change_top ∷ calls) = IsNextToEnd numbers calls
IsNextToEnd numbers (set_table_depth depth ∷ calls) = IsNextToEnd numbers calls
IsNextToEnd numbers (push ∷ calls) = IsNextToEnd (0 ∷ numbers) calls
IsNextToEnd [] (pop ∷ calls) = ⊥
IsNextToEnd (n ∷ []) (pop ∷ calls) = ⊥
IsNextToEnd (n ∷ m ∷ numbers) (pop ∷ calls) = IsNextToEnd (m ∷ numbers) calls
IsNextToEnd [] (start_link target ∷ calls) = ⊥
IsNextToEnd (n ∷ numbers) (start_link target ∷ calls) = IsNextToEnd (suc n ∷ numbers) calls
IsNextToEnd [] (end_link ∷ calls) = ⊥
IsNextToEnd (zero ∷ []) (end_link ∷ calls) = ⊥
IsNextToEnd (zero ∷ m ∷ numbers) (end_link ∷ calls) = IsNextToEnd (zero ∷ m ∷ numbers) calls
IsNextToEnd (suc n ∷ numbers) (end_link ∷ calls) = IsNextToEnd (n ∷ numbers) calls

-- Of the links that these calls start the one with this number is the next to end after them.
pub record IsNextNumber (calls : List StackCall) (k : ℕ) : Type 0 where
  pub before : List StackCall
  pub target : List ℕ
  pub since : List StackCall
  pub are : calls ≡ before ++ start_link target ∷ since
  pub number : k ≡ length (targets_of before) + 1
  pub next : IsNextToEnd (0 ∷ []) since

-- ---- what calls leave

module _ {D A : Type 0} (columns : ℕ → Option ℕ) (decoration : Decoration D A) where
  abbrev Top : Type 0
  Top = Renderer D A (List A)

  -- what a call that succeeds leaves
  abbrev pub StackDoes : StackCall → Stack Top → Stack Top → Type 0
  StackDoes change_top s t = (top : Top) × (t ≡ with_top s top)
  StackDoes (set_table_depth depth) s t = t ≡ record s { table_depth = depth }
  StackDoes push s t = (top : Top) × (t ≡ pushed top s)
  StackDoes pop s t = t ≡ below s
  StackDoes (start_link target) s t = after_link_start columns decoration target s ≡ done t
  StackDoes end_link s t = after_link_end columns decoration s ≡ done t

  -- and calls one after another
  abbrev pub StackSteps : List StackCall → Stack Top → Stack Top → Type 0
  StackSteps [] s t = t ≡ s
  StackSteps (call ∷ calls) s t = (m : Stack Top) × StackDoes call s m × StackSteps calls m t

  -- A link ends in the top as the one with this number. With footnotes the number comes, and without them none does.
  abbrev pub after_end_as : ℕ → Stack Top → Outcome (Stack Top)
  after_end_as k s =
      after_end_showing columns decoration (λ r. if r.options.include_link_footnotes then Some k else None) s
