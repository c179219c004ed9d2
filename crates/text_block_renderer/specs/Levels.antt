-- Calls on a stack of renderers, one after another, and what of them comes to one level.
use Rattle.std.specs.Prelude.{◌≡◌, ℕ, zero, suc, Bool, if◌then◌else◌, Option, None, Some, ◌+◌, drop, List, [], ◌∷◌, ◌++◌, length}
use Rattle.tbr_tagged.specs.Outcome.{Outcome, done}
use Rattle.tbr_decor.specs.Start as start
use Rattle.tbr_decor.specs.End as end
use Rattle.tbr_decor.specs.Decoration.{Decoration}
use Rattle.tbr_renderer.specs.Renderer.{Renderer}
use Rattle.tbr_renderer.specs.Outcomes.{run}
use Rattle.tbr_renderer.specs.Calls.{begin, finish, add_inline_text}
use Rattle.tbr_stack.specs.Stack.{Level, Stack, pushed, below}
use Rattle.tbr_stack.specs.Top.{in_top}
use Rattle.tbr_stack.specs.Links.{first_open, link_number, after_link_start, after_link_end}
use Rattle.text_block_renderer.specs.Acts.{Act, call, after_act}

-- A call on a stack: something is done to the top, a link starts or ends there, a renderer is pushed, or the top is
-- popped.
pub data OnStack (D A : Type 0) : Type 0 where
  on_top : Act A → OnStack D A
  start_link : List ℕ → OnStack D A
  end_link : OnStack D A
  push : Renderer D A (List A) → OnStack D A
  pop : OnStack D A
  set_table_depth : ℕ → OnStack D A

-- what it makes of a stack
abbrev pub after_on_stack : {D A : Type 0} → (ℕ → Option ℕ) → Decoration D A → OnStack D A →
    Stack (Renderer D A (List A)) → Outcome (Stack (Renderer D A (List A)))
after_on_stack columns decoration (on_top act) s = in_top (after_act columns decoration act) s
after_on_stack columns decoration (start_link target) s = after_link_start columns decoration target s
after_on_stack columns decoration end_link s = after_link_end columns decoration s
after_on_stack columns decoration (push r) s = done (pushed r s)
after_on_stack columns decoration pop s = done (below s)
after_on_stack columns decoration (set_table_depth depth) s = done (record s { table_depth = depth })

-- ---- one level

-- How many renderers are above a level after calls, where so many are before them. None is told where it was popped.
abbrev pub above_after : {D A : Type 0} → ℕ → List (OnStack D A) → Option ℕ
above_after n [] = Some n
above_after n (push r ∷ calls) = above_after (suc n) calls
above_after zero (pop ∷ calls) = None
above_after (suc n) (pop ∷ calls) = above_after n calls
above_after n (other ∷ calls) = above_after n calls

-- Of the links of a stack what a level's own need: whether their numbers are shown there, the targets of all that
-- started, and those that are open in the level, as on the stack.
pub record LinksOf : Type 0 where
  pub numbered : Bool
  pub targets : List (List ℕ)
  pub opened : List ℕ

abbrev pub links_of : {D A : Type 0} → Level (Renderer D A (List A)) → List (List ℕ) → LinksOf
links_of level targets = record {
  numbered = let r = level.renderer in r.options.include_link_footnotes;
  targets = targets;
  opened = level.open_links;
}

-- the text of the number that comes where a link ends, if one comes
abbrev pub number_acts : {A : Type 0} → Option ℕ → List (Act A)
number_acts None = []
number_acts (Some k) = call (add_inline_text (link_number k)) ∷ []

-- What comes to a level by calls, where so many renderers are above it: all that is done while it is the top, in order,
-- with what the links do that start and end there.
abbrev pub own_acts : {D A : Type 0} → ℕ → LinksOf → List (OnStack D A) → List (Act A)
own_acts n links [] = []
own_acts zero links (on_top act ∷ calls) = act ∷ own_acts zero links calls
own_acts zero links (start_link target ∷ calls) =
    call (begin (start.link target)) ∷ own_acts zero (record links {
      targets = links.targets ++ target ∷ [];
      opened = (length links.targets + 1) ∷ links.opened;
    }) calls
own_acts (suc n) links (start_link target ∷ calls) =
    own_acts (suc n) (record links { targets = links.targets ++ target ∷ [] }) calls
own_acts zero links (end_link ∷ calls) =
    call (finish end.link) ∷ number_acts (if links.numbered then first_open links.opened else None)
    ++ own_acts zero (record links { opened = drop 1 links.opened }) calls
own_acts n links (push r ∷ calls) = own_acts (suc n) links calls
own_acts zero links (pop ∷ calls) = []
own_acts (suc n) links (pop ∷ calls) = own_acts n links calls
own_acts n links (other ∷ calls) = own_acts n links calls

-- A stack has a level with so many others above it, and with just these below it. These acts led to its renderer.
pub record HasLevel {D A : Type 0} (columns : ℕ → Option ℕ) (decoration : Decoration D A)
    (first : Renderer D A (List A)) (acts : List (Act A)) (n : ℕ) (others : List (Level (Renderer D A (List A))))
    (s : Stack (Renderer D A (List A))) : Type 0 where
  pub above : List (Level (Renderer D A (List A)))
  pub now : Level (Renderer D A (List A))
  pub height : length above ≡ n
  pub levels : s.levels ≡ above ++ now ∷ others
  pub leads : run (after_act columns decoration) acts first ≡ done now.renderer
