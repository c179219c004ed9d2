-- The links of a stack.
use Rattle.std.specs.Prelude.{◌≡◌, ℕ, ◌+◌, ◌⊎◌, if◌then◌else◌, length, Option, Some, None, List, [], ◌∷◌, ◌++◌, drop, codes}
use Rattle.std.specs.Fmt.{decimal}
use Rattle.tbr_tagged.specs.Outcome.{Outcome}
use Rattle.tbr_tagged.specs.declared.Error.TheVariants.{OutOfMemory}
use Rattle.tbr_decor.specs.Decoration.{Decoration}
use Rattle.tbr_decor.specs.Start as start
use Rattle.tbr_decor.specs.End as end
use Rattle.tbr_renderer.specs.Renderer.{Renderer, kept_of}
use Rattle.tbr_renderer.specs.Outcomes.{and_then, changed}
use Rattle.tbr_renderer.specs.Calls.{begin, finish, add_inline_text, after}
use Rattle.tbr_stack.specs.Stack.{Level, Stack, in_first}
use Rattle.tbr_stack.specs.Top.{in_top, ChangesTop}

-- ---- the links that are open in one renderer

-- a link is opened, to the target at a place
abbrev pub opened : {R : Type 0} → ℕ → Level R → Level R
opened place level = record level { open_links = place ∷ level.open_links }

-- the link that was opened last is closed, if one is open
abbrev pub closed : {R : Type 0} → Level R → Level R
closed level = record level { open_links = drop 1 level.open_links }

-- the place of the target of the link that was opened last, if one is open
abbrev pub first_open : List ℕ → Option ℕ
first_open [] = None
first_open (place ∷ places) = Some place

-- ---- and in the top of a stack

-- A link more, which is open in the top. Its target comes after the others.
abbrev pub with_link : {R : Type 0} → List ℕ → Stack R → Stack R
with_link target s =
    record s { levels = in_first (opened (length s.links + 1)) s.levels; links = s.links ++ target ∷ [] }

-- the link that was opened last in the top is closed, if one is open there
abbrev pub without_open_link : {R : Type 0} → Stack R → Stack R
without_open_link s = record s { levels = in_first closed s.levels }

-- the links that are open in the first of these
abbrev pub open_in_first : {R : Type 0} → List (Level R) → List ℕ
open_in_first [] = []
open_in_first (level ∷ levels) = level.open_links

-- the links that are open in the top
abbrev pub open_links : {R : Type 0} → Stack R → List ℕ
open_links s = open_in_first s.levels

-- ---- the calls

-- the text that shows the number of a link, as `[1]`
abbrev pub link_number : ℕ → List ℕ
link_number k = codes "[" ++ (decimal k ++ codes "]")

-- The number that is shown where a link ends: with footnotes that of the link that was opened last, if one is open.
abbrev pub shown_number : {D A T : Type 0} → Renderer D A T → List ℕ → Option ℕ
shown_number r places = if r.options.include_link_footnotes then first_open places else None

module _ {D A : Type 0} (columns : ℕ → Option ℕ) (decoration : Decoration D A) where
  abbrev Top : Type 0
  Top = Renderer D A (List A)

  -- A link starts: it is opened, and then it begins in the top.
  abbrev pub after_link_start : List ℕ → Stack Top → Outcome (Stack Top)
  after_link_start target s = in_top (after columns decoration (begin (start.link target))) (with_link target s)

  -- A link ends in a renderer, and its number comes after it, where one is shown.
  abbrev pub after_end_with : Option ℕ → Top → Outcome Top
  after_end_with None r = after columns decoration (finish end.link) r
  after_end_with (Some k) r =
      and_then (after columns decoration (finish end.link) r) (after columns decoration (add_inline_text (link_number k)))

  -- The link that was opened last in the top ends, with the number that is shown, and is closed.
  abbrev pub after_end_showing : (Top → Option ℕ) → Stack Top → Outcome (Stack Top)
  after_end_showing shown s = changed without_open_link (in_top (λ r. after_end_with (shown r) r) s)

  -- and with its own number
  abbrev pub after_link_end : Stack Top → Outcome (Stack Top)
  after_link_end s = after_end_showing (λ r. shown_number r (open_links s)) s

-- ---- calls that refuse

-- A start that refuses opens no link where memory is refused, or opens it. What is kept of the top stays.
abbrev pub StopsToStart : {D A T : Type 0} → List ℕ → Stack (Renderer D A T) → Stack (Renderer D A T) → Type 0
StopsToStart target s t =
    ChangesTop (λ r q. q ≡ record r { failure = Some OutOfMemory }) s t
    ⊎ ChangesTop (λ r q. kept_of q ≡ kept_of r) (with_link target s) t

-- An end that refuses closes no link. What is kept of the top stays.
abbrev pub StopsToEnd : {D A T : Type 0} → Stack (Renderer D A T) → Stack (Renderer D A T) → Type 0
StopsToEnd s t = ChangesTop (λ r q. kept_of q ≡ kept_of r) s t
