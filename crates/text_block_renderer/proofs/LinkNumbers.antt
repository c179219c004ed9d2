-- Links that end with their own numbers, and where their targets are.
use Rattle.text_block_renderer.proofs.Common.{◌≡◌, ℕ, zero, suc, ◌+◌, ◌⊎◌, inl, inr, Option, Some, None, List, [], ◌∷◌, ◌++◌, map, fold, drop, length, refl, ap, sym, ◌∙◌, subst, arith, append_assoc}
use Rattle.text_block_renderer.proofs.Common.{append-nil, if◌then◌else◌, slice_get, option_map, drop-map, Decoration, Outcome, done, Renderer, begin, after}
use Rattle.tbr_decor.specs.Usual.{footnote, footnotes_from, footnotes}
use Rattle.tbr_decor.specs.Start as start
use Rattle.tbr_renderer.proofs.OutcomeParts.{done_before}
use Rattle.tbr_stack.specs.Stack.{Level, Stack, new_stack, first_renderer, in_first, with_top}
use Rattle.tbr_stack.specs.Top.{ChangesTop}
use Rattle.tbr_stack.specs.Links.{opened, first_open, open_in_first, open_links, with_link, shown_number, after_link_start, after_end_with, after_end_showing, after_link_end}
use Rattle.tbr_stack.specs.StackCalls.{StackCall, change_top, set_table_depth, push, pop, start_link, end_link, targets_of, IsNextToEnd, IsNextNumber, StackDoes, StackSteps, after_end_as}
use Rattle.tbr_stack.proofs.Tops.{top_changed}

-- ---- links that are open, as the places of their targets

-- Of the links that are open in a renderer one comes after so many others, or just so many are open.
abbrev Reaches : Type 0 → (ℕ → Type 0) → List ℕ → ℕ → Type 0
Reaches End Here [] zero = End
Reaches End Here (p ∷ o) zero = Here p
Reaches End Here [] (suc n) = ⊥
Reaches End Here (p ∷ o) (suc n) = Reaches End Here o n

-- A link is after so many others: in the top, or below renderers in which just so many are open.
abbrev Stands : List ℕ → List (List ℕ) → ℕ → Type 0
Stands [] opens k = ⊥
Stands (n ∷ numbers) [] k = ⊥
Stands (n ∷ numbers) (o ∷ opens) k = Reaches (Stands numbers opens k) (λ p. (numbers ≡ []) × (p ≡ k)) o n

pushed_above : (o numbers : List ℕ) (opens : List (List ℕ)) (k : ℕ) → Stands numbers opens k → Stands (length o ∷ numbers) (o ∷ opens) k
pushed_above [] numbers opens k h = h
pushed_above (p ∷ o) numbers opens k h = pushed_above o numbers opens k h

still_below : (o : List ℕ) (n m : ℕ) (numbers : List ℕ) (opens : List (List ℕ)) (k : ℕ) → Stands (n ∷ m ∷ numbers) (o ∷ opens) k → Stands (m ∷ numbers) opens k
still_below [] zero m numbers opens k h = h
still_below (p ∷ o) zero m numbers opens k h = cc
still_below [] (suc n) m numbers opens k h = absurd h
still_below (p ∷ o) (suc n) m numbers opens k h = still_below o n m numbers opens k h

-- the links that are open in each renderer of a stack, and all targets
abbrev View : Type 0
View = List (List ℕ) × List (List ℕ)

-- what a call makes of them
abbrev on_call : View → StackCall → View
on_call v push = ([] ∷ v.0, v.1)
on_call v pop = (drop 1 v.0, v.1)
on_call v (start_link target) = (in_first (λ o. (length v.1 + 1) ∷ o) v.0, v.1 ++ target ∷ [])
on_call v end_link = (in_first (drop 1) v.0, v.1)
on_call v other = v

targets_on : (v : View) (call : StackCall) (calls : List StackCall) → (on_call v call).1 ++ targets_of calls ≡ v.1 ++ targets_of (call ∷ calls)
targets_on v call calls = grind (arith, append_assoc)

all_targets : (calls : List StackCall) (v : View) → (fold on_call v calls).1 ≡ v.1 ++ targets_of calls
all_targets [] v = sym (append-nil v.1)
all_targets (call ∷ calls) v = all_targets calls (on_call v call) ∙ targets_on v call calls

-- After calls the link that is the next to end comes first.
comes_first : (calls : List StackCall) (numbers : List ℕ) (opens targets : List (List ℕ)) (k : ℕ) → IsNextToEnd numbers calls → Stands numbers opens k →
    Stands (0 ∷ []) (fold on_call (opens, targets) calls).0 k
comes_first [] numbers opens targets k next h = subst (λ ns. Stands ns opens k) next h
comes_first (change_top ∷ calls) numbers opens targets k next h = comes_first calls numbers opens targets k next h
comes_first (set_table_depth depth ∷ calls) numbers opens targets k next h = comes_first calls numbers opens targets k next h
comes_first (push ∷ calls) numbers opens targets k next h = comes_first calls (0 ∷ numbers) ([] ∷ opens) targets k next h
comes_first (pop ∷ calls) (j ∷ []) (o ∷ opens) targets k next h = absurd next
comes_first (pop ∷ calls) (j ∷ m ∷ numbers) (o ∷ opens) targets k next h = comes_first calls (m ∷ numbers) opens targets k next (still_below o j m numbers opens k h)
comes_first (start_link target ∷ calls) (j ∷ numbers) (o ∷ opens) targets k next h = comes_first calls (suc j ∷ numbers) (((length targets + 1) ∷ o) ∷ opens) (targets ++ target ∷ []) k next h
comes_first (end_link ∷ calls) (zero ∷ []) (o ∷ opens) targets k next h = absurd next
comes_first (end_link ∷ calls) (zero ∷ m ∷ numbers) ([] ∷ opens) targets k next h = comes_first calls (zero ∷ m ∷ numbers) ([] ∷ opens) targets k next h
comes_first (end_link ∷ calls) (zero ∷ m ∷ numbers) ((p ∷ o) ∷ opens) targets k next h = cc
comes_first (end_link ∷ calls) (suc j ∷ numbers) ((p ∷ o) ∷ opens) targets k next h = comes_first calls (j ∷ numbers) (o ∷ opens) targets k next h
comes_first calls numbers opens targets k next h = absurd h

-- A link that is the next to end after calls was open before them, or one of them started it.
abbrev StoodOrCame : List StackCall → View → ℕ → Type 0
StoodOrCame calls v k =
    ((numbers : List ℕ) × IsNextToEnd numbers calls × Stands numbers v.0 k)
    ⊎
    ((before : List StackCall) × (target : List ℕ) × (since : List StackCall) ×
    (calls ≡ before ++ start_link target ∷ since) × (k ≡ length (v.1 ++ targets_of before) + 1) × IsNextToEnd
    (0 ∷ []) since)

came_from : (call : StackCall) (calls : List StackCall) (numbers : List ℕ) (opens targets : List (List ℕ)) (k : ℕ) → IsNextToEnd numbers calls → Stands numbers (on_call (opens, targets) call).0 k →
    StoodOrCame (call ∷ calls) (opens, targets) k
came_from change_top calls numbers opens targets k next h = inl (numbers, next, h)
came_from (set_table_depth depth) calls numbers opens targets k next h = inl (numbers, next, h)
came_from push calls (zero ∷ numbers) opens targets k next h = inl (numbers, next, h)
came_from pop calls (j ∷ numbers) (o ∷ opens) targets k next h = inl (length o ∷ j ∷ numbers, next, pushed_above o (j ∷ numbers) opens k h)
came_from (start_link target) calls (zero ∷ numbers) (o ∷ opens) targets k next h =
    inr ([], target, calls, refl, sym (ap (λ ts. length ts + 1) (append-nil targets) ∙ h.1), subst (λ ns. IsNextToEnd (0 ∷ ns) calls) h.0 next)
came_from (start_link target) calls (suc j ∷ numbers) (o ∷ opens) targets k next h = inl (j ∷ numbers, next, h)
came_from end_link calls (zero ∷ m ∷ numbers) ([] ∷ opens) targets k next h = inl (zero ∷ m ∷ numbers, next, h)
came_from end_link calls (j ∷ numbers) ((p ∷ o) ∷ opens) targets k next h = inl (suc j ∷ numbers, next, h)
came_from call calls numbers opens targets k next h = absurd h

came : (calls : List StackCall) (v : View) (k : ℕ) → Stands (0 ∷ []) (fold on_call v calls).0 k → StoodOrCame calls v k
came [] v k h = inl (0 ∷ [], refl, h)
came (call ∷ calls) v k h = elim (came calls (on_call v call) k h) [
  | inl stood ↦ came_from call calls stood.0 v.0 v.1 k stood.1 stood.2
  | inr later ↦
      let (before, target, since, are, number, next) = later in
      inr (call ∷ before, target, since, ap (λ cs. call ∷ cs) are, number ∙ ap (λ ts. length ts + 1) (targets_on v call before), next)
]

-- of a new stack none was open
came_to_new : (calls : List StackCall) (k : ℕ) → StoodOrCame calls ([] ∷ [], []) k → IsNextNumber calls k
came_to_new calls k (inl (zero ∷ m ∷ numbers, next, h)) = absurd h
came_to_new calls k (inl (numbers, next, h)) = absurd h
came_to_new calls k (inr (before, target, since, are, number, next)) = record { before = before; target = target; since = since; are = are; number = number; next = next }

-- ---- stacks

abbrev open_in : {R : Type 0} → Level R → List ℕ
open_in level = level.open_links

abbrev view : {R : Type 0} → Stack R → View
view s = (map open_in s.levels, s.links)

-- the link that is open first
open_first : {R : Type 0} (levels : List (Level R)) (k : ℕ) → Stands (0 ∷ []) (map open_in levels) k → first_open (open_in_first levels) ≡ Some k
open_first levels k h = grind arith

first_stands : {R : Type 0} (levels : List (Level R)) (k : ℕ) → first_open (open_in_first levels) ≡ Some k → Stands (0 ∷ []) (map open_in levels) k
first_stands levels k h = grind arith

-- a link that is opened in the top
opened_stands : {R : Type 0} (place : ℕ) (levels : List (Level R)) (r : R) → first_renderer (in_first (opened place) levels) ≡ Some r →
    Stands (0 ∷ []) (in_first (λ o. place ∷ o) (map open_in levels)) place
opened_stands place levels r h = grind arith

get_seam : {X : Type 0} (xs : List X) (y : X) (ys : List X) → slice_get (xs ++ y ∷ ys) (length xs) ≡ Some y
get_seam [] y ys = refl
get_seam (x ∷ xs) y ys = get_seam xs y ys

module _ {D A : Type 0} (columns : ℕ → Option ℕ) (decoration : Decoration D A) where
  abbrev Tops : Type 0
  Tops = Stack (Renderer D A (List A))

  -- what begins a link in the top, and what ends one
  abbrev begins : List ℕ → Renderer D A (List A) → Outcome (Renderer D A (List A))
  begins target = after columns decoration (begin (start.link target))

  abbrev ends : List ℕ → Renderer D A (List A) → Outcome (Renderer D A (List A))
  ends places r = after_end_with columns decoration (shown_number r places) r

  top_kept : (s : Tops) (top : Renderer D A (List A)) → view (with_top s top) ≡ view s
  top_kept s top = ap (λ os. (os, s.links)) (elim s.levels as (λ ls. map open_in (in_first (λ l. record l { renderer = top }) ls) ≡ map open_in ls) [ [] ↦ refl | l ∷ ls ↦ refl ])

  top_view : (Step : Renderer D A (List A) → Renderer D A (List A) → Type 0) (s t : Tops) → ChangesTop Step s t → view t ≡ view s
  top_view Step s t h = ap (λ (q : Tops). view q) h.4 ∙ top_kept s h.1

  does : (call : StackCall) (s t : Tops) → StackDoes columns decoration call s t → view t ≡ on_call (view s) call
  does call s t h = grind (arith, drop-map, top_view, top_changed, done_before, top_kept)

  steps_do : (calls : List StackCall) (s t : Tops) → StackSteps columns decoration calls s t → view t ≡ fold on_call (view s) calls
  steps_do [] s t steps = ap (λ (q : Tops). view q) steps
  steps_do (call ∷ calls) s t steps =
      let (m, first, rest) = steps in
      steps_do calls m t rest ∙ ap (λ v. fold on_call v calls) (does call s m first)

  -- ---- numbers

  ends_so : (t : Tops) (k : ℕ) → first_open (open_links t) ≡ Some k → after_link_end columns decoration t ≡ after_end_as columns decoration k t
  ends_so t k first = ap (λ (o : Option ℕ). after_end_showing columns decoration (λ r. if r.options.include_link_footnotes then o else None) t) first

  pub own_number : (target : List ℕ) (calls : List StackCall) (s m t : Tops) →
      after_link_start columns decoration target s ≡ done m → StackSteps columns decoration calls m t →
      IsNextToEnd (0 ∷ []) calls →
      after_link_end columns decoration t ≡ after_end_as columns decoration (length s.links + 1) t
  own_number target calls s m t starts steps next =
      let k = length s.links + 1 in
      let changes = top_changed (begins target) (with_link target s) m starts in
      let started = on_call (view s) (start_link target) in
      let first = comes_first calls (0 ∷ []) started.0 started.1 k next (opened_stands k s.levels changes.0 changes.2) in
      ends_so t k (open_first t.levels k (subst (λ (v : View). Stands (0 ∷ []) v.0 k) (sym (steps_do (start_link target ∷ calls) s t (m, starts, steps))) first))

  pub number_of_one : (calls : List StackCall) (r : Renderer D A (List A)) (t : Tops) (k : ℕ) →
      StackSteps columns decoration calls (new_stack r) t → first_open (open_links t) ≡ Some k → IsNextNumber calls k
  number_of_one calls r t k steps h =
      came_to_new calls k (came calls ([] ∷ [], []) k (subst (λ (v : View). Stands (0 ∷ []) v.0 k) (steps_do calls (new_stack r) t steps) (first_stands t.levels k h)))

  -- ---- targets

  pub targets_come : (calls : List StackCall) (s t : Tops) → StackSteps columns decoration calls s t → t.links ≡ s.links ++ targets_of calls
  targets_come calls s t steps = ap (λ (v : View). v.1) (steps_do calls s t steps) ∙ all_targets calls (view s)

  pub own_place : (target : List ℕ) (calls : List StackCall) (s m t : Tops) →
      after_link_start columns decoration target s ≡ done m → StackSteps columns decoration calls m t →
      slice_get t.links (length s.links) ≡ Some target
  own_place target calls s m t starts steps = grind (arith, targets_come (start_link target ∷ calls) s t (m, starts, steps), get_seam)

-- ---- footnotes

module _ {A : Type 0} where
  footnote_from : (a : A) (k : ℕ) (targets : List (List ℕ)) (i : ℕ) → slice_get (footnotes_from a k targets) i ≡ option_map (footnote a (i + k)) (slice_get targets i)
  footnote_from a k [] i = refl
  footnote_from a k (t ∷ targets) zero = let none : k ≡ zero + k = omega arith in ap (λ j. Some (footnote a j t)) none
  footnote_from a k (t ∷ targets) (suc i) = grind (arith, footnote_from a (k + 1) targets i)

  pub footnote_at : (a : A) (targets : List (List ℕ)) (i : ℕ) (target : List ℕ) → slice_get targets i ≡ Some target → slice_get (footnotes a targets) i ≡ Some (footnote a (i + 1) target)
  footnote_at a targets i target h = footnote_from a 1 targets i ∙ ap (option_map (footnote a (i + 1))) h
