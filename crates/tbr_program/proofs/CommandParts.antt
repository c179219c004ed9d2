-- Of what commands are made that are done, or for which something is too narrow.
use Rattle.tbr_program.proofs.Common.{◌≡◌, ℕ, Bool, true, false, if◌then◌else◌, Option, None, Some, Result, Ok, Err, List, [], ◌∷◌, refl, sym, ap, subst, arith, CellAlign, Outcome, done}
use Rattle.tbr_program.proofs.Common.{refused, Decoration, sub_renderer, RunError, OutOfMemory, NotACommand, NothingToEnd, Stack, top_of, pushed, below, Opener, Sub, Cell, open_links}
use Rattle.tbr_program.proofs.Common.{Command, ask, link, end_link, sub, append, cell, end_cell, row, vertical_row, Pending, Opened, nothing_pending, with_cell, answered, on_top}
use Rattle.tbr_program.proofs.Common.{if_some_are, with_stack, level_opened, ended_as, level_ended, Top, Place, Made, block_joined, joins, waits, after_command}
use Rattle.tbr_script.specs.declared.error.RunError.TheVariants.{TooNarrow}

-- It is done, or something is too narrow for it. What a command asks for first holds then.
abbrev pub IsLate : {X : Type 0} → Result X RunError → Type 0
IsLate (Ok x) = Unit {0}
IsLate (Err TooNarrow) = Unit {0}
IsLate (Err other) = ⊥

module _ {X : Type 0} where
  abbrev is_ok : X → Result X RunError
  is_ok x = Ok x

  abbrev is_err : RunError → Result X RunError
  is_err e = Err e

  pub one_ok : (x y : X) → is_ok x ≡ is_ok y → y ≡ x
  one_ok x y e = cc

  late_as : (m n : Result X RunError) → IsLate n → m ≡ n → IsLate m
  late_as m n late is = subst IsLate (sym is) late

  -- what comes after a question
  pub unless : (b : Bool) (e : RunError) (made m : Result X RunError) → (IsLate (is_err e) → ⊥) → IsLate m → (if b then Err e else made) ≡ m → (b ≡ false) × (made ≡ m)
  unless true e made m early late is = absurd (early (late_as (Err e) m late is))
  unless false e made m early late is = (refl, is)

  pub if_so : (b : Bool) (e : RunError) (made m : Result X RunError) → (IsLate (is_err e) → ⊥) → IsLate m → (if b then made else Err e) ≡ m → (b ≡ true) × (made ≡ m)
  if_so true e made m early late is = (refl, is)
  if_so false e made m early late is = absurd (early (late_as (Err e) m late is))

  pub none_are : {Y : Type 0} (ys : List Y) (e : RunError) (made m : Result X RunError) → (IsLate (is_err e) → ⊥) → IsLate m → if_some_are ys (Err e) made ≡ m → (ys ≡ []) × (made ≡ m)
  none_are [] e made m early late is = (refl, is)
  none_are (y ∷ ys) e made m early late is = absurd (early (late_as (Err e) m late is))

  pub some_are : {Y : Type 0} (ys : List Y) (e : RunError) (made m : Result X RunError) → (IsLate (is_err e) → ⊥) → IsLate m → if_some_are ys made (Err e) ≡ m → made ≡ m
  some_are [] e made m early late is = absurd (early (late_as (Err e) m late is))
  some_are (y ∷ ys) e made m early late is = is

  pub of_top : {R : Type 0} (o : Option R) (make : R → Result X RunError) (m : Result X RunError) → IsLate m → on_top o make ≡ m → (r : R) × (o ≡ Some r) × (make r ≡ m)
  of_top None make m late is = absurd (late_as (Err OutOfMemory) m late is)
  of_top (Some r) make m late is = (r, refl, is)

  pub answer_done : (o : Outcome X) (x : X) → answered o ≡ Ok x → o ≡ done x
  answer_done (done y) x is = ap (λ z. done z) (sym (one_ok y x is))
  answer_done (refused e) x is = absurd (let no : ⊥ = cc in no)

module _ {D M : Type 0} (columns : ℕ → Option ℕ) (decoration : Decoration D M) where
  -- ---- the stack

  pub stack_done : (p : Place columns decoration) (made : Outcome (Stack (Top columns decoration)))
      (q : Place columns decoration) → with_stack columns decoration p made ≡ Ok q →
      (s : Stack (Top columns decoration)) × (made ≡ done s) × (q ≡ record p { stack = s })
  stack_done p (done s) q is = (s, refl, one_ok (record p { stack = s }) q is)
  stack_done p (refused e) q is = absurd (let no : ⊥ = cc in no)

  -- ---- levels

  pub opens : (by : Opener) (width : ℕ) (p q : Place columns decoration) → level_opened columns decoration by width p ≡ Ok q → (r : Top columns decoration) × (top_of p.stack ≡ Some r)
      × (q ≡ record { stack = pushed (sub_renderer decoration width r) p.stack; pending = nothing_pending; opened = record { by = by; below = p.pending } ∷ p.opened })
  opens by width p q is =
      let (r, top, made) = of_top (top_of p.stack) _ (Ok q) tt is in
      (r, top, one_ok _ q made)

  -- A level ends by what is made of its renderer and of what is left.
  pub record Ends (make : Top columns decoration → Place columns decoration → Made columns decoration)
      (p : Place columns decoration) (by : Opener) (levels : List (Opened D M (List M))) (m : Made columns decoration) : Type 0 where
    pub pending : Pending D M (List M)
    pub others : List (Opened D M (List M))
    pub opened : levels ≡ record { by = by; below = pending } ∷ others
    pub none_wait : p.pending.cells ≡ []
    pub inside : Top columns decoration
    pub top : top_of p.stack ≡ Some inside
    pub makes : make inside (record { stack = below p.stack; pending = pending; opened = others }) ≡ m

  ends_as : (number : ℕ) (end : Option (Top columns decoration → Place columns decoration → Made columns decoration))
      (p : Place columns decoration) (by : Opener) (pending : Pending D M (List M))
      (others : List (Opened D M (List M))) (m : Made columns decoration) → IsLate m → ended_as columns decoration number end p pending others ≡ m →
      (make : Top columns decoration → Place columns decoration → Made columns decoration) × (end ≡ Some make) × Ends make p by (record { by = by; below = pending } ∷ others) m
  ends_as number None p by pending others m late is = absurd (late_as (Err (NothingToEnd number)) m late is)
  ends_as number (Some make) p by pending others m late is =
      let (none, after) = none_are p.pending.cells (NotACommand number) _ m (λ no. no) late is in
      let (inside, top, makes) = of_top (top_of p.stack) _ m late after in
      (make, refl, record { pending = pending; others = others; opened = refl; none_wait = none; inside = inside; top = top; makes = makes })

  level_ends : (number : ℕ)
      (end : Opener → Option (Top columns decoration → Place columns decoration → Made columns decoration))
      (p : Place columns decoration) (levels : List (Opened D M (List M))) (m : Made columns decoration) → IsLate m →
      level_ended columns decoration number end p levels ≡ m →
      (by : Opener) × (make : Top columns decoration → Place columns decoration → Made columns decoration) × (end by ≡ Some make) × Ends make p by levels m
  level_ends number end p [] m late is = absurd (late_as (Err (NothingToEnd number)) m late is)
  level_ends number end p (level ∷ levels) m late is =
      let (make, ends, parts) = ends_as number (end level.by) p level.by level.below levels m late is in
      (level.by, make, ends, parts)

  module _ (number : ℕ) (p : Place columns decoration) (levels : List (Opened D M (List M))) (m : Made columns decoration) (late : IsLate m) where
    pub block_ends : (first others : List ℕ) →
        level_ended columns decoration number (joins columns decoration first others) p levels ≡ m →
        Ends (block_joined columns decoration first others) p Sub levels m
    block_ends first others is = grind (arith, level_ends)

    -- the cell that waits then
    abbrev pub waiting : ℕ → CellAlign → Top columns decoration → Place columns decoration → Made columns decoration
    waiting span align inside q = Ok (record q { pending = with_cell q.pending inside span align })

    pub cell_ends : level_ended columns decoration number (waits columns decoration) p levels ≡ m → (span : ℕ) × (align : CellAlign) × Ends (waiting span align) p (Cell span align) levels m
    cell_ends is = grind (arith, level_ends)

  -- ---- the number of a line

  -- it tells early refusals alone
  module _ (one other : ℕ) (p : Place columns decoration) (m : Made columns decoration) (late : IsLate m) where
    ends_again : (end : Option (Top columns decoration → Place columns decoration → Made columns decoration))
        (pending : Pending D M (List M)) (others : List (Opened D M (List M))) →
        ended_as columns decoration one end p pending others ≡ m → ended_as columns decoration other end p pending others ≡ m
    ends_again None pending others is = absurd (late_as (Err (NothingToEnd one)) m late is)
    ends_again (Some make) pending others is = grind (arith, none_are)

    level_again : (end : Opener →
        Option (Top columns decoration → Place columns decoration → Made columns decoration))
        (levels : List (Opened D M (List M))) → level_ended columns decoration one end p levels ≡ m →
        level_ended columns decoration other end p levels ≡ m
    level_again end [] is = absurd (late_as (Err (NothingToEnd one)) m late is)
    level_again end (level ∷ levels) is = ends_again (end level.by) level.below levels is

    link_again : (places : List ℕ) (made : Made columns decoration) → if_some_are places made (Err (NothingToEnd one)) ≡ m → if_some_are places made (Err (NothingToEnd other)) ≡ m
    link_again [] made is = absurd (late_as (Err (NothingToEnd one)) m late is)
    link_again (place ∷ places) made is = is

    pub any_line : (command : Command) → after_command columns decoration one command p ≡ m → after_command columns decoration other command p ≡ m
    any_line (ask request) is = grind (arith, unless)
    any_line (link target) is = is
    any_line end_link is = link_again (open_links p.stack) _ is
    any_line (sub width) is = is
    any_line (append first others) is = level_again (joins columns decoration first others) p.opened is
    any_line (cell width span align) is = is
    any_line end_cell is = level_again (waits columns decoration) p.opened is
    any_line (row collapse) is = grind (arith, of_top, if_so)
    any_line vertical_row is = is
