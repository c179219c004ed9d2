-- What commands make of a program, by what its renderers leave.
use Rattle.tbr_program.proofs.Common.{◌≡◌, ◌≢◌, ◌⊎◌, ℕ, Bool, true, false, if◌then◌else◌, Option, None, Some, Result, Ok, Err, List, [], ◌∷◌, length, chars, refl, sym, ap, ◌∙◌, arith, rules}
use Rattle.tbr_program.proofs.Common.{pointwise, map-append, nil_from_length, CellAlign, Outcome, done, refused, row_fits, Decoration, taking, gathered, Renderer, Line, sub_renderer}
use Rattle.tbr_program.proofs.Common.{handed_out, new_line, append_vert_row, after, Does, IsTooNarrow, spots_of, GivenCell, cells_handed_out, after_row, RunError, NotACommand, NothingToEnd}
use Rattle.tbr_program.proofs.Common.{RowDoesNotFit, Stack, top_of, with_top, pushed, below, in_top, open_links, after_link_start, after_link_end, Request, call_of, Command, ask, link}
use Rattle.tbr_program.proofs.Common.{end_link, append, end_cell, row, vertical_row, ends_nothing, counted, Opener, Sub, Cell, closed_text, Pending, Opened, Progress, nothing_pending}
use Rattle.tbr_program.proofs.Common.{opener, renderers_of, with_cell, without_cells, Closes, Top, Place, Made, answered, on_top, if_some_are, with_stack, level_opened, ended_as}
use Rattle.tbr_program.proofs.Common.{level_ended, block_made, block_joined, joins, waits, request_made, row_made, vertical_made, after_command, ended}
use Rattle.tbr_tagged.specs.declared.Error.TheVariants as E
use Rattle.tbr_script.specs.declared.error.RunError.TheVariants.{TooNarrow}
use Rattle.tbr_stack.proofs.Tops.{done_in, refused_in}

-- ---- questions

module _ {X Y : Type 0} where
  no_more : (ys : List Y) (some none : X) → ys ≡ [] → if_some_are ys some none ≡ none
  no_more ys some none are = ap (λ zs. if_some_are zs some none) are

  still_some : (ys : List Y) (some none : X) → ys ≢ [] → if_some_are ys some none ≡ some
  still_some [] some none are = absurd (are refl)
  still_some (y ∷ ys) some none are = refl

-- ---- the end of a level

pub some_opened : {D A T : Type 0} (i p : Progress D A T) → i ≡ p → (by : Opener) → opener i.opened ≡ Some by → opener p.opened ≢ None
some_opened {D} {A} {T} i p same by is none = let there : opener p.opened ≡ Some by = ap (λ (q : Progress D A T). opener q.opened) (sym same) ∙ is in cc (there, none)

module _ {D M : Type 0} (columns : ℕ → Option ℕ) (decoration : Decoration D M) (number : ℕ)
    (end : Opener → Option (Top columns decoration → Place columns decoration → Made columns decoration)) (p : Place columns decoration) where
  abbrev ends : List (Opened D M (List M)) → Made columns decoration
  ends levels = level_ended columns decoration number end p levels

  ends_none : (levels : List (Opened D M (List M))) → ((by : Opener) → opener levels ≡ Some by → end by ≡ None) → ends levels ≡ Err (NothingToEnd number)
  ends_none [] none = refl
  ends_none (level ∷ levels) none = ap (λ o. ended_as columns decoration number o p level.below levels) (none level.by refl)

  module _ (by : Opener) (make : Top columns decoration → Place columns decoration → Made columns decoration) (is : end by ≡ Some make) where
    ends_so : (level : Opened D M (List M)) (levels : List (Opened D M (List M))) → level.by ≡ by → ends (level ∷ levels) ≡ ended_as columns decoration number (Some make) p level.below levels
    ends_so level levels same = ap (λ o. ended_as columns decoration number o p level.below levels) (ap end same ∙ is)

    ends_waiting : (levels : List (Opened D M (List M))) → opener levels ≡ Some by → p.pending.cells ≢ [] → ends levels ≡ Err (NotACommand number)
    ends_waiting [] this some = absurd (let no : ⊥ = cc in no)
    ends_waiting (level ∷ levels) this some = ends_so level levels (let same : level.by ≡ by = cc in same) ∙ still_some p.pending.cells _ _ some

    ends_by : (inside : Top columns decoration) (pending : Pending D M (List M)) (others : List (Opened D M (List M))) → p.pending.cells ≡ [] → top_of p.stack ≡ Some inside →
        ends (record { by = by; below = pending } ∷ others) ≡ make inside (record { stack = below p.stack; pending = pending; opened = others })
    ends_by inside pending others none top = grind (arith, ends_so, no_more)

module _ {D M : Type 0} where
  module _ (columns : ℕ → Option ℕ) (decoration : Decoration D M) (number : ℕ) (i p : Progress D M (List M)) (same : i ≡ p) where
    -- what the program would be with this stack
    abbrev after_it : Stack (Renderer D M (List M)) → Pending D M (List M) → Made columns decoration
    after_it stack pending = Ok (record { stack = stack; pending = pending; opened = i.opened })

    abbrev makes : Command → Made columns decoration
    makes command = after_command columns decoration number command p

    here : (command : Command) → makes command ≡ after_command columns decoration number command i
    here command = ap (λ (q : Progress D M (List M)). after_command columns decoration number command q) (sym same)

    -- ---- links

    pub link_done : (target : List ℕ) (next : Stack (Renderer D M (List M))) → after_link_start columns decoration (chars target) i.stack ≡ done next → makes (link target) ≡ after_it next i.pending
    link_done target next h = here (link target) ∙ ap (with_stack columns decoration i) h

    pub link_narrow : (target : List ℕ) → after_link_start columns decoration (chars target) i.stack ≡ refused E.TooNarrow → makes (link target) ≡ Err TooNarrow
    link_narrow target h = here (link target) ∙ ap (with_stack columns decoration i) h

    pub no_link : length (open_links i.stack) ≡ 0 → makes end_link ≡ Err (NothingToEnd number)
    no_link none = here end_link ∙ no_more (open_links i.stack) _ _ (nil_from_length (open_links i.stack) none)

    module _ (some : length (open_links i.stack) ≢ 0) where
      ending : makes end_link ≡ with_stack columns decoration i (after_link_end columns decoration i.stack)
      ending = here end_link ∙ still_some (open_links i.stack) _ _ (λ none. some (ap length none))

      pub end_done : (next : Stack (Renderer D M (List M))) → after_link_end columns decoration i.stack ≡ done next → makes end_link ≡ after_it next i.pending
      end_done next h = ending ∙ ap (with_stack columns decoration i) h

      pub end_narrow : after_link_end columns decoration i.stack ≡ refused E.TooNarrow → makes end_link ≡ Err TooNarrow
      end_narrow h = ending ∙ ap (with_stack columns decoration i) h

    -- ---- requests that end nothing

    pub request_early : (request : Request) → ends_nothing i.pending.begun request ≡ true → makes (ask request) ≡ Err (NothingToEnd number)
    request_early request none = grind (arith, here)

    -- ---- the renderer on top

    module _ (top : Renderer D M (List M)) (is_top : top_of i.stack ≡ Some top) where
      abbrev in_it : Place columns decoration → (Top columns decoration → Outcome (Top columns decoration)) → Made columns decoration
      in_it q make = with_stack columns decoration q (in_top make i.stack)

      led : (q : Place columns decoration) (make : Top columns decoration → Outcome (Top columns decoration))
          (s : Renderer D M (List M)) → make top ≡ done s → in_it q make ≡ Ok (record q { stack = (with_top i.stack s) })
      led q make s h = ap (with_stack columns decoration q) (done_in make i.stack top s is_top h)

      not_led : (q : Place columns decoration) (make : Top columns decoration → Outcome (Top columns decoration)) → make top ≡ refused E.TooNarrow → in_it q make ≡ Err TooNarrow
      not_led q make h = ap (with_stack columns decoration q) (refused_in make i.stack top E.TooNarrow is_top h)

      -- ---- requests

      module _ (request : Request) (some : ends_nothing i.pending.begun request ≡ false) where
        abbrev noted : Pending D M (List M)
        noted = record i.pending { begun = counted i.pending.begun request }

        abbrev noting : Place columns decoration
        noting = record i { pending = noted }

        asks : makes (ask request) ≡ in_it noting (request_made columns decoration request)
        asks = here (ask request) ∙ ap (λ b. if b then Err (NothingToEnd number) else in_it noting (request_made columns decoration request)) some

        pub request_done : (s : Renderer D M (List M)) (pending : Pending D M (List M)) → pending ≡ noted →
            Does columns decoration (call_of top.width request) top s → makes (ask request) ≡ after_it (with_top i.stack s) pending
        request_done s pending counts does = asks ∙ led noting (request_made columns decoration request) s does ∙ ap (after_it (with_top i.stack s)) (sym counts)

        pub request_narrow : IsTooNarrow columns decoration (call_of top.width request) top → makes (ask request) ≡ Err TooNarrow
        request_narrow h = asks ∙ not_led noting (request_made columns decoration request) h

      -- ---- rows

      abbrev no_cell_waits : Place columns decoration
      no_cell_waits = record i { pending = (without_cells i.pending) }

      module _ (cols : List (Renderer D M (List M))) (are : cols ≡ renderers_of i.pending.cells) where
        abbrev stacked : Outcome (List (List (Line (List M)))) → Outcome (Top columns decoration)
        stacked given = taking (after columns decoration new_line) given (λ cells. after columns decoration (append_vert_row cells)) top

        abbrev all_given : Outcome (List (List (Line (List M))))
        all_given = gathered (handed_out columns) cols

        stacks : (o : Outcome (Top columns decoration)) → stacked all_given ≡ o → vertical_made columns decoration i.pending top ≡ o
        stacks o h = ap (λ rs. stacked (gathered (handed_out columns) rs)) (sym are) ∙ h

        pub vertical_done : (s : Renderer D M (List M)) (pending : Pending D M (List M)) →
            pending ≡ without_cells i.pending → stacked all_given ≡ done s → makes vertical_row ≡ after_it (with_top i.stack s) pending
        vertical_done s pending taken h =
            here vertical_row ∙ led no_cell_waits (vertical_made columns decoration i.pending) s (stacks (done s) h) ∙ ap (after_it (with_top i.stack s)) (sym taken)

        pub vertical_narrow : stacked all_given ≡ refused E.TooNarrow → makes vertical_row ≡ Err TooNarrow
        vertical_narrow h = search (rules, here, not_led, stacks)

      module _ (collapse : Bool) (seen : Renderer D M (List M)) (is_seen : top_of i.stack ≡ Some seen) (cols : List (Renderer D M (List M) × ℕ)) (are : cols ≡ i.pending.cells) where
        abbrev laid : Made columns decoration
        laid = in_it no_cell_waits (row_made columns decoration i.pending collapse)

        lays : (fits : Bool) → row_fits seen.hanging (spots_of columns cols) ≡ fits → makes (row collapse) ≡ (if fits then laid else Err (RowDoesNotFit number))
        lays fits is =
            here (row collapse)
            ∙ ap (λ o. on_top o (λ (r : Top columns decoration). if row_fits r.hanging (spots_of columns i.pending.cells) then laid else Err (RowDoesNotFit number))) is_seen
            ∙ ap (λ (b : Bool). if b then laid else Err (RowDoesNotFit number))
            (ap (λ (cs : List (Renderer D M (List M) × ℕ)). row_fits seen.hanging (spots_of columns cs)) (sym are) ∙ is)

        pub row_unfit : row_fits seen.hanging (spots_of columns cols) ≡ false → makes (row collapse) ≡ Err (RowDoesNotFit number)
        row_unfit unfit = lays false unfit

        module _ (fit : row_fits seen.hanging (spots_of columns cols) ≡ true)
            (taken : List (Renderer D M (List M) × ℕ)) (those : taken ≡ i.pending.cells) (aligns : List CellAlign)
            (these : aligns ≡ i.pending.aligns) where
          abbrev beside : Outcome (List (GivenCell (List M))) → Outcome (Top columns decoration)
          beside given = taking (after columns decoration new_line) given (after_row (pointwise decoration.same) columns collapse) top

          besides : (o : Outcome (Top columns decoration)) → beside (cells_handed_out columns taken aligns) ≡ o → row_made columns decoration i.pending collapse top ≡ o
          besides o h = ap beside (λ j. cells_handed_out columns (sym those j) (sym these j)) ∙ h

          pub row_done : (s : Renderer D M (List M)) (pending : Pending D M (List M)) →
              pending ≡ without_cells i.pending → beside (cells_handed_out columns taken aligns) ≡ done s →
              makes (row collapse) ≡ after_it (with_top i.stack s) pending
          row_done s pending left h =
              lays true fit ∙ led no_cell_waits (row_made columns decoration i.pending collapse) s (besides (done s) h) ∙ ap (after_it (with_top i.stack s)) (sym left)

          pub row_narrow : beside (cells_handed_out columns taken aligns) ≡ refused E.TooNarrow → makes (row collapse) ≡ Err TooNarrow
          row_narrow h = lays true fit ∙ not_led no_cell_waits (row_made columns decoration i.pending collapse) (besides (refused E.TooNarrow) h)

    -- ---- levels

    pub level_opens : (by : Opener) (width : ℕ) (r inside : Renderer D M (List M)) (stack : Stack (Renderer D M (List M))) (pending : Pending D M (List M)) (opened : List (Opened D M (List M))) →
        top_of i.stack ≡ Some r → inside ≡ sub_renderer decoration width r → stack ≡ pushed inside i.stack → pending ≡ nothing_pending → opened ≡ record { by = by; below = i.pending } ∷ i.opened →
        level_opened columns decoration by width p ≡ Ok (record { stack = stack; pending = pending; opened = opened })
    level_opens by width r inside stack pending opened top is pushes nothing opens = grind (arith)

    module _ (end : Opener → Option (Top columns decoration → Place columns decoration → Made columns decoration)) where
      abbrev level_ends : Made columns decoration
      level_ends = level_ended columns decoration number end p p.opened

      none_ends : ((by : Opener) → opener i.opened ≡ Some by → end by ≡ None) → level_ends ≡ Err (NothingToEnd number)
      none_ends none = grind (arith, ends_none)

      module _ (by : Opener) (make : Top columns decoration → Place columns decoration → Made columns decoration) (is : end by ≡ Some make) (this : opener i.opened ≡ Some by) where
        opened_by : opener p.opened ≡ Some by
        opened_by = ap (λ (q : Progress D M (List M)). opener q.opened) (sym same) ∙ this

        waits_still : i.pending.cells ≢ [] → level_ends ≡ Err (NotACommand number)
        waits_still some = grind (arith, ends_waiting, opened_by)

        closes : (inside : Renderer D M (List M)) (next : Progress D M (List M)) → i.pending.cells ≡ [] → Closes p inside next → level_ends ≡ make inside next
        closes inside next none c = grind (arith, opened_by, ends_by)

    -- ---- blocks that end

    module _ (first others : List ℕ) where
      pub no_block : opener i.opened ≢ Some Sub → makes (append first others) ≡ Err (NothingToEnd number)
      no_block none = grind (arith, none_ends)

      pub block_waits : opener i.opened ≡ Some Sub → i.pending.cells ≢ [] → makes (append first others) ≡ Err (NotACommand number)
      block_waits is some = waits_still (joins columns decoration first others) Sub (block_joined columns decoration first others) refl is some

      module _ (is : opener i.opened ≡ Some Sub) (none : i.pending.cells ≡ []) (inside : Renderer D M (List M))
          (next j : Progress D M (List M)) (c : Closes p inside next) (left : j ≡ next) (top : Renderer D M (List M))
          (is_top : top_of j.stack ≡ Some top) where
        abbrev joined : Top columns decoration → Outcome (Top columns decoration)
        joined = block_made columns decoration first others inside

        joining : makes (append first others) ≡ with_stack columns decoration j (in_top joined j.stack)
        joining = grind (arith, closes)

        pub block_done : (s : Renderer D M (List M)) → joined top ≡ done s →
            makes (append first others) ≡ Ok (record { stack = with_top j.stack s; pending = j.pending; opened = j.opened })
        block_done s h = joining ∙ ap (with_stack columns decoration j) (done_in joined j.stack top s is_top h)

        pub block_narrow : joined top ≡ refused E.TooNarrow → makes (append first others) ≡ Err TooNarrow
        block_narrow h = joining ∙ ap (with_stack columns decoration j) (refused_in joined j.stack top E.TooNarrow is_top h)

    -- ---- cells that end

    pub no_cell : ((span : ℕ) (align : CellAlign) → opener i.opened ≢ Some (Cell span align)) → makes end_cell ≡ Err (NothingToEnd number)
    no_cell none = grind (arith, none_ends)

    module _ (span : ℕ) (align : CellAlign) (is : opener i.opened ≡ Some (Cell span align)) where
      abbrev waiting : Top columns decoration → Place columns decoration → Made columns decoration
      waiting inside q = Ok (record q { pending = with_cell q.pending inside span align })

      pub cell_waits : i.pending.cells ≢ [] → makes end_cell ≡ Err (NotACommand number)
      cell_waits some = waits_still (waits columns decoration) (Cell span align) waiting refl is some

      pub cell_done : i.pending.cells ≡ [] → (inside : Renderer D M (List M)) (next j : Progress D M (List M))
          (pending : Pending D M (List M)) → Closes p inside next → j ≡ next → pending ≡ with_cell j.pending inside span align →
          makes end_cell ≡ Ok (record { stack = j.stack; pending = pending; opened = j.opened })
      cell_done none inside next j pending c left now = grind (arith, closes, map-append)

    -- ---- the end

    abbrev gives : Result (List ℕ) RunError
    gives = ended columns decoration number p

    gives_here : gives ≡ ended columns decoration number i
    gives_here = ap (λ (q : Progress D M (List M)). ended columns decoration number q) (sym same)

    pub still_open : (i.opened ≢ []) ⊎ (i.pending.cells ≢ []) → gives ≡ Err (NotACommand number)
    still_open h = grind (arith, gives_here, still_some)

    pub text_given : (targets : List (List ℕ)) → targets ≡ (let s = i.stack in s.links) →
        (top : Renderer D M (List M)) → top_of i.stack ≡ Some top → i.opened ≡ [] → i.pending.cells ≡ [] → (o : Outcome (List ℕ)) →
        closed_text columns decoration targets top ≡ o → gives ≡ answered o
    text_given targets are top is_top none_open none_wait o h = grind (arith, gives_here, no_more)
