-- Lines do to the stack what their calls do.
use Rattle.script_laws.proofs.Common.{◌≡◌, ℕ, ◌+◌, Option, Some, Ok, List, [], ◌∷◌, ◌++◌, chars, length, inl, inr, refl, ap, sym, ◌∙◌, subst, Decoration, Outcome, done, taking, gathered, run}
use Rattle.script_laws.proofs.Common.{row_fits, Renderer, Line, GivenCell, spots_of, handed_out, sub_renderer, new_line, append_subrender, append_vert_row, after, Act, call, row_of_cells, after_act}
use Rattle.script_laws.proofs.Common.{Stack, top_of, below, with_top, in_top, open_links, NothingToEnd, RowDoesNotFit, ends_nothing, counted, Command, ask, link, end_link, sub, append, cell, end_cell}
use Rattle.script_laws.proofs.Common.{vertical_row, IsCommand, Opener, Sub, prefixes, Pending, Progress, renderers_of, without_cells, with_stack, level_opened, block_made, cells_waiting, request_made}
use Rattle.script_laws.proofs.Common.{row_made, vertical_made, after_command, after_read, after_line, command_read, LinesDo}
use Rattle.tbr_renderer.proofs.OutcomeParts.{one_done, done_first, run_on, run_last, taken}
use Rattle.tbr_stack.proofs.Tops.{top_changed, done_in}
use Rattle.text_block_renderer.specs.Levels.{OnStack, on_top, push, pop, start_link, end_link as ends_link, after_on_stack}
use Rattle.tbr_commands.specs.Command.{row}
use Rattle.tbr_commands.specs.Request.{call_of}
use Rattle.tbr_commands.proofs.Reading.{command_is_read}
use Rattle.tbr_program.specs.declared.opened.Opener.TheVariants.{Cell}
use Rattle.tbr_program.proofs.CommandParts.{one_ok, unless, if_so, some_are, of_top, stack_done, opens, block_ends, cell_ends}
use Rattle.script_laws.specs.LinesOnStack.{IsCalls, AreCalls}
use Rattle.script_laws.proofs.BlocksOfLines.{names}
use Rattle.script_laws.proofs.RenderedLines.{line_asks}

module _ {D M : Type 0} (columns : ℕ → Option ℕ) (decoration : Decoration D M) where
  abbrev Top : Type 0
  Top = Renderer D M (List M)

  abbrev Run : List (OnStack D M) → Stack Top → Stack Top → Type 0
  Run calls s t = run (after_on_stack columns decoration) calls s ≡ done t

  run_more : (first rest : List (OnStack D M)) (s m t : Stack Top) → Run first s m → Run rest m t → Run (first ++ rest) s t
  run_more [] rest s m t h k = subst (λ (q : Stack Top). Run rest q t) (one_done s m h) k
  run_more (one ∷ first) rest s m t h k =
      let (q, does, others) = done_first (after_on_stack columns decoration one s) (run (after_on_stack columns decoration) first) m h in
      run_on (after_on_stack columns decoration) one (first ++ rest) s q (done t) does (run_more first rest q m t others k)

  -- an act on the top, as a change of it makes it
  acts : (act : Act M) (s t : Stack Top) (r q : Top) → top_of s ≡ Some r → after_act columns decoration act r ≡ done q → t ≡ with_top s q → Run (on_top act ∷ []) s t
  acts act s t r q top does put =
      run_last (after_on_stack columns decoration) (on_top act) s t (done_in (after_act columns decoration act) s r q top does ∙ ap (λ (x : Stack Top). done x) (sym put))

  -- what a line does to the stack
  abbrev Does : List ℕ → Progress D M (List M) → Progress D M (List M) → Type 0
  Does line p next = (calls : List (OnStack D M)) × IsCalls line calls × Run calls p.stack next.stack

  -- cells that wait are taken
  takes : {X : Type 0} (line : List ℕ) (given : Outcome X) (act : X → Act M) (p next : Progress D M (List M)) → ((x : X) → IsCalls {D = D} {M = M} line (on_top (act x) ∷ [])) →
      with_stack columns decoration (record p { pending = without_cells p.pending })
      (in_top (taking (after columns decoration new_line) given (λ x. after_act columns decoration (act x))) p.stack)
      ≡ Ok next → Does line p next
  takes line given act p next is does =
      let made = taking (after columns decoration new_line) given (λ x. after_act columns decoration (act x)) in
      let (s, makes, same) = stack_done columns decoration (record p { pending = without_cells p.pending }) (in_top made p.stack) next does in
      let (r, q, top, calls, put) = top_changed made p.stack s makes in
      let (m, x, flushes, gives, takes_it) = taken (after columns decoration new_line) given (λ y. after_act columns decoration (act y)) r q calls in
      (on_top (act x) ∷ [], is x, acts (act x) p.stack next.stack r q top takes_it (ap (λ (o : Progress D M (List M)). o.stack) same ∙ put))

  opens_level : (line : List ℕ) (by : Opener) (width : ℕ) (p next : Progress D M (List M)) →
      ((r : Top) → IsCalls {D = D} {M = M} line (push r ∷ [])) → level_opened columns decoration by width p ≡ Ok next →
      Does line p next
  opens_level line by width p next is does =
      let (r, top, same) = opens columns decoration by width p next does in
      let inside = sub_renderer decoration width r in
      (push inside ∷ [], is inside, ap (λ (q : Progress D M (List M)). done q.stack) (sym same))

  line_does : (number : ℕ) (line : List ℕ) (command : Command) (p next : Progress D M (List M)) →
      IsCommand line command → after_command columns decoration number command p ≡ Ok next → Does line p next
  line_does number line (ask asked) p next is does =
      let (some, made) = unless (ends_nothing p.pending.begun asked) (NothingToEnd number) _ (Ok next) (λ no. no) tt does in
      let makes_it = request_made columns decoration asked in
      let (s, makes, same) = stack_done columns decoration (record p { pending = record p.pending { begun = counted p.pending.begun asked } }) (in_top makes_it p.stack) next made in
      let (r, q, top, calls, put) = top_changed makes_it p.stack s makes in
      let c = call_of r.width asked in (
        on_top (call c) ∷ [],
        inl (r.width, c, names (List M) r.width line asked is.writes, refl),
        acts (call c) p.stack next.stack r q top calls (ap (λ (o : Progress D M (List M)). o.stack) same ∙ put),
      )
  line_does number line (link target) p next is does =
      let (s, makes, same) = stack_done columns decoration p _ next does in (
        start_link (chars target) ∷ [],
        inr (link target, is, refl),
        run_last (after_on_stack columns decoration)
            (start_link (chars target)) p.stack next.stack (makes ∙ ap (λ (q : Progress D M (List M)). done q.stack) (sym same)),
      )
  line_does number line end_link p next is does =
      let (s, makes, same) = stack_done columns decoration p _ next (some_are (open_links p.stack) (NothingToEnd number) _ (Ok next) (λ no. no) tt does) in
      (ends_link ∷ [], inr (end_link, is, refl), run_last (after_on_stack columns decoration) ends_link p.stack next.stack (makes ∙ ap (λ (q : Progress D M (List M)). done q.stack) (sym same)))
  line_does number line (sub width) p next is does = opens_level line Sub width p next (λ r. inr (sub width, is, (r, refl))) does
  line_does number line (append first others) p next is does =
      let ends = block_ends columns decoration number p p.opened (Ok next) tt first others does in
      let made = block_made columns decoration first others ends.inside in
      let there : Progress D M (List M) = record { stack = below p.stack; pending = ends.pending; opened = ends.others } in
      let (s, makes, same) = stack_done columns decoration there (in_top made (below p.stack)) next ends.makes in
      let (r, q, top, calls, put) = top_changed made (below p.stack) s makes in
      let (m, own, flushes, gives, comes) =
      taken (after columns decoration new_line) (handed_out columns ends.inside)
      (λ given. after columns decoration (append_subrender (prefixes first others (length given)) given)) r q
      calls in (
        pop ∷ on_top (call (append_subrender (prefixes first others (length own)) own)) ∷ [],
        inr (append first others, is, (own, refl)),
        acts (call (append_subrender (prefixes first others (length own)) own)) (below p.stack) next.stack r q top
            comes (ap (λ (o : Progress D M (List M)). o.stack) same ∙ put),
      )
  line_does number line (cell width span align) p next is does = opens_level line (Cell span align) width p next (λ r. inr (cell width span align, is, (r, refl))) does
  line_does number line end_cell p next is does =
      let (span, align, ends) = cell_ends columns decoration number p p.opened (Ok next) tt does in
      (pop ∷ [], inr (end_cell, is, refl), ap (λ (q : Progress D M (List M)). done q.stack) (sym (one_ok _ next ends.makes)))
  line_does number line (row collapse) p next is does =
      let (top, there, made) = of_top (top_of p.stack) _ (Ok next) tt does in
      let (fits, lays) = if_so (row_fits top.hanging (spots_of columns p.pending.cells)) (RowDoesNotFit number) _ (Ok next) (λ no. no) tt made in
      takes line (cells_waiting columns decoration p.pending) (row_of_cells collapse) p next (λ given. inr (row collapse, is, (given, refl))) lays
  line_does number line vertical_row p next is does =
      takes line (gathered (handed_out columns) (renderers_of p.pending.cells)) (λ given. call (append_vert_row given)) p next (λ given. inr (vertical_row, is, (given, refl))) does

  pub lines_do : (number : ℕ) (lines : List (List ℕ)) (p q : Progress D M (List M)) →
      LinesDo columns decoration p number lines q →
      (calls : List (OnStack D M)) × AreCalls lines calls × Run calls p.stack q.stack
  lines_do number [] p q same = ([], refl, ap (λ (o : Progress D M (List M)). done o.stack) (sym same))
  lines_do number ([] ∷ lines) p q (next, same, lead) = lines_do (number + 1) lines p q (subst (λ o. LinesDo columns decoration o (number + 1) lines q) (one_ok p next same) lead)
  lines_do number ((b ∷ bs) ∷ lines) p q (next, does, lead) =
      let (command, is) = line_asks columns decoration number p next (b ∷ bs) (command_read (b ∷ bs)) refl does in
      let (own, are, first) = line_does number (b ∷ bs) command p next is (sym (ap (λ read. after_read columns decoration number read p) (command_is_read (b ∷ bs) command is)) ∙ does) in
      let (others, more, rest) = lines_do (number + 1) lines next q lead in
      (own ++ others, (own, others, refl, are, more), run_more own others p.stack next.stack q.stack first rest)
