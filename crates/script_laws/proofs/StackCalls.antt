-- What commands do to a stack is what its calls do.
use Rattle.script_laws.proofs.Common.{◌≡◌, ℕ, ◌+◌, Option, List, [], ◌∷◌, ◌++◌, chars, length, Ok, refl, ap, sym, ◌∙◌, subst, Decoration, Outcome, done, Renderer, sub_renderer, Stack, top_of, below}
use Rattle.script_laws.proofs.Common.{in_top, open_links, after_link_end, Command, ask, link, end_link, sub, append, cell, end_cell, vertical_row, Pending, Progress, without_cells, row_fits, spots_of}
use Rattle.script_laws.proofs.Common.{NothingToEnd, RowDoesNotFit, ends_nothing, counted, Opener, Sub, with_stack, level_opened, block_made, request_made, row_made, vertical_made, after_command}
use Rattle.script_laws.proofs.Common.{after_read, after_line, ended, rendered_on, command_read, calls_of, stack_calls, AskFor, LinesDo}
use Rattle.text_block_renderer.proofs.LinkNumbers.{own_number}
use Rattle.tbr_stack.specs.StackCalls.{StackCall, change_top, push, IsNextToEnd, StackSteps, after_end_as}
use Rattle.tbr_stack.proofs.Tops.{top_changed}
use Rattle.tbr_commands.specs.Command.{row}
use Rattle.tbr_program.specs.declared.opened.Opener.TheVariants.{Cell}
use Rattle.tbr_commands.proofs.Reading.{command_is_read}
use Rattle.tbr_program.proofs.CommandParts.{one_ok, unless, if_so, some_are, of_top, stack_done, opens, block_ends, cell_ends}
use Rattle.script_laws.proofs.RenderedLines.{line_parts, line_asks}

module _ {D M : Type 0} (columns : ℕ → Option ℕ) (decoration : Decoration D M) where
  abbrev Top : Type 0
  Top = Renderer D M (List M)

  abbrev Steps : List StackCall → Stack Top → Stack Top → Type 0
  Steps = StackSteps columns decoration

  steps_append : (first rest : List StackCall) (s m t : Stack Top) → Steps first s m → Steps rest m t → Steps (first ++ rest) s t
  steps_append [] rest s m t same steps = subst (λ (q : Stack Top). Steps rest q t) same steps
  steps_append (call ∷ calls) rest s m t (between, does, others) steps = (between, does, steps_append calls rest between m t others steps)

  -- a change of the top, whatever is pending then
  top_steps : (p next : Progress D M (List M)) (left : Pending D M (List M)) (make : Top → Outcome Top) →
      with_stack columns decoration (record p { pending = left }) (in_top make p.stack) ≡ Ok next → Steps (change_top ∷ []) p.stack next.stack
  top_steps p next left make is =
      let (s, made, same) = stack_done columns decoration (record p { pending = left }) (in_top make p.stack) next is in
      let changes = top_changed make p.stack s made in
      (next.stack, (changes.1, ap (λ (q : Progress D M (List M)). q.stack) same ∙ changes.4), refl)

  level_steps : (by : Opener) (width : ℕ) (p next : Progress D M (List M)) → level_opened columns decoration by width p ≡ Ok next → Steps (push ∷ []) p.stack next.stack
  level_steps by width p next is =
      let (r, top, same) = opens columns decoration by width p next is in
      (next.stack, (sub_renderer decoration width r, ap (λ (q : Progress D M (List M)). q.stack) same), refl)

  command_steps : (number : ℕ) (command : Command) (p next : Progress D M (List M)) → after_command columns decoration number command p ≡ Ok next → Steps (calls_of command) p.stack next.stack
  command_steps number (ask request) p next is =
      let (some, made) = unless (ends_nothing p.pending.begun request) (NothingToEnd number) _ (Ok next) (λ no. no) tt is in
      top_steps p next (record p.pending { begun = counted p.pending.begun request }) (request_made columns decoration request) made
  command_steps number (link target) p next is =
      let (s, made, same) = stack_done columns decoration p _ next is in
      (next.stack, made ∙ ap (λ (q : Progress D M (List M)). done q.stack) (sym same), refl)
  command_steps number end_link p next is =
      let (s, made, same) = stack_done columns decoration p _ next (some_are (open_links p.stack) (NothingToEnd number) _ (Ok next) (λ no. no) tt is) in
      (next.stack, made ∙ ap (λ (q : Progress D M (List M)). done q.stack) (sym same), refl)
  command_steps number (sub width) p next is = level_steps Sub width p next is
  command_steps number (append first others) p next is =
      let ends = block_ends columns decoration number p p.opened (Ok next) tt first others is in (
        below p.stack,
        refl,
        top_steps (record { stack = below p.stack; pending = ends.pending; opened = ends.others })
            next ends.pending (block_made columns decoration first others ends.inside) ends.makes,
      )
  command_steps number (cell width span align) p next is = level_steps (Cell span align) width p next is
  command_steps number end_cell p next is =
      let (span, align, ends) = cell_ends columns decoration number p p.opened (Ok next) tt is in
      (next.stack, ap (λ (q : Progress D M (List M)). q.stack) (one_ok _ next ends.makes), refl)
  command_steps number (row collapse) p next is =
      let (top, there, made) = of_top (top_of p.stack) _ (Ok next) tt is in
      let (fits, lays) = if_so (row_fits top.hanging (spots_of columns p.pending.cells)) (RowDoesNotFit number) _ (Ok next) (λ no. no) tt made in
      top_steps p next (without_cells p.pending) (row_made columns decoration p.pending collapse) lays
  command_steps number vertical_row p next is = top_steps p next (without_cells p.pending) (vertical_made columns decoration p.pending) is

  pub lines_step : (number : ℕ) (lines : List (List ℕ)) (commands : List Command) (p q : Progress D M (List M)) → AskFor lines commands →
      LinesDo columns decoration p number lines q → Steps (stack_calls commands) p.stack q.stack
  lines_step number [] commands p q none same = subst (λ cs. Steps (stack_calls cs) p.stack q.stack) (sym none) (ap (λ (o : Progress D M (List M)). o.stack) same)
  lines_step number ([] ∷ lines) commands p q asks (next, same, lead) =
      subst (λ (o : Progress D M (List M)). Steps (stack_calls commands) o.stack q.stack) (one_ok p next same) (lines_step (number + 1) lines commands next q asks lead)
  lines_step number ((b ∷ bs) ∷ lines) commands p q (command, others, is, are, asks) (next, does, lead) =
      let first = command_steps number command p next (sym (ap (λ read. after_read columns decoration number read p) (command_is_read (b ∷ bs) command is)) ∙ does) in
      subst (λ cs. Steps (stack_calls cs) p.stack q.stack) (sym are)
      (steps_append (calls_of command) (stack_calls others) p.stack next.stack q.stack first (lines_step (number + 1) lines others next q asks lead))

  pub link_number_is_its_own : (target : List ℕ) (number : ℕ) (lines : List (List ℕ)) (commands : List Command) (p m q : Progress D M (List M)) →
      after_command columns decoration number (link target) p ≡ Ok m → AskFor lines commands → LinesDo columns decoration m (number + 1) lines q →
      IsNextToEnd (0 ∷ []) (stack_calls commands) →
      after_link_end columns decoration q.stack ≡ after_end_as columns decoration (length p.stack.links + 1) q.stack
  link_number_is_its_own target number lines commands p m q begins asks lead next =
      let (s, starts, same) = stack_done columns decoration p _ m begins in
      own_number columns decoration (chars target) (stack_calls commands) p.stack m.stack q.stack
      (starts ∙ ap (λ (o : Progress D M (List M)). done o.stack) (sym same))
      (lines_step (number + 1) lines commands m q asks lead) next

  -- ---- where a script ends

  -- Where lines give a text: their commands, and where they lead, which is where the script ends.
  pub record End (p : Progress D M (List M)) (number : ℕ) (lines : List (List ℕ)) (text : List ℕ) : Type 0 where
    pub commands : List Command
    pub there : Progress D M (List M)
    pub last : ℕ
    pub ask : AskFor lines commands
    pub lead : LinesDo columns decoration p number lines there
    pub ends : ended columns decoration last there ≡ Ok text

  pub lines_end : (p : Progress D M (List M)) (number : ℕ) (lines : List (List ℕ)) (text : List ℕ) → rendered_on columns decoration number lines p ≡ Ok text → End p number lines text
  lines_end p number [] text ends = record { commands = []; there = p; last = number; ask = refl; lead = refl; ends = ends }
  lines_end p number (line ∷ lines) text gives =
      let (next, does, others) =
      line_parts columns decoration number (after_line columns decoration number line p) lines text gives in
      after_first line does (lines_end next (number + 1) lines text others)
    where
      after_first : {next : Progress D M (List M)} (line : List ℕ) → after_line columns decoration number line p ≡ Ok next → End next (number + 1) lines text → End p number (line ∷ lines) text
      after_first {next} [] does end = record { commands = end.commands; there = end.there; last = end.last; ask = end.ask; lead = (next, does, end.lead); ends = end.ends }
      after_first {next} (b ∷ bs) does end =
          let (command, is) = line_asks columns decoration number p next (b ∷ bs) (command_read (b ∷ bs)) refl does in
          record { commands = command ∷ end.commands; there = end.there; last = end.last; ask = (command, end.commands, is, refl, end.ask); lead = (next, does, end.lead); ends = end.ends }
