-- What each command makes of a script, and what its end gives.
use Rattle.std.specs.Prelude.{◌≡◌, ◌≢◌, ℕ, if◌then◌else◌, Bool, true, Option, None, Some, Result, Ok, Err, OnOk, IfErr, List, [], ◌∷◌, length, chars}
use Rattle.std.specs.Cmp.Lexicographic.{pointwise}
use Rattle.tbr_tagged.specs.Outcome.{Outcome, done, refused}
use Rattle.tbr_rows.specs.Cells.{row_fits}
use Rattle.tbr_decor.specs.Decoration.{Decoration}
use Rattle.tbr_renderer.specs.Outcomes.{changed, taking, gathered}
use Rattle.tbr_renderer.specs.Renderer.{Renderer, new_renderer}
use Rattle.tbr_renderer.specs.Decorated.{sub_renderer}
use Rattle.tbr_renderer.specs.Appended.{handed_out}
use Rattle.tbr_renderer.specs.Calls.{new_line, append_subrender, append_vert_row, after}
use Rattle.tbr_renderer.specs.Rows.{spots_of, GivenCell, cells_given, after_row}
use Rattle.tbr_script.specs.Refusal.{refusal_of}
use Rattle.tbr_script.specs.declared.error.RunError.{RunError}
use Rattle.tbr_script.specs.declared.error.RunError.TheVariants.{TooNarrow, OutOfMemory, NotACommand, NothingToEnd, RowDoesNotFit}
use Rattle.tbr_stack.specs.Stack.{Stack, new_stack, top_of, pushed, below}
use Rattle.tbr_stack.specs.Top.{in_top}
use Rattle.tbr_stack.specs.Links.{open_links, after_link_start, after_link_end}
use Rattle.tbr_commands.specs.declared.opening.Opening.{Opening}
use Rattle.tbr_commands.specs.Request.{Request, call_of}
use Rattle.tbr_commands.specs.Command.{Command, ask, link, end_link, sub, append, cell, end_cell, row, vertical_row}
use Rattle.tbr_commands.specs.Read.{command_read}
use Rattle.tbr_commands.specs.Begun.{ends_nothing, counted}
use Rattle.tbr_program.specs.declared.opened.Opener.{Opener}
use Rattle.tbr_program.specs.declared.opened.Opener.TheVariants.{Sub, Cell}
use Rattle.tbr_program.specs.Prefixes.{prefixes}
use Rattle.tbr_program.specs.Progress.{Pending, Opened, Progress, nothing_pending, renderers_of, with_cell, without_cells, GoesOn}
use Rattle.tbr_program.specs.Closing.{closed_text}
use Rattle.tbr_program.specs.Safe.{shown_command}

-- What a function runs that makes this of a program. It is `Ok` only where it leaves that, and refused only with the
-- refusal that this is, but where memory is refused. But for `TooNarrow` a refusal leaves the program as it was, and
-- else it goes on.
pub record Runs {D A R : Type 0} (make : Progress D A (List A) → Result (Progress D A (List A)) RunError)
    (old : Progress D A (List A)) (result : Result R RunError) (new : Progress D A (List A)) : Type 0 where
  pub ok : OnOk result (make old ≡ Ok new)
  pub goes_on : OnOk result (GoesOn new)
  pub refused : IfErr result (λ e. e ≢ OutOfMemory → make old ≡ Err e)
  pub left : IfErr result (λ e. e ≢ OutOfMemory → e ≢ TooNarrow → new ≡ old)

-- ---- of what commands are made

-- an outcome as the answer of a script
abbrev pub answered : {X : Type 0} → Outcome X → Result X RunError
answered (done x) = Ok x
answered (refused e) = Err (refusal_of e)

-- What is made of the renderer on top. No script has a stack without one, so only memory could refuse it.
abbrev pub on_top : {R X : Type 0} → Option R → (R → Result X RunError) → Result X RunError
on_top None make = Err OutOfMemory
on_top (Some top) make = make top

-- the first where there is one of something, and else the other
abbrev pub if_some_are : {X Y : Type 0} → List X → Y → Y → Y
if_some_are [] some none = none
if_some_are (x ∷ xs) some none = some

module _ {D M : Type 0} (columns : ℕ → Option ℕ) (decoration : Decoration D M) where
  -- a renderer, where a script is, and what comes of that, by what annotations mean
  abbrev pub Top : Type 0
  Top = Renderer D M (List M)

  abbrev pub Place : Type 0
  Place = Progress D M (List M)

  abbrev pub Made : Type 0
  Made = Result Place RunError

  -- a script with what was made of its stack
  abbrev pub with_stack : Place → Outcome (Stack Top) → Made
  with_stack p made = answered (changed (λ stack. record p { stack = stack }) made)

  -- ---- levels

  -- a renderer for a block inside comes on top, with nothing pending
  abbrev pub level_opened : Opener → ℕ → Place → Made
  level_opened by width p = on_top (top_of p.stack) (λ top. Ok (record {
    stack = pushed (sub_renderer decoration width top) p.stack;
    pending = nothing_pending;
    opened = record { by = by; below = p.pending } ∷ p.opened;
  }))

  -- The innermost level ends, if the command that opened it is to be ended here, and no cell waits. Its renderer is
  -- taken, and what was pending below it is pending again.
  abbrev pub ended_as : ℕ → Option (Top → Place → Made) → Place → Pending D M (List M) →
      List (Opened D M (List M)) → Made
  ended_as number None p pending opened = Err (NothingToEnd number)
  ended_as number (Some make) p pending opened =
      if_some_are p.pending.cells (Err (NotACommand number)) (on_top (top_of p.stack) (λ inside.
      make inside (record { stack = below p.stack; pending = pending; opened = opened })))

  abbrev pub level_ended : ℕ → (Opener → Option (Top → Place → Made)) → Place → List (Opened D M (List M)) → Made
  level_ended number end p [] = Err (NothingToEnd number)
  level_ended number end p (level ∷ levels) = ended_as number (end level.by) p level.below levels

  -- the lines of a block join those below it, the first after one prefix, each other after another
  abbrev pub block_made : List ℕ → List ℕ → Top → Top → Outcome Top
  block_made first others inside =
      taking (after columns decoration new_line) (handed_out columns inside) (λ lines.
      after columns decoration (append_subrender (prefixes first others (length lines)) lines))

  abbrev pub block_joined : List ℕ → List ℕ → Top → Place → Made
  block_joined first others inside p = with_stack p (in_top (block_made first others inside) p.stack)

  -- how a level of each command ends
  abbrev pub joins : List ℕ → List ℕ → Opener → Option (Top → Place → Made)
  joins first others Sub = Some (block_joined first others)
  joins first others (Cell span align) = None

  abbrev pub waits : Opener → Option (Top → Place → Made)
  waits Sub = None
  waits (Cell span align) = Some (λ inside p. Ok (record p { pending = with_cell p.pending inside span align }))

  -- ---- renderers

  -- what a request makes of the renderer on top
  abbrev pub request_made : Request → Top → Outcome Top
  request_made request r = after columns decoration (call_of r.width request) r

  -- the waiting cells as they come into a row
  abbrev pub cells_waiting : Pending D M (List M) → Outcome (List (GivenCell (List M)))
  cells_waiting pending = cells_given (λ r. r.width) (handed_out columns) pending.cells pending.aligns

  -- what a row of the waiting cells makes of a renderer, side by side or one below another
  abbrev pub row_made : Pending D M (List M) → Bool → Top → Outcome Top
  row_made pending collapse =
      let row = after_row (pointwise decoration.same) columns collapse in
      taking (after columns decoration new_line) (cells_waiting pending) row

  abbrev pub vertical_made : Pending D M (List M) → Top → Outcome Top
  vertical_made pending =
      taking (after columns decoration new_line) (gathered (handed_out columns) (renderers_of pending.cells)) (λ cells.
      after columns decoration (append_vert_row cells))

  -- ---- commands

  -- what a command on the line of this number makes of a script
  abbrev pub after_command : ℕ → Command → Place → Made
  after_command number (ask request) p =
      if ends_nothing p.pending.begun request then Err (NothingToEnd number)
      else with_stack (record p { pending = record p.pending { begun = counted p.pending.begun request } })
      (in_top (request_made request) p.stack)
  after_command number (link target) p = with_stack p (after_link_start columns decoration (chars target) p.stack)
  after_command number end_link p =
      if_some_are (open_links p.stack) (with_stack p (after_link_end columns decoration p.stack))
      (Err (NothingToEnd number))
  after_command number (sub width) p = level_opened Sub width p
  after_command number (append first others) p = level_ended number (joins first others) p p.opened
  after_command number (cell width span align) p = level_opened (Cell span align) width p
  after_command number end_cell p = level_ended number waits p p.opened
  after_command number (row collapse) p = on_top (top_of p.stack) (λ top.
      if row_fits top.hanging (spots_of columns p.pending.cells)
      then with_stack (record p { pending = without_cells p.pending }) (in_top (row_made p.pending collapse) p.stack)
      else Err (RowDoesNotFit number))
  after_command number vertical_row p =
      with_stack (record p { pending = without_cells p.pending }) (in_top (vertical_made p.pending) p.stack)

  -- ---- lines

  -- what is made of a script by what is read of the line of this number: a command, or none, which is refused
  abbrev pub after_shown_read : (raw : Bool) → ℕ → Option Command → Place → Made
  after_shown_read raw number None p = Err (NotACommand number)
  after_shown_read raw number (Some command) p = after_command number (shown_command raw command) p

  -- What the line of this number makes of a script. An empty line is skipped.
  abbrev pub after_shown_line : (raw : Bool) → ℕ → List ℕ → Place → Made
  after_shown_line raw number [] p = Ok p
  after_shown_line raw number (b ∷ bs) p = after_shown_read raw number (command_read (b ∷ bs)) p

  -- what it makes of one that shows all as it came
  abbrev pub after_read : ℕ → Option Command → Place → Made
  after_read = after_shown_read true

  abbrev pub after_line : ℕ → List ℕ → Place → Made
  after_line = after_shown_line true

  -- What the end of a script gives, which counts as the line of this number: its text with the footnotes of its links.
  -- Where a level is open or a cell waits, the end is no command.
  abbrev pub ended : ℕ → Place → Result (List ℕ) RunError
  ended number p =
      if_some_are p.opened (Err (NotACommand number)) (if_some_are p.pending.cells (Err (NotACommand number))
      (on_top (top_of p.stack) (λ top. answered (closed_text columns decoration p.stack.links top))))

-- ---- the first command

-- the renderer of a first command, with nothing pending
abbrev pub started : {D M : Type 0} → Opening → D → Progress D M (List M)
started opening decorator = record {
  stack = new_stack (new_renderer opening.width opening.options decorator);
  pending = nothing_pending;
  opened = [];
}
