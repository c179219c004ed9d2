-- Programs that go on after their commands.
use Rattle.tbr_program.proofs.Common.{◌≡◌, ℕ, Option, Result, Ok, List, length, refl, sym, subst, chars, arith, Outcome, done, gathered, Decoration, Renderer, append_subrender}
use Rattle.tbr_program.proofs.Common.{append_vert_row, spots_of, handed_out, row_fits, RunError, NothingToEnd, RowDoesNotFit, top_of, in_top, open_links, Command, ask, link, end_link, sub}
use Rattle.tbr_program.proofs.Common.{append, cell, end_cell, row, vertical_row, ends_nothing, counted, Opener, Sub, Cell, prefixes, Pending, Progress, renderers_of, without_cells, IsLive}
use Rattle.tbr_program.proofs.Common.{GoesOn, Runs, with_stack, level_opened, block_made, block_joined, request_made, cells_waiting, row_made, vertical_made, after_command}
use Rattle.tbr_stack.proofs.Tops.{top_changed}
use Rattle.tbr_program.proofs.CommandParts.{one_ok, unless, if_so, some_are, of_top, stack_done, opens, Ends, block_ends, cell_ends}
use Rattle.tbr_program.proofs.Levels.{top_live, with_top_live, below_live}
use Rattle.tbr_program.proofs.LiveRenderers.{still_live, uncounted_live, row_live, taken_live}
use Rattle.tbr_program.proofs.LiveLinks.{start_live, end_live}
use Rattle.tbr_program.proofs.Results.{runs_done}

module _ {D M : Type 0} (columns : ℕ → Option ℕ) (decoration : Decoration D M) where
  -- ---- on the stack

  module _ (p q : Progress D M (List M)) (live : GoesOn p) where
    -- a change of the renderer on top
    top_goes_on : (left : Pending D M (List M)) (make : Renderer D M (List M) → Outcome (Renderer D M (List M))) →
        ((r s : Renderer D M (List M)) → IsLive r p.pending.begun → make r ≡ done s → IsLive s left.begun) →
        with_stack columns decoration (record p { pending = left }) (in_top make p.stack) ≡ Ok q → GoesOn q
    top_goes_on left make on is = grind (arith, stack_done, top_changed, with_top_live, top_live)

    level_goes_on : (by : Opener) (width : ℕ) → level_opened columns decoration by width p ≡ Ok q → GoesOn q
    level_goes_on by width is = let (r, top, same) = opens columns decoration by width p q is in subst GoesOn (sym same) ((refl, refl, λ on. refl), live)

    ended_goes_on : (make : Renderer D M (List M) → Progress D M (List M) → Result (Progress D M (List M)) RunError)
        (by : Opener) → ((inside : Renderer D M (List M)) (left : Progress D M (List M)) → GoesOn left → make inside left ≡ Ok q → GoesOn q) →
        Ends columns decoration make p by p.opened (Ok q) → GoesOn q
    ended_goes_on make by on ends = grind (arith, below_live)

  block_goes_on : (first others : List ℕ) (q : Progress D M (List M)) (inside : Renderer D M (List M))
      (left : Progress D M (List M)) → GoesOn left → block_joined columns decoration first others inside left ≡ Ok q → GoesOn q
  block_goes_on first others q inside left live is =
      top_goes_on left q live left.pending (block_made columns decoration first others inside)
      (taken_live columns decoration (handed_out columns inside) _ left.pending.begun
      (λ lines r s here does. uncounted_live columns decoration
      (append_subrender (prefixes first others (length lines)) lines) r s left.pending.begun (λ x. refl) (λ n. refl) here does)) is

  -- ---- commands

  goes_on : (number : ℕ) (command : Command) (p q : Progress D M (List M)) → GoesOn p → after_command columns decoration number command p ≡ Ok q → GoesOn q
  goes_on number (ask request) p q live is =
      let (some, made) = unless (ends_nothing p.pending.begun request) (NothingToEnd number) _ (Ok q) (λ no. no) tt is in
      top_goes_on p q live (record p.pending { begun = counted p.pending.begun request })
      (request_made columns decoration request) (λ r s here does. still_live columns decoration request r s p.pending.begun here does) made
  goes_on number (link target) p q live is =
      let (s, made, same) = stack_done columns decoration p _ q is in
      subst GoesOn (sym same) (start_live columns decoration p.pending.begun _ p.stack s live (chars target) made)
  goes_on number end_link p q live is =
      let (s, made, same) = stack_done columns decoration p _ q (some_are (open_links p.stack) (NothingToEnd number) _ (Ok q) (λ no. no) tt is) in
      subst GoesOn (sym same) (end_live columns decoration p.pending.begun _ p.stack s live made)
  goes_on number (sub width) p q live is = level_goes_on p q live Sub width is
  goes_on number (append first others) p q live is =
      ended_goes_on p q live (block_joined columns decoration first others) Sub (block_goes_on first others q) (block_ends columns decoration number p p.opened (Ok q) tt first others is)
  goes_on number (cell width span align) p q live is = level_goes_on p q live (Cell span align) width is
  goes_on number end_cell p q live is =
      let (span, align, ends) = cell_ends columns decoration number p p.opened (Ok q) tt is in
      ended_goes_on p q live _ (Cell span align) (λ inside left here made. subst GoesOn (sym (one_ok _ q made)) here) ends
  goes_on number (row collapse) p q live is =
      let (top, there, made) = of_top (top_of p.stack) _ (Ok q) tt is in
      let (fits, lays) = if_so (row_fits top.hanging (spots_of columns p.pending.cells)) (RowDoesNotFit number) _ (Ok q) (λ no. no) tt made in
      top_goes_on p q live (without_cells p.pending) (row_made columns decoration p.pending collapse)
      (taken_live columns decoration (cells_waiting columns decoration p.pending) _ p.pending.begun
      (λ cells r s here does. row_live columns decoration collapse cells r s p.pending.begun here does)) lays
  goes_on number vertical_row p q live is =
      top_goes_on p q live (without_cells p.pending) (vertical_made columns decoration p.pending)
      (taken_live columns decoration (gathered (handed_out columns) (renderers_of p.pending.cells)) _ p.pending.begun
      (λ cells r s here does. uncounted_live columns decoration (append_vert_row cells) r s p.pending.begun (λ x. refl) (λ n. refl) here does)) is

module _ {D A : Type 0} where
  module _ (columns : ℕ → Option ℕ) (decoration : Decoration D A) (number : ℕ) (command : Command) (old new : Progress D A (List A)) (live : GoesOn old) where
    -- a command that is done
    pub command_done : {R : Type 0} (x : R) → after_command columns decoration number command old ≡ Ok new → Runs (after_command columns decoration number command) old (Ok x) new
    command_done x is = runs_done (after_command columns decoration number command) old new x is (goes_on columns decoration number command old new live is)

  module _ (columns : ℕ → Option ℕ) (decoration : Decoration D A) (by : Opener) (width : ℕ) (old new : Progress D A (List A)) (live : GoesOn old) where
    -- a level that is opened
    pub opening_done : {R : Type 0} (x : R) → level_opened columns decoration by width old ≡ Ok new → Runs (level_opened columns decoration by width) old (Ok x) new
    opening_done x is = runs_done (level_opened columns decoration by width) old new x is (level_goes_on columns decoration old new live by width is)
