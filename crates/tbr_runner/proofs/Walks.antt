-- One walk over what commands and lines make of a script's renderers, and over what they are refused with.
use Rattle.tbr_runner.proofs.Common.{◌≡◌, ℕ, Option, None, Some, Result, Ok, Err, List, [], ◌∷◌, ◌++◌, drop, map, length, chars, refl, subst, arith, rules, cond_both, AllZip, Each, Outcome}
use Rattle.tbr_runner.proofs.Common.{done, refused, CellAlign, row_fits, Decoration, and_then, changed, taking, gathered, Renderer, Line, spots_of, GivenCell, cells_given, handed_out}
use Rattle.tbr_runner.proofs.Common.{sub_renderer, Call, new_line, begin, finish, add_inline_text, append_subrender, append_vert_row, after, Act, call, row_of_cells, after_act, IsOfScript}
use Rattle.tbr_runner.proofs.Common.{RunError, OutOfMemory, NothingToEnd, RowDoesNotFit, Level, Stack, first_renderer, top_of, in_first, with_top, in_top, link_number, shown_number}
use Rattle.tbr_runner.proofs.Common.{open_links, with_link, without_open_link, after_end_with, ends_nothing, counted, Command, ask, link, end_link, sub, append, cell, end_cell, vertical_row}
use Rattle.tbr_runner.proofs.Common.{IsCommand, command_read, Opener, Sub, prefixes, Pending, Opened, Progress, renderers_of, without_cells, Place, Made, answered, on_top, if_some_are}
use Rattle.tbr_runner.proofs.Common.{with_stack, level_opened, ended_as, level_ended, block_made, joins, waits, cells_waiting, request_made, after_command, after_read, after_line, ended}
use Rattle.tbr_runner.proofs.Common.{closed_text, unless_refused, EndsOne}
use Rattle.tbr_tagged.specs.declared.Error.TheVariants as E
use Rattle.tbr_decor.specs.Start as start
use Rattle.tbr_decor.specs.End as end
use Rattle.tbr_script.specs.declared.error.RunError.TheVariants.{TooNarrow}
use Rattle.tbr_commands.specs.Request.{Request, call_of}
use Rattle.tbr_commands.specs.Command.{row}
use Rattle.tbr_commands.proofs.Reading.{read_command}
use Rattle.tbr_program.specs.declared.opened.Opener.TheVariants.{Cell}

-- ---- what is such, or is refused

-- What is made is such, or it is refused by the script itself or by memory. Too narrow it is only where that may be.
module _ (narrow : Type 0) where
  abbrev pub Meets : {X : Type 0} → (X → Type 0) → Result X RunError → Type 0
  Meets Is (Ok x) = Is x
  Meets Is (Err TooNarrow) = narrow
  Meets Is (Err OutOfMemory) = Unit {0}
  Meets Is (Err e) = IsOfScript e

  -- and so it is with an outcome
  abbrev pub Fine : {X : Type 0} → (X → Type 0) → Outcome X → Type 0
  Fine Is o = Meets Is (answered o)

  pub fine_by : {X : Type 0} (Is : X → Type 0) (o : Outcome X) → ((x : X) → o ≡ done x → Is x) → (o ≡ refused E.TooNarrow → narrow) → Fine Is o
  fine_by Is (done x) makes may = makes x refl
  fine_by Is (refused E.TooNarrow) makes may = may refl
  fine_by Is (refused E.OutOfMemory) makes may = tt

  fine_then : {X Y : Type 0} (Is : X → Type 0) (Then : Y → Type 0) (o : Outcome X) (next : X → Outcome Y) → Fine Is o → ((x : X) → Is x → Fine Then (next x)) → Fine Then (and_then o next)
  fine_then Is Then (done x) next h more = more x h
  fine_then Is Then (refused E.TooNarrow) next h more = h
  fine_then Is Then (refused E.OutOfMemory) next h more = h

  pub fine_changed : {X Y : Type 0} (Is : X → Type 0) (Then : Y → Type 0) (change : X → Y) (o : Outcome X) → ((x : X) → Is x → Then (change x)) → Fine Is o → Fine Then (changed change o)
  fine_changed Is Then change (done x) more h = more x h
  fine_changed Is Then change (refused E.TooNarrow) more h = h
  fine_changed Is Then change (refused E.OutOfMemory) more h = h

  pub top_meets : {R X : Type 0} (Is : X → Type 0) (o : Option R) (make : R → Result X RunError) → ((r : R) → o ≡ Some r → Meets Is (make r)) → Meets Is (on_top o make)
  top_meets Is None make makes = tt
  top_meets Is (Some r) make makes = makes r refl

  pub some_meet : {X Y : Type 0} (Is : X → Type 0) (ys : List Y) (some none : Result X RunError) → Meets Is some → Meets Is none → Meets Is (if_some_are ys some none)
  some_meet Is [] some none one other = other
  some_meet Is (y ∷ ys) some none one other = one

  pub rest_meets : {X Y : Type 0} (Is : X → Type 0) (Then : Y → Type 0) (rest : X → Result Y RunError) (made : Result X RunError) → Meets Is made →
      ((x : X) → Is x → Meets Then (rest x)) → Meets Then (unless_refused rest made)
  rest_meets Is Then rest (Ok x) h more = more x h
  rest_meets Is Then rest (Err TooNarrow) h more = h
  rest_meets Is Then rest (Err OutOfMemory) h more = h
  rest_meets Is Then rest (Err e) h more = h

-- ---- a script's renderers

module _ {D M : Type 0} (columns : ℕ → Option ℕ) (decoration : Decoration D M) where
  abbrev pub Top : Type 0
  Top = Renderer D M (List M)

  abbrev pub Cells : Type 0
  Cells = List (Top × ℕ)

  abbrev pub Levels : Type 0
  Levels = List (Opened D M (List M))

  abbrev Lines : Type 0
  Lines = List (Line (List M))

  -- of the renderers on the stack, of the cells that wait, and of the levels that are open
  abbrev pub Holds : Type 1
  Holds = List Top → Cells → Levels → Type 0

  abbrev pub renderers : List (Level Top) → List Top
  renderers levels = map (λ (l : Level Top). l.renderer) levels

  abbrev pub At : Holds → Progress D M (List M) → Type 0
  At St p = St (renderers p.stack.levels) p.pending.cells p.opened

  -- what a command asks for, if it opens a level
  abbrev pub Asks : (Opener → ℕ → Type 0) → Command → Type 0
  Asks Asked (sub width) = Asked Sub width
  Asks Asked (cell width span align) = Asked (Cell span align) width
  Asks Asked other = Unit {0}

  -- Unless that may be, neither the lines of a renderer are too narrow nor an act on it.
  pub record IsReady (narrow : Type 0) (r : Top) : Type 0 where
    pub hands : handed_out columns r ≡ refused E.TooNarrow → narrow
    pub acts : (act : Act M) → after_act columns decoration act r ≡ refused E.TooNarrow → narrow

  -- the act takes what the cells hand out, each with its span
  abbrev pub HandsOut : Top × ℕ → Lines → Type 0
  HandsOut c lines = handed_out columns c.0 ≡ done lines

  abbrev pub GivesCell : Top × ℕ → GivenCell (List M) → Type 0
  GivesCell c given = (given.span ≡ c.1) × HandsOut c given.lines

  abbrev pub TakesCells : Cells → Act M → Type 0
  TakesCells cells (row_of_cells collapse given) = AllZip GivesCell cells given
  TakesCells cells (call (append_vert_row lines)) = AllZip HandsOut cells lines
  TakesCells cells other = ⊥

  -- a call that takes no lines of others
  abbrev pub TakesNoLines : Call (List M) → Type 0
  TakesNoLines (append_subrender prefixes lines) = ⊥
  TakesNoLines (append_vert_row cells) = ⊥
  TakesNoLines other = Unit {0}

  -- as all that a command asks for directly
  asks_own : (width : ℕ) (request : Request) → TakesNoLines (call_of width request)
  asks_own width request = grind arith

  -- What holds before a command and after it: how each of its steps leads from the one to the other. `Asked` is what a
  -- level that opens has been asked for with, and `Ends` holds of the renderer of one that ends.
  pub record Walk (narrow : Type 0) (Asked : Opener → ℕ → Type 0) (Ends : Command → Top → Type 0) (Before After : Holds) : Type 0 where
    pub ready : (rs : List Top) (cells : Cells) (levels : Levels) → Before rs cells levels → Each (IsReady narrow) rs × Each (λ (c : Top × ℕ). IsReady narrow c.0) cells
    pub kept : (rs : List Top) (cells : Cells) (levels : Levels) → Before rs cells levels → After rs cells levels
    pub called : (c : Call (List M)) (r s : Top) (rs : List Top) (cells : Cells) (levels : Levels) → TakesNoLines c → after columns decoration c r ≡ done s →
        Before (r ∷ rs) cells levels → Before (s ∷ rs) cells levels
    pub opens : (by : Opener) (width : ℕ) (r : Top) (rs : List Top) (left : Pending D M (List M)) (levels : Levels) → Asked by width →
        Before (r ∷ rs) left.cells levels → After (sub_renderer decoration width r ∷ r ∷ rs) [] (record { by = by; below = left } ∷ levels)
    pub joins : (first others : List ℕ) (lines : Lines) (inside r s : Top) (rs : List Top) (left : Pending D M (List M)) (levels : Levels) →
        Ends (append first others) inside → handed_out columns inside ≡ done lines → after columns decoration (append_subrender (prefixes first others (length lines)) lines) r ≡ done s →
        Before (inside ∷ r ∷ rs) [] (record { by = Sub; below = left } ∷ levels) → After (s ∷ rs) left.cells levels
    pub waits : (span : ℕ) (align : CellAlign) (inside : Top) (rs : List Top) (left : Pending D M (List M)) (levels : Levels) → Ends end_cell inside →
        Before (inside ∷ rs) [] (record { by = Cell span align; below = left } ∷ levels) → After rs (left.cells ++ (inside, span) ∷ []) levels
    pub takes : (act : Act M) (r s : Top) (rs : List Top) (cells : Cells) (levels : Levels) → TakesCells cells act → after_act columns decoration act r ≡ done s →
        Before (r ∷ rs) cells levels → After (s ∷ rs) [] levels

  -- ---- the walk

  same_renderers : (links : Level Top → List ℕ) (levels : List (Level Top)) → renderers levels ≡ renderers (in_first (λ l. record l { open_links = links l }) levels)
  same_renderers links [] = refl
  same_renderers links (l ∷ ls) = refl

  module _ (narrow : Type 0) where
    abbrev AreReady : Cells → Type 0
    AreReady cells = Each (λ (c : Top × ℕ). IsReady narrow c.0) cells

    -- a change of the top
    in_top_fine : (Of : List Top → Type 0) (Is : Stack Top → Type 0) (make : Top → Outcome Top) (s : Stack Top) (levels : List (Level Top)) → Of (renderers levels) →
        ((l : Level Top) (ls : List (Level Top)) → Of (l.renderer ∷ renderers ls) → Fine narrow (λ r. Is (record s { levels = record l { renderer = r } ∷ ls })) (make l.renderer)) →
        Fine narrow Is (in_top make (record s { levels = levels }))
    in_top_fine Of Is make s [] h makes = tt
    in_top_fine Of Is make s (l ∷ ls) h makes = fine_changed narrow _ Is (with_top (record s { levels = l ∷ ls })) (make l.renderer) (λ r is. is) (makes l ls h)

    -- what takes what others give
    taking_fine : {X : Type 0} (Is : Top → Type 0) (Gives : X → Type 0) (given : Outcome X) (act : X → Act M) (r : Top) → IsReady narrow r → Fine narrow Gives given →
        ((x : X) (s : Top) → Gives x → after_act columns decoration (act x) r ≡ done s → Is s) →
        Fine narrow Is (taking (after columns decoration new_line) given (λ x. after_act columns decoration (act x)) r)
    taking_fine Is Gives given act r may gives makes = search (rules, fine_then, fine_by)

    -- what cells that wait give
    hands_fine : (r : Top) → IsReady narrow r → Fine narrow (λ lines. handed_out columns r ≡ done lines) (handed_out columns r)
    hands_fine r may = fine_by narrow _ (handed_out columns r) (λ lines does. does) may.hands

    lines_fine : (cells : Cells) → AreReady cells → Fine narrow (AllZip HandsOut cells) (gathered (handed_out columns) (renderers_of cells))
    lines_fine [] may = tt
    lines_fine (c ∷ cells) may = search (rules, fine_then, hands_fine, fine_changed, lines_fine cells may.1)

    cells_fine : (cells : Cells) (aligns : List CellAlign) → AreReady cells → Fine narrow (AllZip GivesCell cells) (cells_given (λ r. r.width) (handed_out columns) cells aligns)
    cells_fine [] aligns may = tt
    cells_fine (c ∷ cells) aligns may = search (rules, fine_then, fine_changed, hands_fine, cells_fine cells (drop 1 aligns) may.1)

    -- the end of a script
    pub end_meets : (number : ℕ) (p : Place columns decoration) → ((r : Top) → top_of p.stack ≡ Some r → closed_text columns decoration p.stack.links r ≡ refused E.TooNarrow → narrow) →
        Meets narrow (λ text. Unit {0}) (ended columns decoration number p)
    end_meets number p may = search (rules, ℕ, some_meet, top_meets, fine_by)

  module _ (narrow : Type 0) (Asked : Opener → ℕ → Type 0) (Ends : Command → Top → Type 0) (Before After : Holds) (walk : Walk narrow Asked Ends Before After) where
    abbrev Makes : Made columns decoration → Type 0
    Makes made = Meets narrow (At After) made

    changed_meets : (Of To : List Top → Type 0) (q : Place columns decoration) (s : Stack Top) (make : Top → Outcome Top) → ((rs : List Top) → To rs → After rs q.pending.cells q.opened) →
        Of (renderers s.levels) → ((r : Top) (rs : List Top) → Of (r ∷ rs) → Fine narrow (λ t. To (t ∷ rs)) (make r)) → Makes (with_stack columns decoration q (in_top make s))
    changed_meets Of To q s make kept h makes = search (rules, fine_changed, in_top_fine)

    -- a level that opens
    level_meets : (by : Opener) (width : ℕ) (p : Place columns decoration) (levels : List (Level Top)) → Asked by width → Before (renderers levels) (let left = p.pending in left.cells) p.opened →
        Makes (level_opened columns decoration by width (record p { stack = record p.stack { levels = levels } }))
    level_meets by width p [] asked h = tt
    level_meets by width p (l ∷ ls) asked h = walk.opens by width l.renderer (renderers ls) p.pending p.opened asked h

    -- a level that ends, as a block or as a cell
    module _ (number : ℕ) (p : Place columns decoration) (left : Pending D M (List M)) (others : Levels) where
      abbrev IsBelow : Opener → List Top → Cells → Type 0
      IsBelow by rs cells = Before rs cells (record { by = by; below = left } ∷ others)

      -- there, with these levels and cells, it ends
      abbrev Ended : Command → (Opener → Option (Top → Place columns decoration → Made columns decoration)) → Opener → List (Level Top) → Cells → Type 0
      Ended command end by levels cells =
          ((r : Top) → first_renderer levels ≡ Some r → Ends command r) → IsBelow by (renderers levels) cells →
          Makes (ended_as columns decoration number (end by) (record p { stack = record p.stack { levels = levels }; pending = record p.pending { cells = cells } }) left others)

      block_meets : (first next : List ℕ) (by : Opener) (levels : List (Level Top)) (cells : Cells) → Ended (append first next) (joins columns decoration first next) by levels cells
      block_meets first next (Cell span align) levels cells ends h = tt
      block_meets first next Sub levels (c ∷ cells) ends h = tt
      block_meets first next Sub [] [] ends h = tt
      block_meets first next Sub (l ∷ ls) [] ends h =
          let inside = l.renderer in
          let below_it : Stack Top = record p.stack { levels = ls } in
          changed_meets (λ rs. IsBelow Sub (inside ∷ rs) []) (λ rs. After rs left.cells others)
          (record { stack = below_it; pending = left; opened = others }) below_it
          (block_made columns decoration first next inside) (λ rs is. is) h (λ r rs k.
          let may = (walk.ready (inside ∷ r ∷ rs) [] (record { by = Sub; below = left } ∷ others) k).0 in
          taking_fine narrow _ (λ lines. handed_out columns inside ≡ done lines) (handed_out columns inside) (λ lines. call (append_subrender (prefixes first next (length lines)) lines)) r may.1.0
          (hands_fine narrow inside may.0) (λ lines t gives does. walk.joins first next lines inside r t rs left others (ends inside refl) gives does k))

      cell_meets : (by : Opener) (levels : List (Level Top)) (cells : Cells) → Ended end_cell (waits columns decoration) by levels cells
      cell_meets Sub levels cells ends h = tt
      cell_meets (Cell span align) levels (c ∷ cells) ends h = tt
      cell_meets (Cell span align) [] [] ends h = tt
      cell_meets (Cell span align) (l ∷ ls) [] ends h = walk.waits span align l.renderer (renderers ls) left others (ends l.renderer refl) h

    ended_meets : (number : ℕ) (command : Command) (end : Opener → Option (Top → Place columns decoration → Made columns decoration)) (p : Place columns decoration) (opens : Levels) →
        ((r : Top) → top_of p.stack ≡ Some r → Ends command r) →
        ((by : Opener) (left : Pending D M (List M)) (others : Levels) →
        Ended number p left others command end by p.stack.levels p.pending.cells) → Before (renderers p.stack.levels) p.pending.cells opens →
        Makes (level_ended columns decoration number end p opens)
    ended_meets number command end p [] ends does h = tt
    ended_meets number command end p (level ∷ others) ends does h = does level.by level.below others ends h

    module _ (number : ℕ) (p : Place columns decoration) where
      abbrev Here : List Top → Type 0
      Here rs = Before rs (let left = p.pending in left.cells) p.opened

      called_fine : (c : Call (List M)) → TakesNoLines c → (r : Top) (rs : List Top) → Here (r ∷ rs) → Fine narrow (λ s. Here (s ∷ rs)) (after columns decoration c r)
      called_fine c own r rs h =
          let may = (walk.ready (r ∷ rs) p.pending.cells p.opened h).0.0 in
          fine_by narrow (λ s. Here (s ∷ rs)) (after columns decoration c r) (λ s does. walk.called c r s rs p.pending.cells p.opened own does h) (may.acts (call c))

      link_ends : (k : Option ℕ) (r : Top) (rs : List Top) → Here (r ∷ rs) → Fine narrow (λ s. Here (s ∷ rs)) (after_end_with columns decoration k r)
      link_ends None r rs h = called_fine (finish end.link) tt r rs h
      link_ends (Some k) r rs h =
          fine_then narrow (λ s. Here (s ∷ rs)) _ (after columns decoration (finish end.link) r) _
          (called_fine (finish end.link) tt r rs h) (λ s still. called_fine (add_inline_text (link_number k)) tt s rs still)

      -- the cells that wait, as they are taken
      row_meets : {X : Type 0} (Gives : X → Type 0) (given : Outcome X) (act : X → Act M) → (AreReady narrow p.pending.cells → Fine narrow Gives given) →
          ((x : X) → Gives x → TakesCells p.pending.cells (act x)) → At Before p →
          Makes (with_stack columns decoration (record p { pending = without_cells p.pending })
          (in_top (taking (after columns decoration new_line) given (λ x. after_act columns decoration (act x))) p.stack))
      row_meets Gives given act gives takes h = search (rules, changed_meets, taking_fine)

      pub command_meets : (command : Command) → Asks Asked command → (EndsOne command → (r : Top) → top_of p.stack ≡ Some r → Ends command r) → At Before p →
          Makes (after_command columns decoration number command p)
      command_meets (ask request) asked ends h =
          let q : Place columns decoration = record p { pending = record p.pending { begun = counted p.pending.begun request } } in
          cond_both (ends_nothing p.pending.begun request) (Err (NothingToEnd number)) _ Makes (λ none. tt)
          (λ some. changed_meets Here Here q p.stack (request_made columns decoration request)
          (λ rs is. walk.kept rs p.pending.cells p.opened is) h
          (λ r rs k. called_fine (call_of r.width request) (asks_own r.width request) r rs k))
      command_meets (link target) asked ends h =
          let starts = begin (start.link (chars target)) in
          changed_meets Here Here p (with_link (chars target) p.stack) (after columns decoration starts)
          (λ rs is. walk.kept rs p.pending.cells p.opened is) (subst Here (same_renderers _ p.stack.levels) h)
          (λ r rs k. called_fine starts tt r rs k)
      command_meets end_link asked ends h =
          let make = λ (r : Top). after_end_with columns decoration (shown_number r (open_links p.stack)) r in
          let Still = λ (t : Stack Top). Here (renderers t.levels) in
          some_meet narrow (At After) (open_links p.stack) _ (Err (NothingToEnd number))
          (fine_changed narrow Still (At After) (λ t. record p { stack = t }) (changed without_open_link (in_top make p.stack)) (λ t is. walk.kept (renderers t.levels) p.pending.cells p.opened is)
          (fine_changed narrow (λ t. Still (without_open_link t)) Still without_open_link (in_top make p.stack) (λ t is. is)
          (in_top_fine narrow Here (λ t. Still (without_open_link t)) make p.stack p.stack.levels h
          (λ l ls k. link_ends (shown_number l.renderer (open_links p.stack)) l.renderer (renderers ls) k)))) tt
      command_meets (sub width) asked ends h = level_meets Sub width p p.stack.levels asked h
      command_meets (append first next) asked ends h =
          ended_meets number (append first next) (joins columns decoration first next) p p.opened (ends tt)
          (λ by left others. block_meets number p left others first next by p.stack.levels p.pending.cells) h
      command_meets (cell width span align) asked ends h = level_meets (Cell span align) width p p.stack.levels asked h
      command_meets end_cell asked ends h =
          ended_meets number end_cell (waits columns decoration) p p.opened (ends tt)
          (λ by left others. cell_meets number p left others by p.stack.levels p.pending.cells) h
      command_meets (row collapse) asked ends h =
          top_meets narrow (At After) (top_of p.stack) _ (λ top there. cond_both (row_fits top.hanging (spots_of columns p.pending.cells)) _ (Err (RowDoesNotFit number)) Makes
          (λ fits. row_meets (AllZip GivesCell p.pending.cells) (cells_waiting columns decoration p.pending)
          (row_of_cells collapse) (cells_fine narrow p.pending.cells p.pending.aligns) (λ given give. give) h) (λ not. tt))
      command_meets vertical_row asked ends h =
          row_meets (AllZip HandsOut p.pending.cells) (gathered (handed_out columns) (renderers_of p.pending.cells))
          (λ lines. call (append_vert_row lines)) (lines_fine narrow p.pending.cells) (λ lines give. give) h

      -- a line, by what it asks for
      abbrev pub AsksOf : List ℕ → Type 0
      AsksOf line = (command : Command) → IsCommand line command → Asks Asked command × (EndsOne command → (r : Top) → top_of p.stack ≡ Some r → Ends command r)

      pub line_meets : (line : List ℕ) → AsksOf line → At Before p → Makes (after_line columns decoration number line p)
      line_meets [] asks h = walk.kept (renderers p.stack.levels) p.pending.cells p.opened h
      line_meets (b ∷ bs) asks h = read_meets (command_read (b ∷ bs)) (read_command (b ∷ bs))
        where
          read_meets : (read : Option Command) → ((command : Command) → read ≡ Some command → IsCommand (b ∷ bs) command) → Makes (after_read columns decoration number read p)
          read_meets None is = tt
          read_meets (Some command) is = let (asked, ends) = asks command (is command refl) in command_meets command asked ends h

  -- what a line leaves that is done, where anything may be too narrow
  pub line_makes : (Asked : Opener → ℕ → Type 0) (Ends : Command → Top → Type 0) (Before After : Holds)
      (walk : Walk (Unit {0}) Asked Ends Before After) (p next : Place columns decoration) (number : ℕ) (line : List ℕ) →
      AsksOf (Unit {0}) Asked Ends Before After walk number p line → At Before p → after_line columns decoration number line p ≡ Ok next → At After next
  line_makes Asked Ends Before After walk p next number line asks h does = subst (Meets (Unit {0}) (At After)) does (line_meets (Unit {0}) Asked Ends Before After walk number p line asks h)
