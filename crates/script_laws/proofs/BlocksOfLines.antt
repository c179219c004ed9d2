-- Lines lead the renderers of a script by the calls that they name, block by block.
use Rattle.script_laws.proofs.Common.{◌≡◌, ℕ, ◌+◌, if◌then◌else◌, Option, Some, None, Result, Ok, Err, true, inl, inr, List, [], ◌∷◌, ◌++◌, drop, length, chars, refl, ap, sym, ◌∙◌, subst, arith}
use Rattle.script_laws.proofs.Common.{append_assoc, append-nil, AllZip, Outcome, done, CellAlign, Decoration, row_fits, and_then, changed, taking, gathered, run, Renderer, Line, spots_of, GivenCell}
use Rattle.script_laws.proofs.Common.{cells_given, handed_out, sub_renderer, Call, begin, finish, new_line, append_subrender, append_vert_row, after, Act, call, row_of_cells, after_act, RunError}
use Rattle.script_laws.proofs.Common.{NothingToEnd, RowDoesNotFit, Level, Stack, first_renderer, top_of, below, in_first, with_top, in_top, shown_number, open_links, with_link, without_open_link}
use Rattle.script_laws.proofs.Common.{after_end_with, ends_nothing, counted, Command, ask, link, end_link, sub, append, cell, end_cell, vertical_row, IsCommand, command_read, opening_read, Decorator}
use Rattle.script_laws.proofs.Common.{Plain, Trivial, Rich, Opening, Opener, Sub, prefixes, Pending, Opened, Progress, renderers_of, without_cells, with_stack, level_opened, block_made, cells_waiting}
use Rattle.script_laws.proofs.Common.{request_made, row_made, vertical_made, after_command, after_read, after_line, ended, closed_text, started, rendered_on, rendered, lines_of}
use Rattle.tbr_decor.specs.Start as start
use Rattle.tbr_decor.specs.End as end
use Rattle.tbr_decor.specs.Ground as ground
use Rattle.tbr_renderer.proofs.OutcomeParts.{one_done, done_first, done_before, taken}
use Rattle.tbr_stack.specs.Stack.{pushed, new_level}
use Rattle.tbr_stack.specs.Links.{opened, closed, open_in_first}
use Rattle.tbr_stack.proofs.Tops.{top_changed, top_linked}
use Rattle.text_block_renderer.specs.Levels.{number_acts}
use Rattle.text_block_renderer.specs.Rows.{next_align}
use Rattle.text_block_renderer.specs.Renderer.{new_renderer}
use Rattle.text_block_renderer.proofs.LevelsOfStacks.{end_leads}
use Rattle.tbr_commands.specs.Request as request
use Rattle.tbr_commands.specs.Request.{Request, call_of}
use Rattle.tbr_commands.specs.Command.{row}
use Rattle.tbr_commands.specs.Syntax.{IsRequest}
use Rattle.tbr_commands.specs.declared.request.layout.Layout.TheVariants.{StartBlock, EndBlock, StartTable, NewLine, HardNewLine, EmptyLine}
use Rattle.tbr_commands.specs.declared.request.beginning.Beginning.TheVariants as beginning
use Rattle.tbr_commands.specs.declared.request.kind.Kind.TheVariants as kind
use Rattle.tbr_commands.specs.Opening.{IsOpening}
use Rattle.tbr_commands.proofs.Reading.{command_is_read, read_opening}
use Rattle.tbr_program.specs.declared.opened.Opener.TheVariants.{Cell}
use Rattle.tbr_program.specs.Progress.{nothing_pending, with_cell}
use Rattle.tbr_program.specs.Decorations.{plain_decoration, trivial_decoration, rich_decoration}
use Rattle.tbr_program.proofs.CommandParts.{one_ok, unless, if_so, some_are, of_top, stack_done, opens, block_ends, cell_ends}
use Rattle.tbr_runner.specs.Scripts.{shown_under, shown_by, shown_from}
use Rattle.script_laws.specs.Named.{NamesCall}
use Rattle.script_laws.specs.Blocks.{Inside, entered, with_waiting, GiveCells, link_end_acts, Lead, no_line, empty_line, named, link_begins, link_ends, block, cell_waits, row_comes}
use Rattle.script_laws.specs.Blocks.{vertical_row_comes, GiveText, GiveUnder, Gives}
use Rattle.script_laws.proofs.RenderedLines.{line_parts, line_asks}
use Rattle.script_laws.proofs.LedRenderers.{at_end, closed_is}

-- ---- the call that a line names

pub names : (T : Type 0) (width : ℕ) (line : List ℕ) (asked : Request) → IsRequest line asked → NamesCall {T = T} width line (call_of width asked)
names T width line (request.layout StartBlock) (inl is) = is
names T width line (request.layout EndBlock) (inl is) = is
names T width line (request.layout StartTable) (inl is) = is
names T width line (request.layout NewLine) (inl is) = is
names T width line (request.layout HardNewLine) (inl is) = is
names T width line (request.layout EmptyLine) (inl is) = is
names T width line (request.begin (beginning.Mode mode)) (inl is) = is
names T width line (request.begin beginning.Preformat) (inl is) = is
names T width line (request.begin beginning.Emphasis) (inl is) = is
names T width line (request.begin beginning.Strong) (inl is) = is
names T width line (request.begin beginning.Strikeout) (inl is) = is
names T width line (request.begin beginning.Code) (inl is) = is
names T width line (request.begin beginning.Superscript) (inl is) = is
names T width line (request.end kind.Mode) (inl is) = is
names T width line (request.end kind.Preformat) (inl is) = is
names T width line (request.end kind.Emphasis) (inl is) = is
names T width line (request.end kind.Strong) (inl is) = is
names T width line (request.end kind.Strikeout) (inl is) = is
names T width line (request.end kind.Code) (inl is) = is
names T width line (request.end kind.Superscript) (inl is) = is
names T width line (request.end kind.Colour) (inl is) = is
names T width line (request.end kind.Background) (inl is) = is
names T width line (request.text t) (inr (argument, are, is)) = (argument, are, (t, is, refl))
names T width line (request.fragment name) (inr is) = is
names T width line (request.image source title) (inr (argument, are, is)) = (argument, are, (source, title, is, refl, refl))
names T width line (request.colour ground.text c) (inr is) = is
names T width line (request.colour ground.background c) (inr is) = is
names T width line (request.border None) (inl is) = inl (is, refl)
names T width line (request.border (Some columns)) (inr is) = inr is
names T width line other (inl is) = absurd is
names T width line other (inr is) = absurd is

module _ {D M : Type 0} (columns : ℕ → Option ℕ) (decoration : Decoration D M) where
  abbrev Top : Type 0
  Top = Renderer D M (List M)

  abbrev Levels : Type 0
  Levels = List (Level Top)

  abbrev Opens : Type 0
  Opens = List (Opened D M (List M))

  abbrev Leads : List (List ℕ) → Inside D M → Inside D M → Type 0
  Leads = Lead columns decoration

  -- ---- where the top of a script is

  abbrev inside : Level Top → Pending D M (List M) → List (List ℕ) → Inside D M
  inside l pending links = record { renderer = l.renderer; cells = pending.cells; aligns = pending.aligns; opened = l.open_links; targets = links }

  -- a level below it: what opened the one above, and what is there
  record Frame : Type 0 where
    by : Opener
    level : Level Top
    pending : Pending D M (List M)

  abbrev frames : Opens → Levels → List Frame
  frames [] levels = []
  frames (o ∷ os) [] = []
  frames (o ∷ os) (l ∷ ls) = record { by = o.by; level = l; pending = o.below } ∷ frames os ls

  -- a line ends the block or the cell inside, which leaves that of the level below
  abbrev Ends : Opener → List ℕ → Inside D M → Level Top → Pending D M (List M) → Inside D M → Type 0
  Ends Sub line u l pending w =
      (first others : List ℕ) × (own : List (Line (List M))) × (s : Top) × IsCommand line (append first others) × (u.cells ≡ []) × (handed_out columns u.renderer ≡ done own)
      × (after columns decoration (append_subrender (prefixes first others (length own)) own) l.renderer ≡ done s) × (w ≡ record (inside l pending u.targets) { renderer = s })
  Ends (Cell span align) line u l pending w = IsCommand line end_cell × (u.cells ≡ []) × (w ≡ with_waiting (inside l pending u.targets) u.renderer span align)

  -- Lines lead from the innermost level to the end of each, one after another, and then to where all end.
  abbrev Unwind : List Frame → List (List ℕ) → Inside D M → Inside D M → Type 0
  Unwind [] lines w v = Leads lines w v
  Unwind (f ∷ fs) lines w v =
      (inner : List (List ℕ)) × (last : List ℕ) × (others : List (List ℕ)) × (u next : Inside D M) ×
      (lines ≡ inner ++ last ∷ others) × Leads inner w u × Ends f.by last u f.level f.pending next × Unwind fs
      others next v

  -- what comes in front of lines of the innermost level
  in_front : (fs : List Frame) (front : List (List ℕ) → List (List ℕ)) (w x v : Inside D M) (lines : List (List ℕ)) → ((one other : List (List ℕ)) → front (one ++ other) ≡ front one ++ other) →
      ((ls : List (List ℕ)) (u : Inside D M) → Leads ls x u → Leads (front ls) w u) → Unwind fs lines x v → Unwind fs (front lines) w v
  in_front [] front w x v lines along more h = more lines v h
  in_front (f ∷ fs) front w x v lines along more (inner, last, others, u, next, are, leads, end, rest) =
      (front inner, last, others, u, next, ap front are ∙ along inner (last ∷ others), more inner u leads, end, rest)

  -- ---- what is given

  end_runs : (k : Option ℕ) (r s : Top) → after_end_with columns decoration k r ≡ done s → run (after_act columns decoration) (call (finish end.link) ∷ number_acts k) r ≡ done s
  end_runs k r s h = subst (λ acts. run (after_act columns decoration) (call (finish end.link) ∷ acts) r ≡ done s) (append-nil (number_acts k)) (end_leads columns decoration k r s s [] h refl)

  give_cells : (cells : List (Top × ℕ)) (aligns : List CellAlign) (given : List (GivenCell (List M))) →
      cells_given (λ r. r.width) (handed_out columns) cells aligns ≡ done given →
      GiveCells columns decoration cells aligns given
  give_cells [] aligns given h = one_done [] given h
  give_cells (c ∷ cells) aligns given h =
      let after_it = cells_given (λ (r : Top). r.width) (handed_out columns) cells (drop 1 aligns) in
      let make : List (Line (List M)) → GivenCell (List M) = λ ls. record { width = (let r = c.0 in r.width); span = c.1; align = next_align aligns; lines = ls } in
      let (one, first, rest) = done_first (changed make (handed_out columns c.0)) (λ x. changed (λ xs. x ∷ xs) after_it) given h in
      let (lines, gives, is) = done_before make (handed_out columns c.0) one first in
      let (others, more, are) = done_before (λ xs. one ∷ xs) after_it given rest in
      (lines, others, gives, are ∙ ap (λ x. x ∷ others) is, give_cells cells (drop 1 aligns) others more)

  give_lines : (cells : List (Top × ℕ)) (given : List (List (Line (List M)))) →
      gathered (handed_out columns) (renderers_of cells) ≡ done given →
      AllZip (λ c own. handed_out columns c.0 ≡ done own) cells given
  give_lines [] given h = subst (AllZip (λ (c : Top × ℕ) own. handed_out columns c.0 ≡ done own) []) (sym (one_done [] given h)) tt
  give_lines (c ∷ cells) given h =
      let (lines, gives, rest) = done_first (handed_out columns c.0) (λ x. changed (λ xs. x ∷ xs) (gathered (handed_out columns) (renderers_of cells))) given h in
      let (others, more, are) = done_before (λ xs. lines ∷ xs) (gathered (handed_out columns) (renderers_of cells)) given rest in
      subst (AllZip (λ (d : Top × ℕ) own. handed_out columns d.0 ≡ done own) (c ∷ cells)) (sym are) (gives, give_lines cells others more)

  -- what lines give from a place on
  abbrev AtEnd : Inside D M → List ℕ → Type 0
  AtEnd v text = (v.cells ≡ []) × (closed_text columns decoration v.targets v.renderer ≡ done text)

  abbrev Unwound : List (List ℕ) → List ℕ → Levels → List (List ℕ) → Pending D M (List M) → Opens → Type 0
  Unwound lines text [] links pending opens = ⊥
  Unwound lines text (l ∷ ls) links pending opens = (v : Inside D M) × Unwind (frames opens ls) lines (inside l pending links) v × AtEnd v text

  abbrev UnwoundFrom : List (List ℕ) → List ℕ → Progress D M (List M) → Type 0
  UnwoundFrom lines text p = Unwound lines text p.stack.levels p.stack.links p.pending p.opened

  -- ---- one line

  module _ (line : List ℕ) (lines : List (List ℕ)) (text : List ℕ) where
    -- something is done in the top
    in_the_top : (change : Level Top → Level Top) (levels : Levels) (links more : List (List ℕ)) (pending left : Pending D M (List M)) (opens : Opens) →
        ((l : Level Top) (ls : Levels) → levels ≡ l ∷ ls → (ms : List (List ℕ)) (u : Inside D M) → Leads ms (inside (change l) left more) u → Leads (line ∷ ms) (inside l pending links) u) →
        Unwound lines text (in_first change levels) more left opens → Unwound (line ∷ lines) text levels links pending opens
    in_the_top change [] links more pending left opens leads h = absurd h
    in_the_top change (l ∷ ls) links more pending left opens leads (v, way, end) =
        (v, in_front (frames opens ls) (λ ms. line ∷ ms) (inside l pending links) (inside (change l) left more) v lines (λ one other. refl) (leads l ls refl) way, end)

    top_is : (levels : Levels) (l : Level Top) (ls : Levels) (r : Top) → first_renderer levels ≡ Some r → levels ≡ l ∷ ls → r ≡ l.renderer
    top_is levels l ls r top are = let same : Some r ≡ Some l.renderer = sym top ∙ ap first_renderer are in cc

    -- a level opens
    opens_one : (by : Opener) (width : ℕ) (r : Top) (levels : Levels) (links : List (List ℕ)) (pending : Pending D M (List M)) (opens : Opens) → first_renderer levels ≡ Some r →
        ((l : Level Top) (ms inner : List (List ℕ)) (last : List ℕ) (u next v : Inside D M) →
        Leads inner (entered (sub_renderer decoration width l.renderer) links) u → Ends by last u l pending next → Leads ms next v →
        Leads (line ∷ inner ++ last ∷ ms) (inside l pending links) v) →
        Unwound lines text (new_level (sub_renderer decoration width r) ∷ levels) links nothing_pending
        (record { by = by; below = pending } ∷ opens) → Unwound (line ∷ lines) text levels links pending opens
    opens_one by width r [] links pending opens top leads h = absurd (let no : ⊥ = cc in no)
    opens_one by width r (l ∷ ls) links pending opens top leads (v, (inner, last, others, u, next, are, own, ends, rest), end) =
        let same = top_is (l ∷ ls) l ls r top refl in
        let own_leads = subst (λ (x : Top). Leads inner (entered (sub_renderer decoration width x) links) u) same own in
        let way =
        in_front (frames opens ls) (λ ms. line ∷ inner ++ last ∷ ms) (inside l pending links) next v others
        (λ one other. ap (λ ms. line ∷ ms) (sym (append_assoc inner (last ∷ one) other)))
        (λ ms x k. leads l ms inner last u next x own_leads ends k) rest in
        (v, subst (λ ms. Unwind (frames opens ls) (line ∷ ms) (inside l pending links) v) (sym are) way, end)

    -- and ends
    ends_one : (by : Opener) (l m below_it : Level Top) (ls : Levels) (links : List (List ℕ))
        (pending left after_it : Pending D M (List M)) (opens : Opens) →
        Ends by line (inside l pending links) m left (inside below_it after_it links) →
        Unwound lines text (below_it ∷ ls) links after_it opens → Unwound (line ∷ lines) text (l ∷ m ∷ ls) links pending (record { by = by; below = left } ∷ opens)
    ends_one by l m below_it ls links pending left after_it opens ends (v, way, end) =
        (v, ([], line, lines, inside l pending links, inside below_it after_it links, refl, no_line (inside l pending links), ends, way), end)

    block_ends_in : (levels : Levels) (inner r q : Top) (first others : List ℕ) (own : List (Line (List M)))
        (links : List (List ℕ)) (pending left : Pending D M (List M)) (opens : Opens) →
        IsCommand line (append first others) → pending.cells ≡ [] →
        first_renderer levels ≡ Some inner → first_renderer (drop 1 levels) ≡ Some r →
        handed_out columns inner ≡ done own →
        after columns decoration (append_subrender (prefixes first others (length own)) own) r ≡ done q →
        Unwound lines text (in_first (λ l. record l { renderer = q }) (drop 1 levels)) links left opens → Unwound (line ∷ lines) text levels links pending (record { by = Sub; below = left } ∷ opens)
    block_ends_in [] inner r q first others own links pending left opens is none top next gives comes h = absurd h
    block_ends_in (l ∷ []) inner r q first others own links pending left opens is none top next gives comes h = absurd h
    block_ends_in (l ∷ m ∷ ls) inner r q first others own links pending left opens is none top next gives comes h =
        let inner_is = top_is (l ∷ m ∷ ls) l (m ∷ ls) inner top refl in
        let below_is = top_is (m ∷ ls) m ls r next refl in
        ends_one Sub l m (record m { renderer = q }) ls links pending left left opens (
          first,
          others,
          own,
          q,
          is,
          none,
          subst (λ (x : Top). handed_out columns x ≡ done own) inner_is gives,
          subst (λ (x : Top). after columns decoration (append_subrender (prefixes first others (length own)) own) x ≡ done q) below_is comes,
          refl,
        )
        h

    cell_ends_in : (levels : Levels) (inner : Top) (span : ℕ) (align : CellAlign) (links : List (List ℕ))
        (pending left : Pending D M (List M)) (opens : Opens) → IsCommand line end_cell → pending.cells ≡ [] →
        first_renderer levels ≡ Some inner →
        Unwound lines text (drop 1 levels) links (with_cell left inner span align) opens → Unwound (line ∷ lines) text levels links pending (record { by = Cell span align; below = left } ∷ opens)
    cell_ends_in [] inner span align links pending left opens is none top h = absurd h
    cell_ends_in (l ∷ []) inner span align links pending left opens is none top h = absurd h
    cell_ends_in (l ∷ m ∷ ls) inner span align links pending left opens is none top h =
        ends_one (Cell span align) l m m ls links pending left (with_cell left inner span align) opens
        (is, none, ap (λ (x : Top). inside m (with_cell left x span align) links) (top_is (l ∷ m ∷ ls) l (m ∷ ls) inner top refl)) h

    -- ---- by its command

    two_changes : (f g : Level Top → Level Top) (levels : Levels) → in_first f (in_first g levels) ≡ in_first (λ l. f (g l)) levels
    two_changes f g [] = refl
    two_changes f g (l ∷ ls) = refl

    -- cells that wait are taken
    takes_cells : {X : Type 0} (given : Outcome X) (take : X → Top → Outcome Top) (p next : Progress D M (List M)) →
        with_stack columns decoration (record p { pending = without_cells p.pending })
        (in_top (taking (after columns decoration new_line) given take) p.stack) ≡ Ok next →
        ((x : X) (w u : Inside D M) (s : Top) (ms : List (List ℕ)) → given ≡ done x → w.cells ≡ p.pending.cells →
        w.aligns ≡ p.pending.aligns → take x w.renderer ≡ done s → Leads ms
        (record w { renderer = s; cells = []; aligns = [] }) u → Leads (line ∷ ms) w u) →
        UnwoundFrom lines text next → UnwoundFrom (line ∷ lines) text p
    takes_cells given take p next does leads h =
        let made = taking (after columns decoration new_line) given take in
        let left = without_cells p.pending in
        let (s, makes, same) = stack_done columns decoration (record p { pending = left }) (in_top made p.stack) next does in
        let (r, q, top, calls, put) = top_changed made p.stack s makes in
        let (m, x, flushes, gives, takes) = taken (after columns decoration new_line) given take r q calls in
        in_the_top (λ l. record l { renderer = q }) p.stack.levels p.stack.links p.stack.links p.pending left p.opened
        (λ l ls are ms u k. leads x (inside l p.pending p.stack.links) u q ms gives refl refl (subst (λ (y : Top). take x y ≡ done q) (top_is p.stack.levels l ls r top are) takes) k)
        (subst (UnwoundFrom lines text) (same ∙ ap (λ (t : Stack Top). record p { stack = t; pending = left }) put) h)

    step : (number : ℕ) (command : Command) (p next : Progress D M (List M)) → IsCommand line command →
        after_command columns decoration number command p ≡ Ok next → UnwoundFrom lines text next →
        UnwoundFrom (line ∷ lines) text p
    step number (ask asked) p next is does h =
        let (some, made) = unless (ends_nothing p.pending.begun asked) (NothingToEnd number) _ (Ok next) (λ no. no) tt does in
        let left = record p.pending { begun = counted p.pending.begun asked } in
        let makes_it = request_made columns decoration asked in
        let (s, makes, same) = stack_done columns decoration (record p { pending = left }) (in_top makes_it p.stack) next made in
        let (r, q, top, calls, put) = top_changed makes_it p.stack s makes in
        in_the_top (λ l. record l { renderer = q }) p.stack.levels p.stack.links p.stack.links p.pending left p.opened
        (λ l ls are ms u k. let x = l.renderer in
        named line ms (inside l p.pending p.stack.links) u (call_of x.width asked) q
        (names (List M) x.width line asked is.writes) (subst (λ (y : Top). makes_it y ≡ done q) (top_is p.stack.levels l ls r top are) calls) k)
        (subst (UnwoundFrom lines text) (same ∙ ap (λ (t : Stack Top). record p { stack = t; pending = left }) put) h)
    step number (link target) p next is does h =
        let with_it = with_link (chars target) p.stack in
        let opening = after columns decoration (begin (start.link (chars target))) in
        let more = p.stack.links ++ chars target ∷ [] in
        let (s, makes, same) = stack_done columns decoration p _ next does in
        let (r, q, top, calls, put) = top_changed opening with_it s makes in
        let here = subst (UnwoundFrom lines text) (same ∙ ap (λ (t : Stack Top). record p { stack = t }) put) h in
        in_the_top (λ l. record l { renderer = q; open_links = (length p.stack.links + 1) ∷ l.open_links }) p.stack.levels p.stack.links more p.pending p.pending p.opened
        (λ l ls are ms u k. link_begins line ms (inside l p.pending p.stack.links) u target q is
        (subst (λ (y : Top). opening y ≡ done q)
        (top_is p.stack.levels l ls r (sym (top_linked (chars target) p.stack) ∙ top) are) calls) k)
        (subst (λ ls. Unwound lines text ls more p.pending p.opened) (two_changes (λ l. record l { renderer = q }) (opened (length p.stack.links + 1)) p.stack.levels) here)
    step number end_link p next is does h =
        let makes_it = λ (r : Top). after_end_with columns decoration (shown_number r (open_links p.stack)) r in
        let (s, makes, same) = stack_done columns decoration p _ next (some_are (open_links p.stack) (NothingToEnd number) _ (Ok next) (λ no. no) tt does) in
        let (t, changes, closes) = done_before without_open_link (in_top makes_it p.stack) s makes in
        let (r, q, top, calls, put) = top_changed makes_it p.stack t changes in
        let here = subst (UnwoundFrom lines text) (same ∙ ap (λ (x : Stack Top). record p { stack = x }) (closes ∙ ap without_open_link put)) h in
        in_the_top (λ l. record l { renderer = q; open_links = drop 1 l.open_links }) p.stack.levels p.stack.links p.stack.links p.pending p.pending p.opened
        (λ l ls are ms u k.
        let shown = λ (os : List ℕ). shown_number l.renderer os in
        let ended_so = subst (λ (y : Top). makes_it y ≡ done q) (top_is p.stack.levels l ls r top are) calls in
        let own = subst (λ os. after_end_with columns decoration (shown os) l.renderer ≡ done q) (ap open_in_first are) ended_so in
        link_ends line ms (inside l p.pending p.stack.links) u q is (end_runs (shown l.open_links) l.renderer q own) k)
        (subst (λ ls. Unwound lines text ls p.stack.links p.pending p.opened) (two_changes closed (λ l. record l { renderer = q }) p.stack.levels) here)
    step number (sub width) p next is does h =
        let (r, top, same) = opens columns decoration Sub width p next does in
        opens_one Sub width r p.stack.levels p.stack.links p.pending p.opened top
        (λ l ms inner last u x v own ended_so k.
        let (first, others, given, s, asks, none, gives, comes, same_place) = ended_so in
        block line inner last ms (inside l p.pending p.stack.links) u v width first others given s is own asks none gives comes (subst (λ y. Leads ms y v) same_place k))
        (subst (UnwoundFrom lines text) same h)
    step number (append first others) p next is does h =
        let ends = block_ends columns decoration number p p.opened (Ok next) tt first others does in
        let made = block_made columns decoration first others ends.inside in
        let there : Progress D M (List M) = record { stack = below p.stack; pending = ends.pending; opened = ends.others } in
        let (s, makes, same) = stack_done columns decoration there (in_top made (below p.stack)) next ends.makes in
        let (r, q, top, calls, put) = top_changed made (below p.stack) s makes in
        let (m, own, flushes, gives, comes) =
        taken (after columns decoration new_line) (handed_out columns ends.inside)
        (λ given. after columns decoration (append_subrender (prefixes first others (length given)) given)) r q
        calls in
        subst (Unwound (line ∷ lines) text p.stack.levels p.stack.links p.pending) (sym ends.opened)
        (block_ends_in p.stack.levels ends.inside r q first others own p.stack.links p.pending ends.pending ends.others is ends.none_wait ends.top top gives comes
        (subst (UnwoundFrom lines text) (same ∙ ap (λ (t : Stack Top). record there { stack = t }) put) h))
    step number (cell width span align) p next is does h =
        let (r, top, same) = opens columns decoration (Cell span align) width p next does in
        opens_one (Cell span align) width r p.stack.levels p.stack.links p.pending p.opened top
        (λ l ms inner last u x v own ended_so k.
        let (asks, none, same_place) = ended_so in
        cell_waits line inner last ms (inside l p.pending p.stack.links) u v width span align is own asks none (subst (λ y. Leads ms y v) same_place k))
        (subst (UnwoundFrom lines text) same h)
    step number end_cell p next is does h =
        let (span, align, ends) = cell_ends columns decoration number p p.opened (Ok next) tt does in
        subst (Unwound (line ∷ lines) text p.stack.levels p.stack.links p.pending) (sym ends.opened)
        (cell_ends_in p.stack.levels ends.inside span align p.stack.links p.pending ends.pending ends.others is ends.none_wait ends.top (subst (UnwoundFrom lines text) (one_ok _ next ends.makes) h))
    step number (row collapse) p next is does h =
        let (top, there, made) = of_top (top_of p.stack) _ (Ok next) tt does in
        let (fits, lays) = if_so (row_fits top.hanging (spots_of columns p.pending.cells)) (RowDoesNotFit number) _ (Ok next) (λ no. no) tt made in
        takes_cells (cells_waiting columns decoration p.pending) (λ given. after_act columns decoration (row_of_cells collapse given)) p next lays
        (λ given w u s ms gives cells aligns takes k. row_comes line ms w u collapse given s is
        (subst (λ xs. GiveCells columns decoration w.cells xs given) (sym aligns)
        (subst (λ cs. GiveCells columns decoration cs p.pending.aligns given) (sym cells)
        (give_cells p.pending.cells p.pending.aligns given gives))) takes k) h
    step number vertical_row p next is does h =
        takes_cells (gathered (handed_out columns) (renderers_of p.pending.cells)) (λ given. after columns decoration (append_vert_row given)) p next does
        (λ given w u s ms gives cells aligns takes k. vertical_row_comes line ms w u given s is
        (subst (λ cs. AllZip (λ c own. handed_out columns c.0 ≡ done own) cs given) (sym cells)
        (give_lines p.pending.cells given gives)) takes k) h

  -- ---- all lines

  skipped : (lines : List (List ℕ)) (text : List ℕ) (levels : Levels) (links : List (List ℕ))
      (pending : Pending D M (List M)) (opens : Opens) → Unwound lines text levels links pending opens →
      Unwound ([] ∷ lines) text levels links pending opens
  skipped lines text [] links pending opens h = absurd h
  skipped lines text (l ∷ ls) links pending opens (v, way, end) =
      let w = inside l pending links in (v, in_front (frames opens ls) (λ ms. [] ∷ ms) w w v lines (λ one other. refl) (λ ms u k. empty_line ms w u k) way, end)

  at_the_end : (text : List ℕ) (r : Top) (levels : Levels) (links : List (List ℕ)) (pending : Pending D M (List M)) →
      first_renderer levels ≡ Some r → pending.cells ≡ [] → closed_text columns decoration links r ≡ done text →
      Unwound [] text levels links pending []
  at_the_end text r [] links pending top none is = absurd (let no : ⊥ = cc in no)
  at_the_end text r (l ∷ ls) links pending top none is =
      let w = inside l pending links in (w, no_line w, (none, subst (λ (x : Top). closed_text columns decoration links x ≡ done text) (top_is [] [] text (l ∷ ls) l ls r top refl) is))

  unwinds : (number : ℕ) (lines : List (List ℕ)) (text : List ℕ) (p : Progress D M (List M)) → rendered_on columns decoration number lines p ≡ Ok text → UnwoundFrom lines text p
  unwinds number [] text p h =
      let (r, top, is, none_open, none_wait) = at_end columns decoration number p text h in
      subst (Unwound [] text p.stack.levels p.stack.links p.pending) (sym none_open) (at_the_end text r p.stack.levels p.stack.links p.pending top none_wait is)
  unwinds number ([] ∷ lines) text p h = skipped lines text p.stack.levels p.stack.links p.pending p.opened (unwinds (number + 1) lines text p h)
  unwinds number ((b ∷ bs) ∷ lines) text p h =
      let (next, does, others) = line_parts columns decoration number (after_line columns decoration number (b ∷ bs) p) lines text h in
      let (command, is) = line_asks columns decoration number p next (b ∷ bs) (command_read (b ∷ bs)) refl does in
      step (b ∷ bs) lines text number command p next is
      (sym (ap (λ read. after_read columns decoration number read p) (command_is_read (b ∷ bs) command is)) ∙ does)
      (unwinds (number + 1) lines text next others)

  pub lines_give : (opening : Opening) (decorator : D) (number : ℕ) (lines : List (List ℕ)) (text : List ℕ) → rendered_on columns decoration number lines (started opening decorator) ≡ Ok text →
      GiveText columns decoration (new_renderer opening.width opening.options decorator) lines text
  lines_give opening decorator number lines text h =
      let (last, lead, closing) = unwinds number lines text (started opening decorator) h in
      let (whole, ends, is) = closed_is columns decoration last.targets last.renderer text closing.1 in
      record { last = last; lead = lead; none_waits = closing.0; whole = whole; ends = ends; is = is }

-- ---- a whole script

module _ (columns : ℕ → Option ℕ) where
  under : (decorator : Decorator) (opening : Opening) (number : ℕ) (lines : List (List ℕ)) (text : List ℕ) →
      shown_under true columns decorator opening number lines ≡ Ok text → GiveUnder columns decorator opening lines text
  under Plain opening number lines text h = lines_give columns plain_decoration opening (record {}) number lines text h
  under Trivial opening number lines text h = lines_give columns trivial_decoration opening (record {}) number lines text h
  under Rich opening number lines text h = lines_give columns rich_decoration opening (record {}) number lines text h

  from : (number : ℕ) (lines : List (List ℕ)) (text : List ℕ) → shown_from true columns number lines ≡ Ok text → Gives columns lines text
  from number [] text h = cc
  from number ([] ∷ lines) text h = from (number + 1) lines text h
  from number ((b ∷ bs) ∷ lines) text h = go (opening_read (b ∷ bs)) (read_opening (b ∷ bs)) h
    where
      go : (read : Option Opening) → ((opening : Opening) → read ≡ Some opening → IsOpening (b ∷ bs) opening) →
          shown_by true columns read number lines ≡ Ok text → Gives columns ((b ∷ bs) ∷ lines) text
      go None is h = cc
      go (Some opening) is h = (opening, is opening refl, under opening.decorator opening (number + 1) lines text h)

  pub script_gives : (script text : List ℕ) → rendered columns script ≡ Ok text → Gives columns (lines_of script) text
  script_gives script text h = from 1 (lines_of script) text h
