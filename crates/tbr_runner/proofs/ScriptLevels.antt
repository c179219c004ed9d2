-- The levels of a script: what a line keeps of their renderers, of what opened them, and of cells that wait.
use Rattle.tbr_runner.proofs.Common.{◌≡◌, ◌<◌, ◌+◌, ℕ, Option, Some, Ok, List, [], ◌∷◌, length, sym, ◌∙◌, subst, arith, Each, length-map, done, CellAlign, Decoration, Renderer, sub_renderer}
use Rattle.tbr_runner.proofs.Common.{Call, append_subrender, after, Act, call, after_act, Level, first_renderer, top_of, Command, sub, cell, IsCommand, Opener, prefixes, Opened, Progress}
use Rattle.tbr_runner.proofs.Common.{after_command, after_line, EndsOne, AllAre, CellsAre}
use Rattle.tbr_model.proofs.lists.Each.{each_append, each_map, each_unmap}
use Rattle.tbr_rows.proofs.Among.{each_gives}
use Rattle.tbr_program.specs.declared.opened.Opener.TheVariants.{Cell}
use Rattle.tbr_runner.proofs.Walks.{Meets, Cells, Levels, Holds, At, Asks, IsReady, TakesCells, Walk, command_meets, line_meets, line_makes}

pub each_any : {X : Type 0} (P : X → Type 0) → ((x : X) → P x) → (xs : List X) → Each P xs
each_any P any [] = tt
each_any P any (x ∷ xs) = (any x, each_any P any xs)

-- any command may open a level
abbrev pub Any : Opener → Type 0
Any by = Unit {0}

-- widths are at least 1
abbrev pub Sized : Opener → ℕ → Type 0
Sized by width = 0 < width

module _ {D M : Type 0} (columns : ℕ → Option ℕ) (decoration : Decoration D M) where
  abbrev Top : Type 0
  Top = Renderer D M (List M)

  pub sized : (line : List ℕ) (command : Command) → IsCommand line command → Asks columns decoration Sized command
  sized line (sub width) is = is.writes.2.2
  sized line (cell width span align) is = is.writes.2.4.2
  sized line other is = tt

  pub first_led : (Is : Top → Type 0) (ls : List (Level Top)) (r : Top) → first_renderer ls ≡ Some r → Each (λ (l : Level Top). Is l.renderer) ls → Is r
  first_led Is [] r e h = cc
  first_led Is (l ∷ ls) r e h = subst Is (let same : l.renderer ≡ r = cc in same) h.0

  -- anything may be too narrow
  pub any_ready : (r : Top) → IsReady columns decoration (Unit {0}) r
  any_ready r = record { hands = λ e. tt; acts = λ act e. tt }

  -- ---- what calls and rows keep, and blocks inside have

  -- Such renderers are on the stack, such cells wait, also below levels, and such commands opened these.
  pub record Fits (Is : Top → Type 0) (By : Opener → Type 0) (Waits : Top × ℕ → Type 0) (rs : List Top) (cells : Cells columns decoration) (levels : Levels columns decoration) : Type 0 where
    pub on_stack : Each Is rs
    pub waiting : Each Waits cells
    pub opened : Each (λ (o : Opened D M (List M)). By o.by) levels
    pub below : Each (λ (o : Opened D M (List M)). Each Waits (let w = o.below in w.cells)) levels

  pub fits_walk : (narrow : Type 0) (Asked : Opener → ℕ → Type 0) (Ends Is : Top → Type 0) (By : Opener → Type 0) (Waits : Top × ℕ → Type 0) →
      ((r : Top) → Is r → IsReady columns decoration narrow r) →
      ((c : Top × ℕ) → Waits c → IsReady columns decoration narrow c.0) →
      ((c : Call (List M)) (r s : Top) → after columns decoration c r ≡ done s → Is r → Is s) →
      ((act : Act M) (r s : Top) (cells : Cells columns decoration) → TakesCells columns decoration cells act → Each Waits cells → after_act columns decoration act r ≡ done s → Is r → Is s) →
      ((by : Opener) (width : ℕ) (r : Top) → Asked by width → Is r → Is (sub_renderer decoration width r) × By by) →
      ((span : ℕ) (align : CellAlign) (r : Top) → Ends r → Is r → By (Cell span align) → Waits (r, span)) →
      Walk columns decoration narrow Asked (λ command. Ends) (Fits Is By Waits) (Fits Is By Waits)
  fits_walk narrow Asked Ends Is By Waits ready waiting called takes inside ended = record {
    ready = λ rs cells levels h. (each_gives Is _ ready rs h.on_stack, each_gives Waits _ waiting cells h.waiting);
    kept = λ rs cells levels h. h;
    called = λ c r s rs cells levels own does h. record { on_stack = (called c r s does h.on_stack.0, h.on_stack.1); waiting = h.waiting; opened = h.opened; below = h.below };
    opens = λ by width r rs left levels asked h. let (is, such) = inside by width r asked h.on_stack.0 in
        record { on_stack = (is, h.on_stack); waiting = tt; opened = (such, h.opened); below = (h.waiting, h.below) };
    joins = λ first next lines r t s rs left levels ends gives does h.
        record {
          on_stack = (
            called (append_subrender (prefixes first next (length lines)) lines) t s does
                h.on_stack.1.0,
            h.on_stack.1.1,
          );
          waiting = h.below.0;
          opened = h.opened.1;
          below = h.below.1;
        };
    waits = λ span align r rs left levels ends h.
        record {
          on_stack = h.on_stack.1;
          waiting =
              each_append Waits left.cells ((r, span) ∷ []) h.below.0
              (ended span align r ends h.on_stack.0 h.opened.0, tt);
          opened = h.opened.1;
          below = h.below.1;
        };
    takes = λ act r s rs cells levels into does h. record { on_stack = (takes act r s cells into h.waiting does h.on_stack.0, h.on_stack.1); waiting = tt; opened = h.opened; below = h.below };
  }

  -- where all renderers are such, also those of cells that wait, and all acts keep that
  pub line_keeps : (Is : Top → Type 0) → ((act : Act M) (r s : Top) → after_act columns decoration act r ≡ done s → Is r → Is s) →
      ((width : ℕ) (r : Top) → 0 < width → Is r → Is (sub_renderer decoration width r)) →
      (p next : Progress D M (List M)) (number : ℕ) (line : List ℕ) → AllAre Is p → after_line columns decoration number line p ≡ Ok next → AllAre Is next
  line_keeps Is on inside p next number line h does =
      let here : At columns decoration (Fits Is Any (λ c. Is c.0)) p =
      record {
        on_stack = each_map (λ l. l.renderer) _ Is (λ l is. is) p.stack.levels h.on_stack;
        waiting =
            h.waiting;
        opened = each_any _ (λ o. tt) p.opened;
        below = h.below;
      } in
      let walk = fits_walk (Unit {0}) Sized (λ r. Unit {0}) Is Any (λ c. Is c.0) (λ r is. any_ready r) (λ c is. any_ready c.0) (λ c. on (call c)) (λ act r s cells into waits. on act r s)
      (λ by width r wide is. (inside width r wide is, tt)) (λ span align r ends is by. is) in
      let there = line_makes columns decoration Sized (λ command r. Unit {0}) _ _ walk p next number line (λ command is. (sized line command is, λ ends r top. tt)) here does in
      record { on_stack = each_unmap (λ l. l.renderer) _ Is (λ l is. is) next.stack.levels there.on_stack; waiting = there.waiting; below = there.below }

  -- where the renderers of cells that wait are such, since each is when its level ends
  abbrev pub Wait : (Top → Type 0) → Holds columns decoration
  Wait Ends = Fits (λ r. Unit {0}) Any (λ c. Ends c.0)

  pub line_waits : (Ends : Top → Type 0) (p : Progress D M (List M)) (number : ℕ) (line : List ℕ) →
      ((command : Command) → IsCommand line command → EndsOne command → (r : Top) → top_of p.stack ≡ Some r → Ends r) →
      CellsAre Ends p.pending → Each (λ (o : Opened D M (List M)). CellsAre Ends o.below) p.opened → Meets (Unit {0}) (At columns decoration (Wait Ends)) (after_line columns decoration number line p)
  line_waits Ends p number line ends waiting below =
      let walk = fits_walk (Unit {0}) Sized Ends (λ r. Unit {0}) Any (λ c. Ends c.0) (λ r is. any_ready r)
      (λ c is. any_ready c.0) (λ c r s does is. tt) (λ act r s cells into wait does is. tt)
      (λ by width r wide is. (tt, tt)) (λ span align r of is by. of) in
      line_meets columns decoration (Unit {0}) Sized (λ command. Ends) (Wait Ends) (Wait Ends) walk number p line
      (λ command is. (sized line command is, ends command is))
      (record { on_stack = each_any _ (λ r. tt) _; waiting = waiting; opened = each_any _ (λ o. tt) p.opened; below = below })

  -- and of a command, however its line was read
  pub command_waits : (p : Progress D M (List M)) (number : ℕ) (command : Command) → Asks columns decoration Sized command →
      Meets (Unit {0}) (At columns decoration (Wait (λ r. Unit {0}))) (after_command columns decoration number command p)
  command_waits p number command asks =
      let Ends = λ (r : Top). Unit {0} in
      let walk = fits_walk (Unit {0}) Sized Ends (λ r. Unit {0}) Any (λ c. Ends c.0) (λ r is. any_ready r)
      (λ c is. any_ready c.0) (λ c r s does is. tt) (λ act r s cells into wait does is. tt)
      (λ by width r wide is. (tt, tt)) (λ span align r of is by. of) in
      command_meets columns decoration (Unit {0}) Sized (λ command. Ends) (Wait Ends) (Wait Ends) walk number p command asks (λ ends r top. tt)
      (record { on_stack = each_any _ (λ r. tt) _; waiting = each_any _ (λ c. tt) _; opened = each_any _ (λ o. tt) p.opened; below = each_any _ (λ o. each_any _ (λ c. tt) _) p.opened })

  -- ---- one renderer for each level, and one below them

  abbrev Counts : Holds columns decoration
  Counts rs cells levels = length rs ≡ length levels + 1

  pub line_counts : (p next : Progress D M (List M)) (number : ℕ) (line : List ℕ) → length p.stack.levels ≡ length p.opened + 1 →
      after_line columns decoration number line p ≡ Ok next → length next.stack.levels ≡ length next.opened + 1
  line_counts p next number line h does =
      let walk : Walk columns decoration (Unit {0}) Sized (λ command r. Unit {0}) Counts Counts = record {
        ready = λ rs cells levels h. (each_any _ any_ready rs, each_any _ (λ (c : Top × ℕ). any_ready c.0) cells);
        kept = λ rs cells levels h. h;
        called = λ c r s rs cells levels own does h. h;
        opens = λ by width r rs left levels asked h. omega (arith, h);
        joins = λ first next lines r t s rs left levels ends gives does h. omega (arith, h);
        waits = λ span align r rs left levels ends h. omega (arith, h);
        takes = λ act r s rs cells levels into does h. h;
      } in
      sym (length-map next.stack.levels _) ∙ line_makes columns decoration Sized (λ command r. Unit {0}) Counts Counts
      walk p next number line (λ command is. (sized line command is, λ ends r top. tt)) (length-map p.stack.levels _ ∙ h) does
