-- Where in a script is what came to one of its renderers: in it, or in lines that others took from it.
use Rattle.script_laws.proofs.Common.{◌∙◌, ◌≡◌, ◌≤◌, ◌⊎◌, inl, inr, ℕ, zero, suc, Option, None, Some, Ok, List, [], ◌∷◌, ◌++◌, length, chars, refl, ap, sym, subst, arith, append_assoc, AllZip, Each}
use Rattle.script_laws.proofs.Common.{Entry, done, Decoration, Line, run, Renderer, handed_out, append_subrender, append_vert_row, Act, call, row_of_cells, after_act, act_brought, act_comes}
use Rattle.script_laws.proofs.Common.{acts_come, Takes, NothingOverhangs, TakesIn, AreTakenIn, Level, first_renderer, prefixes, Opened, Progress, after_line, IsLed, EndsWhole, KeepsAll}
use Rattle.tbr_model.proofs.lists.Each.{each_map}
use Rattle.tbr_rows.specs.CellsShown.{StandsAmong}
use Rattle.tbr_rows.proofs.Among.{among_front}
use Rattle.text_block_renderer.proofs.ActSteps.{acts_then}
use Rattle.tbr_renderer.proofs.AppendedLines.{length-alike}
use Rattle.script_laws.proofs.LedRenderers.{led_on}
use Rattle.tbr_runner.proofs.ScriptLevels.{each_any, Sized, sized, any_ready}
use Rattle.tbr_runner.proofs.Walks.{Holds, At, renderers, HandsOut, GivesCell, TakesCells, Walk, line_makes}

-- ---- some of a list

module _ {X : Type 0} where
  abbrev pub SomeOf : (X → Type 0) → List X → Type 0
  SomeOf P [] = ⊥
  SomeOf P (x ∷ xs) = P x ⊎ SomeOf P xs

  some_later : (P : X → Type 0) (xs ys : List X) → SomeOf P ys → SomeOf P (xs ++ ys)
  some_later P [] ys h = h
  some_later P (x ∷ xs) ys h = inr (some_later P xs ys h)

  some_before : (P : X → Type 0) (xs ys : List X) → SomeOf P xs → SomeOf P (xs ++ ys)
  some_before P [] ys h = absurd h
  some_before P (x ∷ xs) ys (inl h) = inl h
  some_before P (x ∷ xs) ys (inr h) = inr (some_before P xs ys h)

-- as many prefixes as lines
as_many : (first next : List ℕ) (n : ℕ) → n ≤ length (prefixes first next n)
as_many first next n = omega (arith, length-alike (chars first) (chars next) n)

module _ {D M : Type 0} (columns : ℕ → Option ℕ) (decoration : Decoration D M) where
  abbrev Top : Type 0
  Top = Renderer D M (List M)

  abbrev Lines : Type 0
  Lines = List (Line (List M))

  -- one renderer takes lines more
  taken_on : (depth : ℕ) (inside between outside : Lines) → AreTakenIn columns decoration depth inside between → TakesIn columns decoration between outside →
      AreTakenIn columns decoration (suc depth) inside outside
  taken_on zero inside between outside same takes = (outside, subst (λ (ls : Lines). TakesIn columns decoration ls outside) same takes, refl)
  taken_on (suc depth) inside between outside (first, here, rest) takes = (first, here, taken_on depth first between outside rest takes)

  -- What came to a renderer, which acts led to from another one.
  module _ (first : Top) (es : List (Entry (List M))) where
    -- what came is still in it, with others after it
    pub record HasStill (r : Top) : Type 0 where
      pub acts : List (Act M)
      pub more : List (Entry (List M))
      pub leads : run (after_act columns decoration) acts first ≡ done r
      pub came : es ++ more ≡ acts_come columns decoration acts first []

    -- the lines that it handed out were taken, again and again
    pub record Gave (lines : Lines) : Type 0 where
      pub origin : Top
      pub still : HasStill origin
      pub live : origin.failure ≡ None
      pub inside : Lines
      pub gives : handed_out columns origin ≡ done inside
      pub depth : ℕ
      pub chain : AreTakenIn columns decoration depth inside lines

    -- and the last of them by one of these acts on another one
    pub record Taking : Type 0 where
      pub lines : Lines
      pub gave : Gave lines
      pub start_of : Top
      pub before : List (Act M)
      pub taking_it : Act M
      pub later : List (Act M)
      pub span : ℕ
      pub takes : Takes span lines taking_it

    abbrev HasTaken : Top → Type 0
    HasTaken r = (t : Taking) × (run (after_act columns decoration) (t.before ++ t.taking_it ∷ t.later) t.start_of ≡ done r)

    abbrev pub Has : Top → Type 0
    Has r = HasStill r ⊎ HasTaken r

    -- by acts that put what they bring last
    has_on : (act : Act M) (r s : Top) → ((fs : List (Entry (List M))) → act_comes columns decoration act r fs ≡ fs ++ act_brought columns decoration act r) →
        after_act columns decoration act r ≡ done s → Has r → Has s
    has_on act r s last does (inl h) =
        let more = act_brought columns decoration act r in
        let (leads, came) = acts_then columns decoration h.acts act first r s [] h.leads does in
        inl
        (record {
          acts = h.acts ++ act ∷ [];
          more = h.more ++ more;
          leads = leads;
          came =
              sym (append_assoc es h.more more) ∙ ap (λ fs. fs ++ more) h.came ∙ sym (last (acts_come columns decoration h.acts first [])) ∙ sym came;
        })
    has_on act r s last does (inr (t, leads)) =
        let leads_on = (acts_then columns decoration (t.before ++ t.taking_it ∷ t.later) act t.start_of r s [] leads does).0 in
        inr (record t { later = t.later ++ act ∷ [] }, subst (λ acts. run (after_act columns decoration) acts t.start_of ≡ done s) (append_assoc t.before (t.taking_it ∷ t.later) (act ∷ [])) leads_on)

    pub gives_on : (r : Top) (lines : Lines) → r.failure ≡ None → NothingOverhangs r → handed_out columns r ≡ done lines → Has r → Gave lines
    gives_on r lines live none gives (inl h) = record { origin = r; still = h; live = live; inside = lines; gives = gives; depth = 0; chain = refl }
    gives_on r lines live none gives (inr (t, leads)) =
        let g = t.gave in
        let takes : TakesIn columns decoration t.lines lines = record {
          first = t.start_of;
          last = r;
          before = t.before;
          taking = t.taking_it;
          after = t.later;
          leads = leads;
          span = t.span;
          takes = t.takes;
          come = inr none;
          gives = gives;
        } in
        record { origin = g.origin; still = g.still; live = g.live; inside = g.inside; gives = g.gives; depth = suc g.depth; chain = taken_on g.depth g.inside t.lines lines g.chain takes }

    takes_on : (act : Act M) (lines : Lines) (span : ℕ) (r s : Top) → Takes span lines act → IsLed columns decoration r → after_act columns decoration act r ≡ done s → Gave lines → Has s
    takes_on act lines span r s takes led does gave =
        inr (
          record {
            lines = lines;
            gave = gave;
            start_of = led.first;
            before = led.acts;
            taking_it = act;
            later =
                [];
            span = span;
            takes = takes;
          },
          (acts_then columns decoration led.acts act led.first r s [] led.leads does).0,
        )

    -- ---- where it is in a script

    abbrev OnStack : List Top → Type 0
    OnStack rs = SomeOf Has rs

    abbrev Waits : List (Top × ℕ) → Type 0
    Waits cells = SomeOf (λ (c : Top × ℕ). Has c.0) cells

    abbrev WaitsBelow : List (Opened D M (List M)) → Type 0
    WaitsBelow levels = SomeOf (λ (o : Opened D M (List M)). Waits (let w = o.below in w.cells)) levels

    abbrev IsSomewhere : Holds columns decoration
    IsSomewhere rs cells levels = OnStack rs ⊎ (Waits cells ⊎ WaitsBelow levels)

    abbrev pub IsIn : Progress D M (List M) → Type 0
    IsIn p = At columns decoration IsSomewhere p

    -- where no level is open and no cell waits, it is in the only renderer
    pub only_on_stack : (p : Progress D M (List M)) → p.opened ≡ [] → p.pending.cells ≡ [] → IsIn p → OnStack (renderers columns decoration p.stack.levels)
    only_on_stack p none_open none_wait (inl on) = on
    only_on_stack p none_open none_wait (inr (inl wait)) = absurd (subst Waits none_wait wait)
    only_on_stack p none_open none_wait (inr (inr later)) = absurd (subst WaitsBelow none_open later)

    pub only_one : (levels : List (Level Top)) (r : Top) → first_renderer levels ≡ Some r → length levels ≡ 1 → OnStack (renderers columns decoration levels) → Has r
    only_one [] r is one h = absurd h
    only_one (level ∷ []) r is one (inl h) = subst Has (let same : level.renderer ≡ r = cc is in same) h
    only_one (level ∷ []) r is one (inr h) = absurd h
    only_one (level ∷ next ∷ levels) r is one h = absurd (omega (arith, one))

    pub first_has : (levels : List (Level Top)) (r : Top) → first_renderer levels ≡ Some r → HasStill r → OnStack (renderers columns decoration levels)
    first_has [] r is h = absurd (let no : ⊥ = cc is in no)
    first_has (level ∷ levels) r is h = inl (subst Has (let same : r ≡ level.renderer = cc is in same) (inl h))

    -- ---- what a renderer takes

    -- one of those that give what is taken
    some_gives : {Y : Type 0} (Gives : Top × ℕ → Y → Type 0) (lines_of : Y → Lines) → ((c : Top × ℕ) (y : Y) → Gives c y → handed_out columns c.0 ≡ done (lines_of y)) →
        (cells : List (Top × ℕ)) (ys : List Y) → AllZip Gives cells ys →
        Each (λ (c : Top × ℕ). IsLed columns decoration c.0) cells → Each (λ (c : Top × ℕ). NothingOverhangs c.0) cells → Waits cells → (y : Y) × StandsAmong y ys × Gave (lines_of y)
    some_gives Gives lines_of gives [] ys zip led none h = absurd h
    some_gives Gives lines_of gives (c ∷ cells) [] zip led none h = absurd zip
    some_gives Gives lines_of gives (c ∷ cells) (y ∷ ys) zip led none (inl has) = (y, ([], ys, refl), gives_on c.0 (lines_of y) (let l = led.0 in l.live) none.0 (gives c y zip.0) has)
    some_gives Gives lines_of gives (c ∷ cells) (y ∷ ys) zip led none (inr later) =
        let (z, among, gave) = some_gives Gives lines_of gives cells ys zip.1 led.1 none.1 later in (z, among_front z y ys among, gave)

    cells_come : (act : Act M) (r s : Top) (cells : List (Top × ℕ)) → TakesCells columns decoration cells act → after_act columns decoration act r ≡ done s → IsLed columns decoration r →
        Each (λ (c : Top × ℕ). IsLed columns decoration c.0) cells → Each (λ (c : Top × ℕ). NothingOverhangs c.0) cells → Waits cells → Has s
    cells_come (row_of_cells collapse given) r s cells into does led waiting none h =
        let (g, among, gave) =
        some_gives (GivesCell columns decoration) (λ g. g.lines) (λ c g gives. gives.1) cells given into waiting
        none h in takes_on (row_of_cells collapse given) g.lines g.span r s (g, among, refl, refl) led does gave
    cells_come (call (append_vert_row given)) r s cells into does led waiting none h =
        let (lines, among, gave) =
        some_gives (HandsOut columns decoration) (λ lines. lines) (λ c lines gives. gives) cells given into
        waiting none h in takes_on (call (append_vert_row given)) lines 1 r s among led does gave
    cells_come other r s cells into does led waiting none h = absurd into

    -- what such acts bring comes last
    brought_last : (act : Act M) (r : Top) (cells : List (Top × ℕ)) → TakesCells columns decoration cells act → (fs : List (Entry (List M))) →
        act_comes columns decoration act r fs ≡ fs ++ act_brought columns decoration act r
    brought_last (row_of_cells collapse given) r cells into fs = refl
    brought_last (call c) r cells into fs = refl
    brought_last other r cells into fs = absurd into

    -- ---- commands

    -- Acts led to the renderers, and in those of cells that wait nothing overhangs.
    abbrev Before : Holds columns decoration
    Before rs cells levels =
        (Each (IsLed columns decoration) rs × Each (λ (c : Top × ℕ). IsLed columns decoration c.0) cells × Each
        (λ (c : Top × ℕ). NothingOverhangs c.0) cells) × IsSomewhere rs cells levels

    -- the first changes
    first_goes : (r s : Top) (rs : List Top) (cells : List (Top × ℕ)) (levels : List (Opened D M (List M))) → (Has r → Has s) → IsSomewhere (r ∷ rs) cells levels → IsSomewhere (s ∷ rs) cells levels
    first_goes r s rs cells levels goes (inl (inl has)) = inl (inl (goes has))
    first_goes r s rs cells levels goes (inl (inr on)) = inl (inr on)
    first_goes r s rs cells levels goes (inr rest) = inr rest

    -- a level ends: it is in its renderer, or in what is left
    ended_has : (inside : Top) (rs : List Top) (cells : List (Top × ℕ)) (levels : List (Opened D M (List M))) →
        OnStack (inside ∷ rs) ⊎ (Waits [] ⊎ (Waits cells ⊎ WaitsBelow levels)) → Has inside ⊎ IsSomewhere rs cells levels
    ended_has inside rs cells levels (inl (inl has)) = inl has
    ended_has inside rs cells levels (inl (inr on)) = inr (inl on)
    ended_has inside rs cells levels (inr (inl none)) = absurd none
    ended_has inside rs cells levels (inr (inr rest)) = inr (inr rest)

    has_walk : Walk columns decoration (Unit {0}) Sized (λ command. NothingOverhangs) Before IsSomewhere
    has_walk = record {
      ready = λ rs cells levels h. (each_any _ (any_ready columns decoration) rs, each_any _ (λ c. any_ready columns decoration c.0) cells);
      kept = λ rs cells levels h. h.1;
      called =
          λ c r s rs cells levels own does h.
          (((led_on columns decoration (call c) r s does h.0.0.0, h.0.0.1), h.0.1, h.0.2), first_goes r s rs cells levels (has_on (call c) r s (λ fs. refl) does) h.1);
      opens = λ by width r rs left levels wide h. elim h.1 [ inl on ↦ inl (inr on) | inr rest ↦ inr (inr rest) ];
      joins = λ one next lines inside r s rs left levels ends gives does h.
          let more = call (append_subrender (prefixes one next (length lines)) lines) in
          elim (ended_has inside (r ∷ rs) left.cells levels h.1) [
            | inl has ↦ inl (inl (takes_on more lines 1 r s (refl, as_many one next (length lines)) h.0.0.1.0 does (gives_on inside lines (let led = h.0.0.0 in led.live) ends gives has)))
            | inr on ↦ first_goes r s rs left.cells levels (has_on more r s (λ fs. refl) does) on
          ];
      waits = λ span align inside rs left levels ends h. elim (ended_has inside rs left.cells levels h.1) [
        | inl has ↦ inr (inl (some_later (λ (c : Top × ℕ). Has c.0) left.cells ((inside, span) ∷ []) (inl has)))
        | inr (inl on) ↦ inl on
        | inr (inr (inl wait)) ↦ inr (inl (some_before (λ (c : Top × ℕ). Has c.0) left.cells ((inside, span) ∷ []) wait))
        | inr (inr (inr later)) ↦ inr (inr later)
      ];
      takes = λ act r s rs cells levels into does h. elim (first_goes r s rs cells levels (has_on act r s (brought_last act r cells into) does) h.1) [
        | inl on ↦ inl on
        | inr (inl wait) ↦ inl (inl (cells_come act r s cells into does h.0.0.0 h.0.1 h.0.2 wait))
        | inr (inr later) ↦ inr (inr later)
      ];
    }

    pub line_has : (number : ℕ) (line : List ℕ) (p next : Progress D M (List M)) → KeepsAll columns decoration p →
        EndsWhole (line ∷ []) p → after_line columns decoration number line p ≡ Ok next → IsIn p → IsIn next
    line_has number line p next keeps whole does h =
        let led = keeps.renderers in
        line_makes columns decoration Sized (λ command. NothingOverhangs) Before IsSomewhere has_walk p next number line
        (λ command is. (sized columns decoration line command is, λ ends. whole (command, is, ends)))
        ((each_map (λ l. l.renderer) _ (IsLed columns decoration) (λ l is. is) p.stack.levels led.on_stack, led.waiting, keeps.waiting), h) does
