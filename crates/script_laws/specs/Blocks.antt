-- A script by its blocks: what the lines of each lead its renderer to, and where its own lines come.
use Rattle.std.specs.Prelude.{◌≡◌, ℕ, ◌+◌, Bool, if◌then◌else◌, Option, None, List, [], ◌∷◌, ◌++◌, length, drop, chars, encode_utf8_all}
use Rattle.std.specs.List.{AllZip}
use Rattle.tbr_tagged.specs.Outcome.{done}
use Rattle.tbr_tagged.specs.declared.CellAlign.{CellAlign}
use Rattle.tbr_decor.specs.Start as start
use Rattle.tbr_decor.specs.End as end
use Rattle.tbr_decor.specs.Decoration.{Decoration}
use Rattle.tbr_renderer.specs.Outcomes.{run}
use Rattle.text_block_renderer.specs.Line.{Line}
use Rattle.text_block_renderer.specs.Renderer.{Renderer, new_renderer}
use Rattle.text_block_renderer.specs.Flush.{after_flush}
use Rattle.text_block_renderer.specs.Decorated.{sub_renderer}
use Rattle.text_block_renderer.specs.Appended.{handed_out}
use Rattle.text_block_renderer.specs.Rows.{GivenCell, next_align}
use Rattle.text_block_renderer.specs.Calls.{Call, begin, finish, append_subrender, append_vert_row, after}
use Rattle.text_block_renderer.specs.Acts.{Act, call, row as row_of_cells, after_act}
use Rattle.text_block_renderer.specs.Levels.{number_acts}
use Rattle.text_block_renderer.specs.Text.{lines_text}
use Rattle.tbr_stack.specs.Links.{first_open}
use Rattle.tbr_commands.specs.Command.{Command, link, end_link, sub, append, cell, end_cell, row, vertical_row}
use Rattle.tbr_commands.specs.Syntax.{IsCommand}
use Rattle.tbr_commands.specs.Opening.{IsOpening}
use Rattle.tbr_commands.specs.declared.opening.Decorator.{Decorator}
use Rattle.tbr_commands.specs.declared.opening.Decorator.TheVariants.{Plain, Trivial, Rich}
use Rattle.tbr_commands.specs.declared.opening.Opening.{Opening}
use Rattle.tbr_program.specs.Closing.{with_notes, footnotes_of}
use Rattle.tbr_program.specs.Prefixes.{prefixes}
use Rattle.tbr_program.specs.Decorations.{plain_decoration, trivial_decoration, rich_decoration}
use Rattle.script_laws.specs.Named.{NamesCall}

-- Within a block or a cell: its renderer, the cells that wait there for a row, each with its span, and their alignments,
-- the links that are open there, and the targets of all links of the script so far.
pub record Inside (D M : Type 0) : Type 0 where
  pub renderer : Renderer D M (List M)
  pub cells : List (Renderer D M (List M) × ℕ)
  pub aligns : List CellAlign
  pub opened : List ℕ
  pub targets : List (List ℕ)

-- where nothing has come yet
abbrev pub entered : {D M : Type 0} → Renderer D M (List M) → List (List ℕ) → Inside D M
entered r targets = record { renderer = r; cells = []; aligns = []; opened = []; targets = targets }

-- a cell more that waits
abbrev pub with_waiting : {D M : Type 0} → Inside D M → Renderer D M (List M) → ℕ → CellAlign → Inside D M
with_waiting w r span align =
    record w { cells = w.cells ++ (r, span) ∷ []; aligns = w.aligns ++ align ∷ [] }

module _ {D M : Type 0} (columns : ℕ → Option ℕ) (decoration : Decoration D M) where
  -- Each cell that waits gives its lines once, in order.
  abbrev pub GiveCells : List (Renderer D M (List M) × ℕ) → List CellAlign → List (GivenCell (List M)) → Type 0
  GiveCells [] aligns given = given ≡ []
  GiveCells (c ∷ cells) aligns given =
      (lines : List (Line (List M))) × (others : List (GivenCell (List M))) × (handed_out columns c.0 ≡ done lines)
      × (given ≡ record { width = (let r = c.0 in r.width); span = c.1; align = next_align aligns; lines = lines }
      ∷ others) × GiveCells cells (drop 1 aligns) others

  -- the acts that end a link: its number comes where footnotes do
  abbrev pub link_end_acts : Inside D M → List (Act M)
  link_end_acts w =
      let r = w.renderer in
      call (finish end.link) ∷ number_acts (if r.options.include_link_footnotes then first_open w.opened else None)

  -- Lines lead from here to there within one block. A line does the call that it names. The lines from a `sub` to its
  -- `append` are those of a block inside, whose renderer they lead, and the lines of that come at the `append`, once. So
  -- it is with a cell, but its lines come at the next row.
  pub data Lead : List (List ℕ) → Inside D M → Inside D M → Type 0 where
    no_line : (w : Inside D M) → Lead [] w w
    empty_line : (lines : List (List ℕ)) (w v : Inside D M) → Lead lines w v → Lead ([] ∷ lines) w v
    named : (line : List ℕ) (lines : List (List ℕ)) (w v : Inside D M) (c : Call (List M)) (s : Renderer D M (List M)) →
        NamesCall (let r = w.renderer in r.width) line c → after columns decoration c w.renderer ≡ done s →
        Lead lines (record w { renderer = s }) v → Lead (line ∷ lines) w v
    link_begins : (line : List ℕ) (lines : List (List ℕ)) (w v : Inside D M) (target : List ℕ)
        (s : Renderer D M (List M)) → IsCommand line (link target) →
        after columns decoration (begin (start.link (chars target))) w.renderer ≡ done s →
        Lead lines (record w {
          renderer = s;
          opened = (length w.targets + 1) ∷ w.opened;
          targets = w.targets ++ chars target ∷ [];
        }) v → Lead (line ∷ lines) w v
    link_ends : (line : List ℕ) (lines : List (List ℕ)) (w v : Inside D M) (s : Renderer D M (List M)) →
        IsCommand line end_link → run (after_act columns decoration) (link_end_acts w) w.renderer ≡ done s →
        Lead lines (record w { renderer = s; opened = drop 1 w.opened }) v → Lead (line ∷ lines) w v
    block : (line : List ℕ) (inner : List (List ℕ)) (last : List ℕ) (lines : List (List ℕ)) (w u v : Inside D M)
        (width : ℕ) (first others : List ℕ) (own : List (Line (List M))) (s : Renderer D M (List M)) →
        IsCommand line (sub width) → Lead inner (entered (sub_renderer decoration width w.renderer) w.targets) u →
        IsCommand last (append first others) → u.cells ≡ [] → handed_out columns u.renderer ≡ done own →
        after columns decoration (append_subrender (prefixes first others (length own)) own) w.renderer ≡ done s →
        Lead lines (record w { renderer = s; targets = u.targets }) v → Lead (line ∷ inner ++ last ∷ lines) w v
    cell_waits : (line : List ℕ) (inner : List (List ℕ)) (last : List ℕ) (lines : List (List ℕ)) (w u v : Inside D M)
        (width span : ℕ) (align : CellAlign) → IsCommand line (cell width span align) →
        Lead inner (entered (sub_renderer decoration width w.renderer) w.targets) u → IsCommand last end_cell →
        u.cells ≡ [] → Lead lines (with_waiting (record w { targets = u.targets }) u.renderer span align) v →
        Lead (line ∷ inner ++ last ∷ lines) w v
    row_comes : (line : List ℕ) (lines : List (List ℕ)) (w v : Inside D M) (collapse : Bool)
        (given : List (GivenCell (List M))) (s : Renderer D M (List M)) → IsCommand line (row collapse) →
        GiveCells w.cells w.aligns given →
        after_act columns decoration (row_of_cells collapse given) w.renderer ≡ done s →
        Lead lines (record w { renderer = s; cells = []; aligns = [] }) v → Lead (line ∷ lines) w v
    vertical_row_comes : (line : List ℕ) (lines : List (List ℕ)) (w v : Inside D M)
        (given : List (List (Line (List M)))) (s : Renderer D M (List M)) → IsCommand line vertical_row →
        AllZip (λ c own. handed_out columns c.0 ≡ done own) w.cells given →
        after columns decoration (append_vert_row given) w.renderer ≡ done s →
        Lead lines (record w { renderer = s; cells = []; aligns = [] }) v → Lead (line ∷ lines) w v

  -- Lines lead a script's renderer to its last, and no cell waits then. The text is that of its lines, without an open
  -- run, and then of its footnotes.
  pub record GiveText (first : Renderer D M (List M)) (lines : List (List ℕ)) (text : List ℕ) : Type 0 where
    pub last : Inside D M
    pub lead : Lead lines (entered first []) last
    pub none_waits : last.cells ≡ []
    pub whole : Renderer D M (List M)
    pub ends : after_flush columns last.renderer ≡ done whole
    pub is : text ≡ encode_utf8_all (lines_text
        (let s = with_notes columns (footnotes_of columns decoration last.targets whole) whole in s.lines))

module _ (columns : ℕ → Option ℕ) where
  abbrev pub GiveUnder : Decorator → Opening → List (List ℕ) → List ℕ → Type 0
  GiveUnder Plain opening =
      GiveText columns plain_decoration (new_renderer opening.width opening.options (record {}))
  GiveUnder Trivial opening =
      GiveText columns trivial_decoration (new_renderer opening.width opening.options (record {}))
  GiveUnder Rich opening =
      GiveText columns rich_decoration (new_renderer opening.width opening.options (record {}))

  -- A script gives a text: its first line that isn't empty opens its renderer, and the others lead that.
  abbrev pub Gives : List (List ℕ) → List ℕ → Type 0
  Gives [] text = ⊥
  Gives ([] ∷ lines) text = Gives lines text
  Gives ((b ∷ bs) ∷ lines) text =
      (opening : Opening) × IsOpening (b ∷ bs) opening × GiveUnder opening.decorator opening lines text
