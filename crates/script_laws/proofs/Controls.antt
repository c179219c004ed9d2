-- The text of a script that shows no control characters.
use Rattle.script_laws.proofs.Common.{◌≡◌, ◌≢◌, ◌+◌, ◌==◌, ℕ, zero, suc, Bool, true, false, if◌then◌else◌, Option, Some, None, Result, Ok, Err, inl, inr, List, [], ◌∷◌, ◌++◌, map, flat_map, fold}
use Rattle.script_laws.proofs.Common.{length, replicate, chars, encode_utf8_all, refl, ap, sym, ◌∙◌, subst, arith, append-nil, cond_both, Each, AllZip, done, Item, Decoration, changed, Renderer, Line}
use Rattle.script_laws.proofs.Common.{handed_out, sub_renderer, GivenCell, Call, append_subrender, append_vert_row, after, Act, call, row_of_cells, after_act, with_line, has_content, RunError}
use Rattle.script_laws.proofs.Common.{NotACommand, Level, first_renderer, top_of, Command, ask, link, end_link, sub, append, cell, end_cell, vertical_row, IsCommand, lines_of, command_read}
use Rattle.script_laws.proofs.Common.{opening_read, Decorator, Plain, Trivial, Rich, Opening, Opener, prefixes, Opened, Pending, Progress, after_command, ended, started, lines_closed, closed_text}
use Rattle.script_laws.proofs.Common.{after_flush, footnotes_of, with_notes, EndsOne, unless_refused}
use Rattle.std.specs.Prelude.{IsTrue, ◌&&◌}
use Rattle.std.specs.Char.{is_control}
use Rattle.std.specs.Str.{IsUtf8}
use Rattle.std.proofs.lemmas.Bool.{and_parts}
use Rattle.std.proofs.Math.Utf8.{scalar, scalars}
use Rattle.std.proofs.lemmas.Str.{chars-encodes, chars-IsAscii, scalars-chars, IsUtf8-from_ascii}
use Rattle.percent_encoding.specs.Percent.{percent_encode}
use Rattle.percent_encoding.specs.declared.ascii_set.TheConstants.{CONTROLS}
use Rattle.percent_encoding.proofs.PercentLemmas.{IsAscii-percent_encode}
use Rattle.std.specs.Prelude.{encode_utf8}
use Rattle.tbr_model.specs.Codes.{newline_character}
use Rattle.tbr_model.specs.Run.{glyph, marker}
use Rattle.tbr_model.proofs.lists.Each.{each_append, each_front, each_back, each_map, each_unmap}
use Rattle.tbr_tagged.specs.Elements.{Element, piece, marker_element, characters}
use Rattle.tbr_tagged.specs.Walks.{item_characters}
use Rattle.tbr_rows.specs.Shown.{DrawsInOne}
use Rattle.tbr_rows.proofs.Among.{each_gives}
use Rattle.tbr_safe.specs.Escaped.{escaped_character, escaped, escaped_bytes}
use Rattle.tbr_safe.proofs.Controls.{none_left}
use Rattle.tbr_safe.proofs.Footnotes.{footnotes_are}
use Rattle.text_block_renderer.specs.Columns.{TextHasColumns, ItemHasColumns, ItemsHaveColumns, LinesHaveColumns, CallHasColumns, GivenHasColumns, ActHasColumns, RendererHasColumns}
use Rattle.text_block_renderer.specs.Footnote.{unbroken, footnote_items}
use Rattle.text_block_renderer.specs.Footnotes.{listed}
use Rattle.text_block_renderer.specs.Steps.{with_empty_line, block_started}
use Rattle.text_block_renderer.specs.Text.{items_shown, lines_text}
use Rattle.tbr_renderer.proofs.FlushedBlocks.{flushes}
use Rattle.tbr_renderer.proofs.OutcomeParts.{done_before}
use Rattle.text_block_renderer.proofs.LineCharacters.{text_has, line_put, lines_put, flush_keeps}
use Rattle.text_block_renderer.proofs.CallCharacters.{call_keeps, handed_have}
use Rattle.text_block_renderer.proofs.RowCharacters.{act_has, footnotes_have}
use Rattle.tbr_commands.specs.Command.{row}
use Rattle.tbr_commands.proofs.Reading.{read_command}
use Rattle.tbr_program.specs.Safe.{safe_command, shown_links}
use Rattle.tbr_program.specs.Closing.{finalised}
use Rattle.tbr_program.specs.Commands.{after_shown_line, after_shown_read}
use Rattle.tbr_program.specs.Decorations.{plain_decoration, trivial_decoration, rich_decoration}
use Rattle.tbr_runner.specs.Scripts.{shown_on, shown_under, shown_by, shown_from, shown}
use Rattle.script_laws.specs.Controls.{ControlsHaveNone, HasNoControls}
use Rattle.script_laws.proofs.TextsOfCommands.{prefixes_utf8}
use Rattle.tbr_runner.proofs.Walks.{Meets, Holds, At, Asks, TakesCells, TakesNoLines, HandsOut, GivesCell, Walk, command_meets}
use Rattle.tbr_runner.proofs.ScriptLevels.{each_any, any_ready, first_led}
use Rattle.script_laws.proofs.OneRowCells.{zip_gives}
use Rattle.script_laws.proofs.LedRenderers.{at_end}

-- ---- escaped prefixes

scalars_both : (xs ys : List ℕ) → scalars xs ≡ true → scalars ys ≡ true → scalars (xs ++ ys) ≡ true
scalars_both [] ys h k = k
scalars_both (x ∷ xs) ys h k =
    let (one, more) = and_parts (scalar x) (scalars xs) h in ap (λ (b : Bool). b && scalars (xs ++ ys)) one ∙ scalars_both xs ys more k

escaped_scalars : (cs : List ℕ) → scalars cs ≡ true → scalars (escaped cs) ≡ true
escaped_scalars [] h = refl
escaped_scalars (c ∷ cs) h =
    let (one, more) = and_parts (scalar c) (scalars cs) h in
    let escape = percent_encode CONTROLS (encode_utf8 c) in
    let ascii = IsAscii-percent_encode CONTROLS (encode_utf8 c) in
    scalars_both (escaped_character c) (escaped cs)
    (cond_both (is_control c) escape (c ∷ []) (λ ds. scalars ds ≡ true) (λ e. subst (λ ds. scalars ds ≡ true) (chars-IsAscii escape ascii) (scalars-chars escape (IsUtf8-from_ascii escape ascii)))
    (λ e. ap (λ (b : Bool). b && true) one))
    (escaped_scalars cs more)

read_back : (bytes : List ℕ) → IsUtf8 bytes → chars (escaped_bytes bytes) ≡ escaped (chars bytes)
read_back bytes u = chars-encodes (escaped (chars bytes)) (escaped_scalars (chars bytes) (scalars-chars bytes u))

replicated : {X : Type 0} (P : X → Type 0) (n : ℕ) (x : X) → P x → Each P (replicate n x)
replicated P zero x h = tt
replicated P (suc n) x h = (h, replicated P n x h)

module _ (columns : ℕ → Option ℕ) (draws : DrawsInOne columns) (controls : ControlsHaveNone columns) where
  shown_has : (c : ℕ) → is_control c ≡ false → columns c ≢ None
  shown_has c is none = let control = (controls c).0 none in cc

  has_shown : (c : ℕ) → columns c ≢ None → is_control c ≡ false
  has_shown c some = go (is_control c) refl
    where
      go : (b : Bool) → is_control c ≡ b → is_control c ≡ false
      go true e = absurd (some ((controls c).1 e))
      go false e = e

  prefix_has : (bytes : List ℕ) → IsUtf8 bytes → TextHasColumns columns (chars (escaped_bytes bytes))
  prefix_has bytes u =
      subst (TextHasColumns columns) (sym (read_back bytes u)) (each_gives (λ c. is_control c ≡ false) (λ c. columns c ≢ None) shown_has (escaped (chars bytes)) (none_left (chars bytes)))

  prefixes_have : (first next : List ℕ) (n : ℕ) → TextHasColumns columns (chars first) → TextHasColumns columns (chars next) → Each (TextHasColumns columns) (prefixes first next n)
  prefixes_have first next zero h k = tt
  prefixes_have first next (suc n) h k = (h, replicated (TextHasColumns columns) n (chars next) k)

  -- ---- footnotes

  abbrev IsSafe : {A : Type 0} → List (Element A) → Type 0
  IsSafe es = Each (λ c. is_control c ≡ false) (characters es)

  unbroken_has : (c : ℕ) → is_control c ≡ false → columns (unbroken c) ≢ None
  unbroken_has c is = cond_both (c == newline_character) 32 c (λ d. columns d ≢ None) (λ e. shown_has 32 refl) (λ e. shown_has c is)

  note_has : {A : Type 0} (es : List (Element A)) → IsSafe es → ItemsHaveColumns columns (footnote_items es)
  note_has [] h = tt
  note_has (piece cs a ∷ es) h =
      each_append (ItemHasColumns columns) _ (footnote_items es)
      (text_has columns (map unbroken cs) (a ∷ []) (each_map unbroken (λ c. is_control c ≡ false) (λ c. columns c ≢ None) unbroken_has cs (each_front (λ c. is_control c ≡ false) cs
      (characters es) h)))
      (note_has es (each_back (λ c. is_control c ≡ false) cs (characters es) h))
  note_has (marker_element name ∷ es) h = note_has es h

  -- ---- the text of lines

  items_safe : {T : Type 0} (is : List (Item T)) → ItemsHaveColumns columns is → Each (λ c. c ≢ newline_character → is_control c ≡ false) (item_characters is)
  items_safe [] h = tt
  items_safe (glyph c tag ∷ is) h = ((λ other. has_shown c h.0), items_safe is h.1)
  items_safe (marker name ∷ is) h = items_safe is h.1

  lines_safe : {T : Type 0} (lines : List (Line T)) → LinesHaveColumns columns lines → Each (λ c. c ≢ newline_character → is_control c ≡ false) (lines_text lines)
  lines_safe [] h = tt
  lines_safe (line ∷ lines) h =
      let front = item_characters (items_shown line) in
      each_append (λ c. c ≢ newline_character → is_control c ≡ false) (front ++ newline_character ∷ []) (lines_text lines)
      (each_append (λ c. c ≢ newline_character → is_control c ≡ false) front (newline_character ∷ []) (items_safe (items_shown line) h.0) ((λ other. absurd (other refl)), tt))
      (lines_safe lines h.1)

  module _ {D M : Type 0} (decoration : Decoration D M) (safe_notes : (d : D) (targets : List (List ℕ)) → Each IsSafe (decoration.footnotes d (map escaped targets))) where
    abbrev Top : Type 0
    Top = Renderer D M (List M)

    abbrev Has : Top → Type 0
    Has r = RendererHasColumns columns r

    abbrev All : Holds columns decoration
    All rs cells levels = Each Has rs × Each (λ (c : Top × ℕ). Has c.0) cells × Each (λ (o : Opened D M (List M)). Each (λ (c : Top × ℕ). Has c.0) (let w = o.below in w.cells)) levels

    abbrev Ends : Command → Top → Type 0
    Ends (append first next) r = TextHasColumns columns (chars first) × TextHasColumns columns (chars next)
    Ends other r = Unit {0}

    -- ---- commands

    own_has : (c : Call (List M)) → TakesNoLines columns decoration c → CallHasColumns columns c
    own_has (append_subrender prefixes lines) h = absurd h
    own_has (append_vert_row cells) h = absurd h
    own_has other h = tt

    takes_such : (act : Act M) (cells : List (Top × ℕ)) → TakesCells columns decoration cells act → Each (λ (c : Top × ℕ). Has c.0) cells → ActHasColumns columns act
    takes_such (row_of_cells collapse given) cells into h =
        zip_gives (λ (c : Top × ℕ). Has c.0) (GivesCell columns decoration) (GivenHasColumns columns) (λ c g gives has. handed_have columns draws c.0 g.lines has gives.1) cells given into h
    takes_such (call (append_vert_row lines)) cells into h =
        zip_gives (λ (c : Top × ℕ). Has c.0) (HandsOut columns decoration) (LinesHaveColumns columns) (λ c ls gives has. handed_have columns draws c.0 ls has gives) cells lines into h
    takes_such other cells into h = absurd into

    walk : Walk columns decoration (Unit {0}) (λ by width. Unit {0}) Ends All All
    walk = record {
      ready = λ rs cells levels h. (each_any _ (any_ready columns decoration) rs, each_any _ (λ c. any_ready columns decoration c.0) cells);
      kept = λ rs cells levels h. h;
      called = λ c r s rs cells levels own does h. ((call_keeps columns draws decoration c r s (own_has c own) does h.0.0, h.0.1), h.1, h.2);
      opens = λ by width r rs left levels asked h. (((tt, tt), h.0), tt, (h.1, h.2));
      joins = λ first next lines inside r s rs left levels ends gives does h.
          let more = append_subrender (prefixes first next (length lines)) lines in (
            (
              call_keeps columns draws decoration more r s
                  (prefixes_have first next (length lines) ends.0 ends.1, handed_have columns draws inside lines h.0.0 gives) does h.0.1.0,
              h.0.1.1,
            ),
            h.2.0,
            h.2.1,
          );
      waits = λ span align inside rs left levels ends h. (h.0.1, each_append (λ (c : Top × ℕ). Has c.0) left.cells ((inside, span) ∷ []) h.2.0 (h.0.0, tt), h.2.1);
      takes = λ act r s rs cells levels into does h. ((act_has columns draws decoration act r s (takes_such act cells into h.1) does h.0.0, h.0.1), tt, h.2);
    }

    asks_any : (command : Command) → Asks columns decoration (λ by width. Unit {0}) command
    asks_any (sub width) = tt
    asks_any (cell width span align) = tt
    asks_any other = tt

    safe_ends : (line : List ℕ) (command : Command) (r : Top) → IsCommand line command → Ends (safe_command command) r
    safe_ends line (append first next) r is = let (one, other) = prefixes_utf8 line first next is in (prefix_has first one, prefix_has next other)
    safe_ends line other r is = tt

    line_keeps : (number : ℕ) (line : List ℕ) (p next : Progress D M (List M)) → after_shown_line columns decoration false number line p ≡ Ok next → At columns decoration All p →
        At columns decoration All next
    line_keeps number [] p next does h = subst (At columns decoration All) (let same : p ≡ next = cc in same) h
    line_keeps number (b ∷ bs) p next does h = go (command_read (b ∷ bs)) (read_command (b ∷ bs)) does
      where
        go : (read : Option Command) → ((command : Command) → read ≡ Some command → IsCommand (b ∷ bs) command) → after_shown_read columns decoration false number read p ≡ Ok next →
            At columns decoration All next
        go None reads is = absurd (let no : ⊥ = cc is in no)
        go (Some command) reads is =
            subst (Meets (Unit {0}) (At columns decoration All)) is
            (command_meets columns decoration (Unit {0}) (λ by width. Unit {0}) Ends All All walk number p (safe_command command) (asks_any (safe_command command))
            (λ ends r top. safe_ends (b ∷ bs) command r (reads command refl)) h)

    -- ---- the end

    started_has : (r : Top) → Has r → Has (block_started columns r)
    started_has r k = cond_both (has_content r) (with_empty_line columns r) (record r { block_ended = false }) Has (λ e. line_put columns draws r [] tt k) (λ e. k)

    noted_has : (notes : List (List (Element M))) (r : Top) → Each IsSafe notes → Has r → Has (with_notes columns notes r)
    noted_has [] r h k = k
    noted_has (note ∷ notes) r h k =
        let q : Top = block_started columns r in
        let has = each_gives IsSafe (λ es. ItemsHaveColumns columns (footnote_items es)) note_has (note ∷ notes) h in
        lines_put columns draws _ q (footnotes_have columns draws q (note ∷ notes) has) (started_has r k)

    closed_has : (targets : List (List ℕ)) (r : Top) (text : List ℕ) → Has r → closed_text columns decoration (map escaped targets) r ≡ done text → HasNoControls text
    closed_has targets r text k h =
        let all = map escaped targets in
        let notes = footnotes_of columns decoration all r in
        let (lines, made, is) = done_before (λ ls. encode_utf8_all (lines_text ls)) (lines_closed columns decoration all r) text h in
        let (s, ended, are) = done_before (λ (q : Top). let t = with_notes columns notes q in t.lines) (after_flush columns (finalised columns decoration all r)) lines made in
        let left = flush_keeps columns draws (finalised columns decoration all r) s r.block (flushes columns (finalised columns decoration all r) s ended) k in
        let safe : Each IsSafe notes = cond_both r.options.include_link_footnotes all [] (λ ts. Each IsSafe (decoration.footnotes r.decorator ts)) (λ e. safe_notes r.decorator targets)
        (λ e. safe_notes r.decorator []) in
        (lines_text lines, is, subst (λ ls. Each (λ c. c ≢ newline_character → is_control c ≡ false) (lines_text ls)) (sym are) (lines_safe _ (noted_has notes s safe left).0))

    -- the first line is done, and the others give the text
    shown_parts : (number : ℕ) (made : Result (Progress D M (List M)) RunError) (lines : List (List ℕ)) (text : List ℕ)
        → unless_refused (shown_on false columns decoration (number + 1) lines) made ≡ Ok text →
        (next : Progress D M (List M)) × (made ≡ Ok next) × (shown_on false columns decoration (number + 1) lines next ≡ Ok text)
    shown_parts number (Ok next) lines text is = (next, refl, is)
    shown_parts number (Err e) lines text is = absurd (let no : ⊥ = cc is in no)

    given_by : (number : ℕ) (lines : List (List ℕ)) (p : Progress D M (List M)) (text : List ℕ) → shown_on false columns decoration number lines p ≡ Ok text → At columns decoration All p →
        HasNoControls text
    given_by number [] p text h k =
        let (r, top, gives, none, no_cell) = at_end columns decoration number (shown_links false p) text h in
        closed_has _ r text (first_led columns decoration Has p.stack.levels r top (each_unmap (λ l. l.renderer) _ Has (λ l is. is) p.stack.levels k.0)) gives
    given_by number (line ∷ lines) p text h k =
        let (next, does, others) = shown_parts number (after_shown_line columns decoration false number line p) lines text h in
        given_by (number + 1) lines next text others (line_keeps number line p next does k)

    begun_by : (opening : Opening) (decorator : D) (number : ℕ) (lines : List (List ℕ)) (text : List ℕ) → shown_on false columns decoration number lines (started opening decorator) ≡ Ok text →
        HasNoControls text
    begun_by opening decorator number lines text h = given_by number lines (started opening decorator) text h (((tt, tt), tt), tt, tt)

  under : (decorator : Decorator) (opening : Opening) (number : ℕ) (lines : List (List ℕ)) (text : List ℕ) → shown_under false columns decorator opening number lines ≡ Ok text → HasNoControls text
  under Plain opening number lines text h = begun_by plain_decoration (λ d targets. footnotes_are _ 1 targets) opening (record {}) number lines text h
  under Trivial opening number lines text h = begun_by trivial_decoration (λ d targets. footnotes_are _ 1 targets) opening (record {}) number lines text h
  under Rich opening number lines text h = begun_by rich_decoration (λ d targets. footnotes_are _ 1 targets) opening (record {}) number lines text h

  from : (number : ℕ) (lines : List (List ℕ)) (text : List ℕ) → shown_from false columns number lines ≡ Ok text → HasNoControls text
  from number [] text h = cc
  from number ([] ∷ lines) text h = from (number + 1) lines text h
  from number ((b ∷ bs) ∷ lines) text h = go (opening_read (b ∷ bs)) h
    where
      go : (read : Option Opening) → shown_by false columns read number lines ≡ Ok text → HasNoControls text
      go None is = cc
      go (Some opening) is = under opening.decorator opening (number + 1) lines text is

  pub none_shown : (script text : List ℕ) → shown false columns script ≡ Ok text → HasNoControls text
  none_shown script text h = from 1 (lines_of script) text h
