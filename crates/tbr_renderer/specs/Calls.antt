-- The calls that change a renderer.
use Rattle.std.specs.Prelude.{◌≡◌, ◌≢◌, ◌≤◌, ℕ, suc, ◌-◌, Bool, true, if◌then◌else◌, Option, None, Some, Result, Err, OnOk, OnErr, IfErr, List, [], ◌∷◌, ◌++◌, map, flat_map}
use Rattle.std.specs.List.{AllZip}
use Rattle.tbr_model.specs.Hard.{IsShown, visible_glyphs, visible_entries}
use Rattle.tbr_model.specs.declared.white_space.WhiteSpace.{WhiteSpace}
use Rattle.tbr_model.specs.declared.white_space.WhiteSpace.TheVariants.{Pre}
use Rattle.tbr_model.specs.Rule.{entry}
use Rattle.tbr_model.specs.Run.{Entry, character, marker_entry, Item, glyph, marker}
use Rattle.tbr_model.specs.Layout.{joined}
use Rattle.tbr_tagged.specs.declared.Error.{Error}
use Rattle.tbr_tagged.specs.declared.Error.TheVariants as E
use Rattle.tbr_decor.specs.declared.colour.Colour.{Colour}
use Rattle.tbr_decor.specs.Decoration.{Decoration}
use Rattle.tbr_decor.specs.Start as start
use Rattle.tbr_decor.specs.End as end
use Rattle.tbr_decor.specs.Ground.{Ground}
use Rattle.tbr_kept_lines.specs.Line.{Line, text, border}
use Rattle.tbr_renderer.specs.Renderer.{Renderer, Kept, kept_of, block_columns, open_run, with_events, entries_of, ignores}
use Rattle.tbr_kept_lines.specs.LastBorder.{without_last}
use Rattle.tbr_tagged.specs.Outcome.{Outcome, done, refused, if_live}
use Rattle.std.specs.Cmp.Lexicographic.{pointwise}
use Rattle.tbr_renderer.specs.Outcomes.{and_then, run, taking, told}
use Rattle.tbr_renderer.specs.Flush.{after_flush}
use Rattle.tbr_renderer.specs.Steps.{after_empty_line, after_block_start, after_break, after_text}
use Rattle.tbr_renderer.specs.Appended.{as_text, prefixed, after_border, after_lines, after_cells}
use Rattle.tbr_renderer.specs.Rows.{GivenCell, row_made}
use Rattle.tbr_renderer.specs.Image.{shown_title}
use Rattle.tbr_renderer.specs.Decorated.{struck_until, asked_to_close, annotated, coloured, uncoloured, after_start, after_end, after_strikeout_start, after_strikeout_end, after_image}

-- A call with its arguments. Texts are by their characters, markers by their names, and images by source and title.
-- Another renderer is by the lines that it hands out, which are under a `T`. Strikeouts begin and end by calls of their
-- own.
pub data Call (T : Type 0) : Type 0 where
  add_empty_line : Call T
  new_line : Call T
  new_line_hard : Call T
  start_block : Call T
  start_table : Call T
  end_block : Call T
  add_inline_text : List ℕ → Call T
  push_ws : WhiteSpace → Call T
  pop_ws : Call T
  push_preformat : Call T
  pop_preformat : Call T
  record_frag_start : List ℕ → Call T
  begin : start.Start → Call T
  finish : end.End → Call T
  start_strikeout : Call T
  end_strikeout : Call T
  add_image : List ℕ → List ℕ → Call T
  push_colour : Ground → Colour → Call T
  pop_colour : Ground → Call T
  add_border : ℕ → Call T
  append_subrender : List (List ℕ) → List (Line T) → Call T
  append_vert_row : List (List (Line T)) → Call T

-- laid items as entries that stand for them, under no annotation but their own
abbrev pub laid_entry : {T : Type 0} → Item T → Entry T
laid_entry (glyph c tag) = character c tag tag Pre
laid_entry (marker name) = marker_entry name

abbrev pub laid_entries : {T : Type 0} → List (Item T) → List (Entry T)
laid_entries is = map laid_entry is

-- What a contract sees of a renderer: its state, the refusal that it keeps, and what of it stays where a call refuses.
-- The others are what each call makes of a state that hasn't failed.
pub record CallsOf (T S V : Type 0) : Type 0 where
  pub state : S → V
  pub failure : V → Option Error
  pub kept_of : V → Kept
  pub add_empty_line : V → Outcome V
  pub new_line : V → Outcome V
  pub new_line_hard : V → Outcome V
  pub start_block : V → Outcome V
  pub end_block : V → V
  pub add_inline_text : List ℕ → V → Outcome V
  pub push_ws : WhiteSpace → V → Outcome V
  pub pop_ws : V → V
  pub push_preformat : V → Outcome V
  pub pop_preformat : V → V
  pub record_frag_start : List ℕ → V → Outcome V
  pub begin : start.Start → V → Outcome V
  pub finish : end.End → V → Outcome V
  pub start_strikeout : V → Outcome V
  pub end_strikeout : V → Outcome V
  pub add_image : List ℕ → List ℕ → V → Outcome V
  pub push_colour : Ground → Colour → V → Outcome V
  pub pop_colour : Ground → V → V
  pub add_border : ℕ → V → Outcome V
  pub append_subrender : List (List ℕ) → List (Line T) → V → Outcome V
  pub append_vert_row : List (List (Line T)) → V → Outcome V
  pub append_row : Bool → List (GivenCell T) → V → Outcome V

-- what a call makes of a state that hasn't failed
abbrev pub made_by : {T S V : Type 0} → CallsOf T S V → Call T → V → Outcome V
made_by calls add_empty_line v = calls.add_empty_line v
made_by calls new_line v = calls.new_line v
made_by calls new_line_hard v = calls.new_line_hard v
made_by calls start_block v = calls.start_block v
made_by calls start_table v = calls.start_block v
made_by calls end_block v = done (calls.end_block v)
made_by calls (add_inline_text cs) v = calls.add_inline_text cs v
made_by calls (push_ws mode) v = calls.push_ws mode v
made_by calls pop_ws v = done (calls.pop_ws v)
made_by calls push_preformat v = calls.push_preformat v
made_by calls pop_preformat v = done (calls.pop_preformat v)
made_by calls (record_frag_start name) v = calls.record_frag_start name v
made_by calls (begin opened) v = calls.begin opened v
made_by calls (finish closed) v = calls.finish closed v
made_by calls start_strikeout v = calls.start_strikeout v
made_by calls end_strikeout v = calls.end_strikeout v
made_by calls (add_image source title) v = calls.add_image source title v
made_by calls (push_colour g colour) v = calls.push_colour g colour v
made_by calls (pop_colour g) v = done (calls.pop_colour g v)
made_by calls (add_border width) v = calls.add_border width v
made_by calls (append_subrender prefixes lines) v = calls.append_subrender prefixes lines v
made_by calls (append_vert_row cells) v = calls.append_vert_row cells v

-- what a step makes of any state: one that has failed gives its refusal again
abbrev pub after_step : {T S V X : Type 0} → CallsOf T S V → (V → Outcome X) → V → Outcome X
after_step calls step v = if_live (calls.failure v) (step v)

-- and so a call
abbrev pub after_by : {T S V : Type 0} → CallsOf T S V → Call T → V → Outcome V
after_by calls call = after_step calls (made_by calls call)

module _ {D A : Type 0} (columns : ℕ → Option ℕ) (decoration : Decoration D A) where
  -- the calls of a renderer
  abbrev pub calls_by : CallsOf (List A) (Renderer D A (List A)) (Renderer D A (List A))
  calls_by = record {
    state = λ r. r;
    failure = λ r. r.failure;
    kept_of = λ r. kept_of r;
    add_empty_line = after_empty_line columns;
    new_line = after_flush columns;
    new_line_hard = after_break columns;
    start_block = after_block_start columns;
    end_block = λ r. record r { block_ended = true };
    add_inline_text = after_text columns decoration.preformatted;
    push_ws = λ mode r. done (record r { modes = r.modes ++ mode ∷ [] });
    pop_ws = λ r. record r { modes = without_last r.modes };
    push_preformat = λ r. done (record r { preformatted = suc r.preformatted });
    pop_preformat = λ r. record r { preformatted = r.preformatted - 1 };
    record_frag_start = λ name r. done (with_events r (entry (marker_entry name) ∷ []));
    begin = after_start columns decoration;
    finish = after_end columns decoration;
    start_strikeout = after_strikeout_start columns decoration;
    end_strikeout = after_strikeout_end columns decoration;
    add_image = after_image columns decoration;
    push_colour = λ g colour r. done (coloured decoration g colour r);
    pop_colour = λ g r. uncoloured decoration g r;
    add_border = after_border columns;
    append_subrender = after_lines columns;
    append_vert_row = after_cells columns;
    append_row = row_made (pointwise decoration.same) columns;
  }

  -- what a call makes of a renderer that hasn't failed, and of any
  abbrev pub made : Call (List A) → Renderer D A (List A) → Outcome (Renderer D A (List A))
  made = made_by calls_by

  abbrev pub after : Call (List A) → Renderer D A (List A) → Outcome (Renderer D A (List A))
  after = after_by calls_by

  -- What a call that succeeds leaves.
  abbrev pub Does : Call (List A) → Renderer D A (List A) → Renderer D A (List A) → Type 0
  Does call r s = after call r ≡ done s

  -- Where a call answers `TooNarrow`.
  abbrev pub IsTooNarrow : Call (List A) → Renderer D A (List A) → Type 0
  IsTooNarrow call r = after call r ≡ refused E.TooNarrow

  -- What calls leave, one after another.
  abbrev pub Steps : List (Call (List A)) → Renderer D A (List A) → Renderer D A (List A) → Type 0
  Steps calls r s = run after calls r ≡ done s

  -- the entries that a text brings to the open run
  abbrev pub text_brought : List ℕ → Renderer D A (List A) → List (Entry (List A))
  text_brought cs r = if ignores r cs then [] else entries_of columns decoration.preformatted r cs

  -- the entries that an image with this title brings, and none where no title is shown
  abbrev pub image_brought : List ℕ → Option (List ℕ) → Renderer D A (List A) → List (Entry (List A))
  image_brought source None r = []
  image_brought source (Some title) r =
      let image = start.image source title in
      text_brought (decoration.start_text r.decorator image) (annotated decoration image r)

  -- the entries that a call brings: to the open run, or laid ones of other renderers to the lines
  abbrev pub entries_brought : Call (List A) → Renderer D A (List A) → List (Entry (List A))
  entries_brought (add_inline_text cs) r = text_brought cs r
  entries_brought (record_frag_start name) r = marker_entry name ∷ []
  entries_brought (begin opened) r =
      text_brought (decoration.start_text r.decorator opened) (annotated decoration opened r)
  entries_brought (finish closed) r =
      text_brought (decoration.end_text r.decorator closed) (asked_to_close decoration closed r)
  entries_brought start_strikeout r =
      text_brought (decoration.start_text r.decorator start.strikeout) (annotated decoration start.strikeout r)
  entries_brought end_strikeout r =
      let struck = struck_until r in
      text_brought (decoration.end_text struck.decorator end.strikeout) (asked_to_close decoration end.strikeout struck)
  entries_brought (add_image source title) r = image_brought source (shown_title r.options.img_mode source title) r
  entries_brought (append_subrender prefixes lines) r = laid_entries (joined (prefixed r.annotations prefixes lines))
  entries_brought (append_vert_row cells) r = laid_entries (joined (flat_map (map (as_text r.annotations)) cells))
  entries_brought other r = []

  -- the entries that calls bring, one after another
  abbrev pub brought : List (Call (List A)) → Renderer D A (List A) → List (Entry (List A))
  brought calls r = told entries_brought after calls r

  -- What calls leave, and the entries that they bring.
  abbrev pub Brings :
      List (Call (List A)) → Renderer D A (List A) → List (Entry (List A)) → Renderer D A (List A) → Type 0
  Brings calls r es s = Steps calls r s × (es ≡ brought calls r)

-- the items of the lines of text
abbrev pub text_of_lines : {T : Type 0} → List (Line T) → List (Item T)
text_of_lines [] = []
text_of_lines (text is ∷ ls) = is ++ text_of_lines ls
text_of_lines (border b ∷ ls) = text_of_lines ls

-- The lines show the visible characters of the entries, but for those of the open run, once and in order, each under an
-- annotation of its call.
pub record Shows {D A : Type 0} (columns : ℕ → Option ℕ) (r : Renderer D A (List A))
    (es : List (Entry (List A))) : Type 0 where
  pub ended : List (Entry (List A))
  pub shown : AllZip (IsShown (λ a b. a ≡ b))
      (visible_glyphs columns (text_of_lines r.lines)) (visible_entries columns ended)
  pub whole : visible_entries columns (ended ++ open_run r.block) ≡ visible_entries columns es

-- ---- what a call answers

-- its kept refusal
abbrev pub failure_in : {T S V : Type 0} → CallsOf T S V → S → Option Error
failure_in calls r = calls.failure (calls.state r)

-- It hasn't failed.
abbrev pub IsLive : {T S V : Type 0} → CallsOf T S V → S → Type 0
IsLive calls r = failure_in calls r ≡ None

-- what is kept of it where a call refuses
abbrev pub kept_in : {T S V : Type 0} → CallsOf T S V → S → Kept
kept_in calls r = calls.kept_of (calls.state r)

-- It hasn't failed, and its blocks have two columns or more.
abbrev pub IsWide : {T S V : Type 0} → CallsOf T S V → S → Type 0
IsWide calls r = IsLive calls r × (2 ≤ block_columns (kept_in calls r))

-- A step leads from one renderer to another.
abbrev pub Leads : {T S V : Type 0} → CallsOf T S V → (V → Outcome V) → S → S → Type 0
Leads calls step r s = after_step calls step (calls.state r) ≡ done (calls.state s)

-- It is too narrow for a flush, or others are for what they give after that.
abbrev pub TakesNone : {T S V X : Type 0} → CallsOf T S V → Outcome X → S → Type 0
TakesNone calls given r = and_then (after_step calls calls.new_line (calls.state r)) (λ _. given) ≡ refused E.TooNarrow

-- A call that refuses leaves a renderer failed with what it answers. One that had failed answers its refusal and stays
-- as it is.
abbrev pub KeepsFailure : {S R : Type 0} → (S → Option Error) → S → Result R Error → S → Type 0
KeepsFailure failure old result new =
    IfErr result (λ e. failure new ≡ Some e) × ((e : Error) → failure old ≡ Some e → (result ≡ Err e) × (new ≡ old))

-- So it does, and that is kept of the renderer which later calls ask for.
pub record Fails {T S V R : Type 0} (calls : CallsOf T S V) (old : S) (result : Result R Error) (new : S) :
    Type 0 where
  pub refusal : KeepsFailure (failure_in calls) old result new
  pub kept : OnErr result (kept_in calls new ≡ kept_in calls old)

-- What a call answers and leaves, where this is its outcome. It is `Ok` only where it leaves what the outcome is, and
-- `TooNarrow` only where the outcome is that, which it never is where all is wide. Else it is `OutOfMemory`.
pub record AnswersAs {T S V R : Type 0} (calls : CallsOf T S V) (outcome : Outcome V) (all_is_wide : Type 0) (old : S)
    (result : Result R Error) (new : S) : Type 0 where
  pub ok : OnOk result (outcome ≡ done (calls.state new))
  pub too_narrow : result ≡ Err E.TooNarrow → outcome ≡ refused E.TooNarrow
  pub two_columns : all_is_wide → result ≢ Err E.TooNarrow
  pub fails : Fails calls old result new

-- So it does where a step is its outcome.
abbrev pub Answers : {T S V R : Type 0} → CallsOf T S V → (V → Outcome V) → S → Result R Error → S → Type 0
Answers calls step old = AnswersAs calls (after_step calls step (calls.state old)) (IsWide calls old) old

-- And so where the open line is ended, and then taken what others give.
abbrev pub Takes : {T S V X R : Type 0} → CallsOf T S V → Outcome X → Type 0 → (X → V → Outcome V) → S
    → Result R Error → S → Type 0
Takes calls given others_are_wide take old =
    AnswersAs calls
    (taking (after_step calls calls.new_line) given (λ x. after_step calls (take x)) (calls.state old))
    (IsWide calls old × others_are_wide) old

-- What a call leaves that can't refuse: of one that had failed nothing is changed.
pub record Leaves {T S V : Type 0} (calls : CallsOf T S V) (step : V → V) (old new : S) : Type 0 where
  pub live : IsLive calls old → calls.state new ≡ step (calls.state old)
  pub failed : (e : Error) → failure_in calls old ≡ Some e → new ≡ old
