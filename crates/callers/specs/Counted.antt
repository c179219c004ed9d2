-- A renderer that counts characters, and shows none.
use Rattle.std.specs.Prelude.{ℕ, suc, ◌+◌, ◌-◌, Bool, false, if◌then◌else◌, Option, None, Some, List, [], ◌∷◌, length, take, replicate}
use Rattle.tbr_model.specs.Run.{glyph}
use Rattle.tbr_model.specs.Codes.{space_character}
use Rattle.tbr_tagged.specs.Outcome.{Outcome, done, if_live}
use Rattle.tbr_tagged.specs.declared.Error.{Error}
use Rattle.tbr_tagged.specs.declared.Error.TheVariants as E
use Rattle.text_block_renderer.specs.Line.{Line, text, border}
use Rattle.text_block_renderer.specs.Options.{default_options}
use Rattle.text_block_renderer.specs.Renderer.{Kept}
use Rattle.text_block_renderer.specs.Rows.{GivenCell}
use Rattle.text_block_renderer.specs.Calls.{CallsOf}

-- Its columns, what it has counted, how many preformatted stretches are open, and whether a count has passed `usize`.
pub record Counted : Type 0 where
  pub width : ℕ
  pub characters : ℕ
  pub preformatted : ℕ
  pub failed : Bool

-- nothing counted
abbrev pub nothing_counted : ℕ → Counted
nothing_counted width = record { width = width; characters = 0; preformatted = 0; failed = false }

-- so many characters more
abbrev pub with_more : ℕ → Counted → Counted
with_more n c = record c { characters = c.characters + n }

-- a sum over all of a list
abbrev pub sum_of : {X : Type 0} → (X → ℕ) → List X → ℕ
sum_of count [] = 0
sum_of count (x ∷ xs) = count x + sum_of count xs

-- ---- characters of lines

-- without annotations; a border has none
abbrev pub in_line : Line (Unit {0}) → ℕ
in_line (text is) = length is
in_line (border b) = 0

abbrev pub in_lines : List (Line (Unit {0})) → ℕ
in_lines lines = sum_of in_line lines

-- those of cells side by side
abbrev pub in_row : List (GivenCell (Unit {0})) → ℕ
in_row cells = sum_of (λ cell. in_lines cell.lines) cells

-- ---- what a contract sees

-- its one line has as many characters as it has counted
abbrev pub one_line : Counted → List (Line (Unit {0}))
one_line c = text (replicate c.characters (glyph space_character tt)) ∷ []

abbrev pub failure : Counted → Option Error
failure c = if c.failed then Some E.OutOfMemory else None

abbrev pub handed_out : Counted → Outcome (List (Line (Unit {0})))
handed_out c = if_live (failure c) (done (one_line c))

abbrev pub kept_of : Counted → Kept
kept_of c = record {
  width = c.width;
  options = record default_options { use_unicode_strikeout = false };
  modes = [];
  strikeouts = 0;
  preformatted = c.preformatted;
}

-- Texts, titles of images and the lines of others are counted, of prefixed ones as many as there are prefixes, and of
-- rows those of all cells.
abbrev pub calls : CallsOf (Unit {0}) Counted Counted
calls = record {
  state = λ c. c;
  failure = failure;
  kept_of = kept_of;
  add_empty_line = done;
  new_line = done;
  new_line_hard = done;
  start_block = done;
  end_block = λ c. c;
  add_inline_text = λ cs c. done (with_more (length cs) c);
  push_ws = λ mode c. done c;
  pop_ws = λ c. c;
  push_preformat = λ c. done (record c { preformatted = suc c.preformatted });
  pop_preformat = λ c. record c { preformatted = c.preformatted - 1 };
  record_frag_start = λ name c. done c;
  begin = λ opened c. done c;
  finish = λ closed c. done c;
  start_strikeout = done;
  end_strikeout = done;
  add_image = λ source title c. done (with_more (length title) c);
  push_colour = λ g colour c. done c;
  pop_colour = λ g c. c;
  add_border = λ width c. done c;
  append_subrender = λ prefixes lines c. done (with_more (in_lines (take (length prefixes) lines)) c);
  append_vert_row = λ cells c. done (with_more (sum_of in_lines cells) c);
  append_row = λ collapse cells c. done (with_more (in_row cells) c);
}
