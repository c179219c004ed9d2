-- What lines do that are in a table which finds its widths: they are recorded, and drawn at its end.
use Rattle.std.specs.Prelude.{◌≡◌, ◌⊎◌, ℕ, Bool, true, false, Option, None, Some, Result, Ok, List, [], ◌∷◌, ◌++◌, string_bytes}
use Rattle.tbr_model.specs.Width.{width_of_text}
use Rattle.tbr_tagged.specs.View.{chars_of}
use Rattle.tbr_decor.specs.Decoration.{Decoration}
use Rattle.tbr_renderer.specs.Renderer.{Renderer}
use Rattle.tbr_renderer.specs.declared.options.RenderOptions.{RenderOptions}
use Rattle.tbr_stack.specs.Stack.{top_of}
use Rattle.tbr_script.specs.declared.error.RunError.{RunError}
use Rattle.tbr_script.specs.declared.text_pair.TextPair.{TextPair}
use Rattle.tbr_commands.specs.declared.command.Command as declared
use Rattle.tbr_commands.specs.declared.command.Command.TheVariants as asked
use Rattle.tbr_commands.specs.declared.opening.Decorator.{Decorator}
use Rattle.tbr_commands.specs.declared.request.layout.Layout.TheVariants.{StartBlock, EndBlock}
use Rattle.tbr_commands.specs.Request.{layout}
use Rattle.tbr_commands.specs.Command.{Command, ask, append, command_of}
use Rattle.tbr_program.specs.Progress.{Progress}
use Rattle.tbr_program.specs.Commands.{after_command}
use Rattle.tbr_tables.specs.declared.step.Step.TheVariants as step
use Rattle.tbr_tables.specs.declared.drawn.Drawn.{Drawn}
use Rattle.tbr_tables.specs.Recorded.{calls_in}
use Rattle.tbr_recorded.specs.Texts.{noted}
use Rattle.tbr_recorded.specs.Script.{TableScript, nothing, with_bare, with_command}
use Rattle.tbr_recorded.specs.Drawn.{after_each, after_one, drawn_by}
use Rattle.tbr_statements.specs.declared.block.Block.{Block}
use Rattle.tbr_statements.specs.declared.level.Level.{Level}
use Rattle.tbr_statements.specs.declared.level.Opener.{Opener}
use Rattle.tbr_statements.specs.declared.level.Opener.TheVariants.{Table, InnerTable, TableCell, Block as OfBlock}
use Rattle.tbr_statements.specs.declared.statement.Statement.{Statement}
use Rattle.tbr_statements.specs.declared.statement.Statement.TheVariants as statement
use Rattle.tbr_statements.specs.Block.{prefix_of, other_prefix, stands_apart, end_of}
use Rattle.tbr_view.specs.declared.session.Tables.{Tables}
use Rattle.tbr_view.specs.Session.{State, state_of, opened_by}

-- ---- where a script is

-- Where the program and the levels are, and what is recorded.
pub record Place (D M : Type 0) : Type 0 where
  pub state : State D M
  pub tables : Tables

abbrev pub place_of : {D A : Type 0} → Progress D A (List A) → List Level → Tables → Place D A
place_of program levels tables = record { state = state_of program levels; tables = tables }

-- no table is open, and no link has begun
abbrev pub no_tables : Decorator → RenderOptions → Tables
no_tables decorator options = record {
  texts = record { decorator = decorator; options = options; links = 0 };
  current = None;
}

-- the link that a command begins is counted, if it begins one
abbrev pub counted : declared.Command → Tables → Tables
counted command tables = record tables { texts = noted (command_of command) tables.texts }

-- this is recorded of the table that is open
abbrev pub kept : TableScript → Tables → Tables
kept table tables = record tables { current = Some table }

-- ---- what is recorded

module _ (columns : ℕ → Option ℕ) where
  -- a command in a cell, or the end of the cell, or of a row
  abbrev pub with_given : declared.Command → TableScript → TableScript
  with_given asked.EndCell table = with_bare columns step.EndCell table
  with_given (asked.Row collapse) table = with_bare columns step.Row table
  with_given other table = with_command columns (command_of other) table

  -- a command, if it is asked for
  abbrev pub with_if : Bool → Command → TableScript → TableScript
  with_if true command table = with_command columns command table
  with_if false command table = table

  -- a block that opens after a prefix, after an empty line if it stands apart
  abbrev pub with_block : Block → TextPair → TableScript → TableScript
  with_block block texts table =
      with_bare columns (step.Inside (width_of_text columns (chars_of texts.first)))
      (with_if (stands_apart block) (ask (layout StartBlock)) table)

  -- the block's end, and an empty line after it if it stands apart
  abbrev pub with_append : Block → TextPair → TableScript → TableScript
  with_append block texts table =
      with_if (stands_apart block) (ask (layout EndBlock))
      (with_command columns (append (string_bytes texts.first) (string_bytes texts.second)) table)

-- ---- what lines do

-- A line only records: it leaves these levels open, and this recorded.
pub record Records {D M : Type 0} (s : Place D M) (openers : List Opener) (table : TableScript) (t : Place D M) :
    Type 0 where
  pub program : t.state.program ≡ s.state.program
  pub levels : t.state.levels ≡ openers
  pub tables : t.tables ≡ kept table s.tables

-- a table begins in no other one
abbrev pub TableBegins : {D M : Type 0} → (ℕ → Option ℕ) → Place D M → Place D M → Type 0
TableBegins columns s t =
    Records s (s.state.levels ++ Table ∷ []) (with_bare columns step.Table (nothing s.tables.texts)) t

-- The innermost level is a block that this command ends.
pub record EndRecords {D M : Type 0} (columns : ℕ → Option ℕ) (s : Place D M) (by : List ℕ) (table : TableScript)
    (t : Place D M) : Type 0 where
  pub block : Block
  pub texts : TextPair
  pub levels : s.state.levels ≡ t.state.levels ++ OfBlock block texts ∷ []
  pub ends : end_of block ≡ by
  pub records : Records s t.state.levels (with_append columns block texts table) t

module _ {D M : Type 0} (columns : ℕ → Option ℕ) (decoration : Decoration D M) where
  -- what a command makes of a program; the number of its line tells refusals alone
  abbrev pub made : Command → Progress D M (List M) → Result (Progress D M (List M)) RunError
  made command p = after_command columns decoration 0 command p

  -- what a call that draws makes of it
  abbrev pub drawn_made : TableScript → Drawn → Progress D M (List M) → Result (Progress D M (List M)) RunError
  drawn_made table drawn p = after_one made (drawn_by table drawn) p

  abbrev pub width_of : Option (Renderer D M (List M)) → ℕ
  width_of None = 0
  width_of (Some top) = top.width

  -- what all calls make of it that draw a table, in the columns of the innermost level
  abbrev pub drawing : TableScript → Progress D M (List M) → Result (Progress D M (List M)) RunError
  drawing table p = after_each (drawn_made table) (calls_in (width_of (top_of p.stack)) table.recorded) p

  -- A block opens after a prefix of the decorator.
  pub record BlockRecords (s : Place D M) (block : Block) (table : TableScript) (t : Place D M) : Type 0 where
    pub top : Renderer D M (List M)
    pub is_top : top_of s.state.program.stack ≡ Some top
    pub texts : TextPair
    pub first : chars_of texts.first ≡ decoration.prefix_text top.decorator (prefix_of block)
    pub others : chars_of texts.second ≡ other_prefix columns block (chars_of texts.first)
    pub records : Records s (s.state.levels ++ OfBlock block texts ∷ []) (with_block columns block texts table) t

  -- A table ends that is in no other one, and is drawn.
  pub record TableDraws (s : Place D M) (table : TableScript) (t : Place D M) : Type 0 where
    pub levels : s.state.levels ≡ t.state.levels ++ Table ∷ []
    pub draws : drawing (with_bare columns step.EndTable table) s.state.program ≡ Ok t.state.program
    pub tables : t.tables ≡ record { texts = table.texts; current = None }

  -- A table ends in a cell of another one.
  pub record InnerEnds (s : Place D M) (table : TableScript) (t : Place D M) : Type 0 where
    pub levels : s.state.levels ≡ t.state.levels ++ InnerTable ∷ []
    pub records : Records s t.state.levels (with_bare columns step.EndTable table) t

  abbrev pub TableEnds : Place D M → TableScript → Place D M → Type 0
  TableEnds s table t = TableDraws s table t ⊎ InnerEnds s table t

  abbrev pub DoesInTable : Place D M → TableScript → Statement → Place D M → Type 0
  DoesInTable s table (statement.Command command) t =
      Records s (opened_by command s.state.levels) (with_given columns command table) t
  DoesInTable s table (statement.Open block) t = BlockRecords s block table t
  DoesInTable s table (statement.Close by) t = EndRecords columns s by.now table t
  DoesInTable s table statement.Table t =
      Records s (s.state.levels ++ InnerTable ∷ []) (with_bare columns step.Table table) t
  DoesInTable s table (statement.Cell cell) t =
      Records s (s.state.levels ++ TableCell ∷ []) (with_bare columns (step.Cell cell) table) t
  DoesInTable s table statement.EndTable t = TableEnds s table t
