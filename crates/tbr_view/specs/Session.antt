-- What commands and blocks of a script for people do.
use Rattle.std.specs.Prelude.{◌≡◌, ℕ, ◌-◌, ◌<◌, nat_lt, ◌&&◌, if◌then◌else◌, Bool, true, false, Option, None, Some, Ok, List, [], ◌∷◌, ◌++◌, map, take, length, string_bytes}
use Rattle.std.specs.List.{list_any}
use Rattle.tbr_model.specs.Width.{width_of_text}
use Rattle.tbr_tagged.specs.View.{chars_of}
use Rattle.tbr_rows.specs.Cells.{has_lines}
use Rattle.tbr_decor.specs.Decoration.{Decoration}
use Rattle.tbr_renderer.specs.Renderer.{Renderer}
use Rattle.tbr_stack.specs.Stack.{top_of}
use Rattle.tbr_script.specs.declared.text_pair.TextPair.{TextPair}
use Rattle.tbr_commands.specs.declared.command.Command as declared
use Rattle.tbr_commands.specs.declared.command.Command.TheVariants as asked
use Rattle.tbr_commands.specs.declared.request.layout.Layout.TheVariants.{StartBlock, EndBlock}
use Rattle.tbr_commands.specs.Request.{layout}
use Rattle.tbr_commands.specs.Command.{Command, ask, sub, append, command_of}
use Rattle.tbr_program.specs.Progress.{Progress}
use Rattle.tbr_program.specs.Commands.{after_command}
use Rattle.tbr_statements.specs.declared.block.Block.{Block}
use Rattle.tbr_statements.specs.declared.level.Level.{Level}
use Rattle.tbr_statements.specs.declared.level.Opener.{Opener}
use Rattle.tbr_statements.specs.declared.level.Opener.TheVariants.{Sub, Cell, Block as OfBlock}
use Rattle.tbr_statements.specs.declared.problem.Problem.{Problem}
use Rattle.tbr_statements.specs.declared.problem.Kind.TheVariants.{LinesLost, RowTooWide}
use Rattle.tbr_statements.specs.Problem.{IsOf}
use Rattle.tbr_statements.specs.Block.{prefix_of, other_prefix, stands_apart, end_of}
use Rattle.tbr_statements.specs.Level.{innermost, may_not_append}

-- ---- lines that are lost

-- whether a cell that overhangs in the innermost level has lines that no row has shown
abbrev pub lines_hang : {D A T : Type 0} → Option (Renderer D A T) → Bool
lines_hang None = false
lines_hang (Some r) = list_any has_lines r.hanging

abbrev pub loses : {D A T : Type 0} → Progress D A T → Bool
loses p = lines_hang (top_of p.stack)

-- A loss is told once, on the line of this number, with that of a cell that takes several rows.
abbrev pub TellsLoss : Bool → ℕ → Option ℕ → List Problem → List Problem → Type 0
TellsLoss false number cell lost more = more ≡ lost
TellsLoss true number cell lost more =
    (problem : Problem) × IsOf problem LinesLost number cell × (more ≡ lost ++ problem ∷ [])

-- ---- rows that are too wide

-- the columns that were set, if so many are more; 0 counts as none
abbrev pub less_than : ℕ → Option ℕ → Option ℕ
less_than columns None = None
less_than columns (Some width) = if nat_lt 0 width && nat_lt width columns then Some width else None

-- the same, if a command adds a row of so many columns
abbrev pub passed : Option ℕ → declared.Command → ℕ → Option ℕ
passed set (asked.Row collapse) columns = less_than columns set
passed set other columns = None

-- The first such row is told, on the line of this number. After it none is.
abbrev pub TellsRow : Option ℕ → ℕ → Option ℕ → Option ℕ → List Problem → List Problem → Type 0
TellsRow None number set left told more = (left ≡ set) × (more ≡ told)
TellsRow (Some width) number set left told more =
    (left ≡ None) × (problem : Problem) × IsOf problem RowTooWide number None × (more ≡ told ++ problem ∷ [])

-- ---- where a script is

-- where the program is, and what opened each level that is open, the innermost last
pub record State (D M : Type 0) : Type 0 where
  pub program : Progress D M (List M)
  pub levels : List Opener

abbrev pub openers : List Level → List Opener
openers levels = map (λ level. level.by) levels

abbrev pub state_of : {D A : Type 0} → Progress D A (List A) → List Level → State D A
state_of program levels = record { program = program; levels = openers levels }

-- ---- what commands and blocks do

-- what a command leaves open
abbrev pub opened_by : declared.Command → List Opener → List Opener
opened_by (asked.Sub width) levels = levels ++ Sub ∷ []
opened_by (asked.Cell cell) levels = levels ++ Cell ∷ []
opened_by (asked.Append prefixes) levels = take (length levels - 1) levels
opened_by asked.EndCell levels = take (length levels - 1) levels
opened_by other levels = levels

module _ {D M : Type 0} (columns : ℕ → Option ℕ) (decoration : Decoration D M) where
  -- A command leads from one program to another. The number of its line tells refusals alone.
  abbrev pub CommandDoes : Progress D M (List M) → Command → Progress D M (List M) → Type 0
  CommandDoes p command q = after_command columns decoration 0 command p ≡ Ok q

  -- It does, or isn't asked for.
  abbrev pub DoesIf : Bool → Progress D M (List M) → Command → Progress D M (List M) → Type 0
  DoesIf true p command q = CommandDoes p command q
  DoesIf false p command q = q ≡ p

  -- A command of `blockrender`. An `append` closes no block with a prefix.
  pub record Commands (s : State D M) (command : declared.Command) (t : State D M) : Type 0 where
    pub may : may_not_append command (innermost s.levels) ≡ false
    pub does : CommandDoes s.program (command_of command) t.program
    pub levels : t.levels ≡ opened_by command s.levels

  -- A block opens in the columns that its prefix leaves, after an empty line if it stands apart.
  pub record BlockOpens (s : State D M) (block : Block) (t : State D M) : Type 0 where
    pub top : Renderer D M (List M)
    pub is_top : top_of s.program.stack ≡ Some top
    pub texts : TextPair
    pub first : chars_of texts.first ≡ decoration.prefix_text top.decorator (prefix_of block)
    pub others : chars_of texts.second ≡ other_prefix columns block (chars_of texts.first)
    pub fits : width_of_text columns (chars_of texts.first) < top.width
    pub apart : Progress D M (List M)
    pub begins : DoesIf (stands_apart block) s.program (ask (layout StartBlock)) apart
    pub opens : CommandDoes apart
        (sub (top.width - width_of_text columns (chars_of texts.first))) t.program
    pub levels : t.levels ≡ s.levels ++ OfBlock block texts ∷ []

  -- The lines of a block go after its prefixes, and an empty line after them if it stands apart.
  pub record BlockAppends (p : Progress D M (List M)) (block : Block) (texts : TextPair)
      (q : Progress D M (List M)) : Type 0 where
    pub appended : Progress D M (List M)
    pub appends :
        CommandDoes p (append (string_bytes texts.first) (string_bytes texts.second)) appended
    pub ends : DoesIf (stands_apart block) appended (ask (layout EndBlock)) q

  -- The innermost level is a block that this command ends.
  pub record BlockCloses (s : State D M) (by : List ℕ) (t : State D M) : Type 0 where
    pub block : Block
    pub texts : TextPair
    pub levels : s.levels ≡ t.levels ++ OfBlock block texts ∷ []
    pub ends : end_of block ≡ by
    pub appends : BlockAppends s.program block texts t.program
