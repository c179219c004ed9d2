-- What a script for people does, line after line.
use Rattle.std.specs.Prelude.{◌≡◌, ◌⊎◌, ℕ, true, false, Option, None, Some, List, [], ◌∷◌}
use Rattle.tbr_decor.specs.Decoration.{Decoration}
use Rattle.tbr_tagged.specs.Outcome.{done}
use Rattle.tbr_kept_lines.specs.Line.{Line}
use Rattle.tbr_stack.specs.Top.{OfTop}
use Rattle.tbr_commands.specs.declared.opening.Opening.{Opening}
use Rattle.tbr_program.specs.Closing.{closed}
use Rattle.tbr_program.specs.Commands.{started}
use Rattle.tbr_recorded.specs.Script.{TableScript}
use Rattle.tbr_statements.specs.declared.statement.Statement.{Statement}
use Rattle.tbr_statements.specs.declared.statement.Statement.TheVariants as statement
use Rattle.tbr_statements.specs.Statement.{statement_of, is_skipped}
use Rattle.tbr_statements.specs.Read.{statement_read}
use Rattle.tbr_view.specs.Session.{State, Commands, BlockOpens, BlockCloses}
use Rattle.tbr_view.specs.Tables.{Place, no_tables, counted, TableBegins, DoesInTable}

-- after the first command
abbrev pub begun : {D M : Type 0} → Opening → D → Place D M
begun opening decorator = record {
  state = record { program = started opening decorator; levels = [] };
  tables = no_tables opening.decorator opening.options;
}

-- what else is known where a table is open
abbrev pub without_table : {D M : Type 0} → Place D M → Place D M
without_table s = record s { tables = record s.tables { current = None } }

module _ {D M : Type 0} (columns : ℕ → Option ℕ) (decoration : Decoration D M) where
  -- Where no table is open. A cell of one, and its end, are refused.
  abbrev pub DoesOutside : Place D M → Statement → Place D M → Type 0
  DoesOutside s (statement.Command command) t =
      Commands columns decoration s.state command t.state × (t.tables ≡ counted command s.tables)
  DoesOutside s (statement.Open block) t =
      BlockOpens columns decoration s.state block t.state × (t.tables ≡ s.tables)
  DoesOutside s (statement.Close by) t =
      BlockCloses columns decoration s.state by.now t.state × (t.tables ≡ s.tables)
  DoesOutside s statement.Table t = TableBegins columns s t
  DoesOutside s (statement.Cell cell) t = ⊥
  DoesOutside s statement.EndTable t = ⊥

  abbrev pub DoesWith : Option TableScript → Place D M → Statement → Place D M → Type 0
  DoesWith None s asks t = DoesOutside s asks t
  DoesWith (Some table) s asks t = DoesInTable columns decoration (without_table s) table asks t

  abbrev pub Does : Place D M → Statement → Place D M → Type 0
  Does s asks t = DoesWith s.tables.current s asks t

  -- A line leads from where a script is to where it is next. An empty line and a comment ask for nothing.
  abbrev pub LineDoes : Place D M → List ℕ → Place D M → Type 0
  LineDoes s line t =
      ((is_skipped line ≡ true) × (t ≡ s))
      ⊎ ((is_skipped line ≡ false)
      × ((asks : Statement) × (statement_read line ≡ Some (statement_of asks)) × Does s asks t))

  abbrev pub LinesDo : Place D M → List (List ℕ) → Place D M → Type 0
  LinesDo s [] t = t ≡ s
  LinesDo s (line ∷ lines) t = (next : Place D M) × LineDoes s line next × LinesDo next lines t

  -- A script ends here with these lines: no level is open, and no cell waits.
  pub record EndsIn (s : State D M) (lines : List (Line (List M))) : Type 0 where
    pub levels : s.levels ≡ []
    pub cells : s.program.pending.cells ≡ []
    pub closes : OfTop (λ r. closed columns decoration s.program.stack.links r ≡ done lines) s.program.stack

  -- the lines that a script gives from here
  abbrev pub LinesGive : Place D M → List (List ℕ) → List (Line (List M)) → Type 0
  LinesGive s script lines = (last : Place D M) × LinesDo s script last × EndsIn last.state lines
