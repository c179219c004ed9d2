-- Tables that find their widths.
use Rattle.std.specs.Prelude.{ℕ, ◌+◌, ◌-◌, ◌^◌, min, nat_lt, if◌then◌else◌, Option, None, Some, length}
use Rattle.tbr_script.specs.declared.error.RunError.{RunError}
use Rattle.tbr_script.specs.declared.error.RunError.TheVariants as unrun
use Rattle.tbr_c_lines.specs.declared.fault.Fault.{Fault}
use Rattle.tbr_c_lines.specs.declared.fault.Fault.TheVariants as fault
use Rattle.tbr_c_tables.specs.declared.table_call.TableCall.{TableCall}
use Rattle.tbr_c_tables.specs.declared.table_call.TableCall.TheVariants as call
use Rattle.tbr_c.specs.declared.page.Facts.{Facts}
use Rattle.tbr_c.specs.declared.table.OpenTable.{OpenTable}
use Rattle.tbr_c.specs.Page.{page_facts}

-- how many levels and parts of it are open
abbrev pub levels_with : OpenTable → ℕ
levels_with t = let facts = page_facts t.page in let given = t.given in
    min (facts.open_levels + length given.parts) (2 ^ 64 - 1)

-- A refusal of what is drawn. Others than these two would count as `OutOfMemory`: none is known, but no contract
-- excludes them.
abbrev pub fault_of_drawing : RunError → Fault
fault_of_drawing unrun.TooNarrow = fault.TooNarrow
fault_of_drawing other = fault.OutOfMemory

-- Why a call isn't possible where no table is open, if it isn't. A table can't begin where cells wait or overhang, since
-- they would come into its rows.
abbrev pub misplaced : Facts → TableCall → Option Fault
misplaced facts call.StartTable =
    if nat_lt 0 facts.waiting_cells then Some fault.StillOpen
    else if facts.has_overhang then Some fault.RowDoesNotFit else None
misplaced facts (call.StartCell what) = Some fault.NoTable
misplaced facts (call.StartInside prefix) = Some fault.NoTable
misplaced facts call.EndCell = Some fault.NothingToEnd
misplaced facts call.EndRow = Some fault.NothingToEnd
misplaced facts call.EndTable = Some fault.NothingToEnd
