-- What is open in a table.
use Rattle.std.specs.Prelude.{◌+◌, ◌-◌, ◌^◌, ◌==◌, min, Bool, true, false, if◌then◌else◌, Result, Ok, Err, List, [], ◌∷◌}
use Rattle.tbr_commands.specs.Command.{Command, ask, link, end_link, sub, append, cell, end_cell, row, vertical_row}
use Rattle.tbr_commands.specs.Begun.{nothing_begun, ends_nothing, counted}
use Rattle.tbr_c_lines.specs.declared.fault.Fault.{Fault}
use Rattle.tbr_c_lines.specs.declared.fault.Fault.TheVariants.{NothingToEnd, StillOpen, InTable, NoTable}
use Rattle.tbr_c_tables.specs.declared.open_part.Opener.{Opener}
use Rattle.tbr_c_tables.specs.declared.open_part.Opener.TheVariants.{Table, Cell, Block}
use Rattle.tbr_c_tables.specs.declared.open_part.OpenPart.{OpenPart}
use Rattle.tbr_c_tables.specs.declared.table_call.TableCall.{TableCall}
use Rattle.tbr_c_tables.specs.declared.table_call.TableCall.TheVariants as call

-- a part that opens, in which nothing has begun
abbrev pub opened : Opener → OpenPart
opened by = record { by = by; begun = nothing_begun; links = 0; waits = false }

-- The parts that are open, the innermost first. Where none is open, all is refused.
abbrev pub in_innermost : {X : Type 0} → (OpenPart → Result X Fault) → List OpenPart → Result X Fault
in_innermost answer [] = Err NoTable
in_innermost answer (part ∷ parts) = answer part

-- ---- commands

-- Whether a part takes a command: a table takes none outside of its cells, and what ends has to be open.
abbrev pub takes_ending : Opener → Result (Unit {0}) Fault
takes_ending Table = Err InTable
takes_ending Cell = Err NothingToEnd
takes_ending Block = Ok tt

abbrev pub takes_content : OpenPart → Command → Result (Unit {0}) Fault
takes_content part (ask request) = if ends_nothing part.begun request then Err NothingToEnd else Ok tt
takes_content part (link target) = Ok tt
takes_content part end_link = if part.links == 0 then Err NothingToEnd else Ok tt
takes_content part (sub width) = Ok tt
takes_content part (append first others) = takes_ending part.by
takes_content part (cell width span align) = Err InTable
takes_content part end_cell = Err InTable
takes_content part (row collapse) = Err InTable
takes_content part vertical_row = Err InTable

abbrev pub takes_by : Opener → OpenPart → Command → Result (Unit {0}) Fault
takes_by Table part command = Err InTable
takes_by Cell part command = takes_content part command
takes_by Block part command = takes_content part command

abbrev pub takes : Command → OpenPart → Result (Unit {0}) Fault
takes command part = takes_by part.by part command

-- what a command makes of the innermost part, and of all of them
abbrev pub noted_in : Command → OpenPart → OpenPart
noted_in (ask request) part = record part { begun = counted part.begun request }
noted_in (link target) part = record part { links = min (part.links + 1) (2 ^ 64 - 1) }
noted_in end_link part = record part { links = part.links - 1 }
noted_in other part = part

abbrev pub in_first : (OpenPart → OpenPart) → List OpenPart → List OpenPart
in_first change [] = []
in_first change (part ∷ parts) = change part ∷ parts

abbrev pub closed : List OpenPart → List OpenPart
closed [] = []
closed (part ∷ parts) = parts

abbrev pub noted : Command → List OpenPart → List OpenPart
noted (sub width) parts = opened Block ∷ parts
noted (append first others) parts = closed parts
noted other parts = in_first (noted_in other) parts

-- ---- calls of tables

-- Whether a table takes a call outside of its cells: a cell, and the ends of itself and its rows. At its end no cell may
-- wait for its row.
abbrev pub table_takes : (waits : Bool) → TableCall → Result (Unit {0}) Fault
table_takes waits call.StartTable = Err InTable
table_takes waits (call.StartCell what) = Ok tt
table_takes waits call.EndCell = Err NothingToEnd
table_takes waits call.EndRow = Ok tt
table_takes waits call.EndTable = if waits then Err StillOpen else Ok tt
table_takes waits (call.StartInside prefix) = Err InTable

-- whether a cell or a block takes one: a cell its end, and both take tables and blocks
abbrev pub content_takes : (is_cell : Bool) → TableCall → Result (Unit {0}) Fault
content_takes is_cell call.StartTable = Ok tt
content_takes is_cell (call.StartCell what) = Err NoTable
content_takes is_cell call.EndCell = if is_cell then Ok tt else Err NothingToEnd
content_takes is_cell call.EndRow = Err NothingToEnd
content_takes is_cell call.EndTable = Err NothingToEnd
content_takes is_cell (call.StartInside prefix) = Ok tt

abbrev pub takes_call_by : Opener → (waits : Bool) → TableCall → Result (Unit {0}) Fault
takes_call_by Table waits asked = table_takes waits asked
takes_call_by Cell waits asked = content_takes true asked
takes_call_by Block waits asked = content_takes false asked

abbrev pub takes_call : TableCall → OpenPart → Result (Unit {0}) Fault
takes_call asked part = takes_call_by part.by part.waits asked

-- whether a cell waits for its row
abbrev pub waiting : Bool → OpenPart → OpenPart
waiting waits part = record part { waits = waits }

-- what is open after a call
abbrev pub after_call : TableCall → List OpenPart → List OpenPart
after_call call.StartTable parts = opened Table ∷ parts
after_call (call.StartCell what) parts = opened Cell ∷ in_first (waiting true) parts
after_call call.EndCell parts = closed parts
after_call call.EndRow parts = in_first (waiting false) parts
after_call call.EndTable parts = closed parts
after_call (call.StartInside prefix) parts = opened Block ∷ parts
