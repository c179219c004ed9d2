-- The numbers of the statuses of `text_block_renderer.h`.
use Rattle.std.specs.Prelude.{ℕ, Result, Ok, Err}
use Rattle.tbr_tagged.specs.declared.Error.{Error}
use Rattle.tbr_tagged.specs.declared.Error.TheVariants as block
use Rattle.tbr_script.specs.declared.error.RunError.{RunError}
use Rattle.tbr_script.specs.declared.error.RunError.TheVariants as script
use Rattle.tbr_c_lines.specs.declared.fault.Fault.{Fault}
use Rattle.tbr_c_lines.specs.declared.fault.Fault.TheVariants.{OutOfMemory, TooNarrow, NotACommand, NothingToEnd, RowDoesNotFit, NotUtf8, BadWidth, BadArgument, StillOpen, Finished}
use Rattle.tbr_c_lines.specs.declared.fault.Fault.TheVariants.{NotFinished, NoLine, NoPiece, BufferTooSmall, InTable, NoTable}

abbrev pub code_of : Fault → ℕ
code_of OutOfMemory = 1
code_of TooNarrow = 2
code_of NotACommand = 3
code_of NothingToEnd = 4
code_of RowDoesNotFit = 5
code_of NotUtf8 = 6
code_of BadWidth = 7
code_of BadArgument = 8
code_of StillOpen = 9
code_of Finished = 10
code_of NotFinished = 11
code_of NoLine = 12
code_of NoPiece = 13
code_of BufferTooSmall = 14
code_of InTable = 16
code_of NoTable = 17

-- 0 where a call did what it says
abbrev pub status_of : {X : Type 0} → Result X Fault → ℕ
status_of (Ok x) = 0
status_of (Err fault) = code_of fault

-- a refusal of a block
abbrev pub fault_of : Error → Fault
fault_of block.OutOfMemory = OutOfMemory
fault_of block.TooNarrow = TooNarrow

-- a refusal of a script's command
abbrev pub fault_of_command : RunError → Fault
fault_of_command script.TooNarrow = TooNarrow
fault_of_command (script.NotACommand number) = StillOpen
fault_of_command (script.NothingToEnd number) = NothingToEnd
fault_of_command (script.RowDoesNotFit number) = RowDoesNotFit
fault_of_command script.OutOfMemory = OutOfMemory
fault_of_command script.ReadFailed = OutOfMemory
fault_of_command script.WriteFailed = OutOfMemory
