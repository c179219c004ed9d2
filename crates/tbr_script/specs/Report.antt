-- How the program tells a refusal.
use Rattle.std.specs.Prelude.{ℕ, List, ◌++◌, codes}
use Rattle.std.specs.Fmt.{decimal}
use Rattle.tbr_script.specs.declared.error.RunError.{RunError}
use Rattle.tbr_script.specs.declared.error.RunError.TheVariants.{TooNarrow, OutOfMemory, NotACommand, NothingToEnd, RowDoesNotFit, ReadFailed, WriteFailed}

-- what is wrong with the line of this number
abbrev pub at_line : ℕ → List ℕ → List ℕ
at_line number what = codes "line " ++ decimal number ++ codes ": " ++ what

-- the line that tells a refusal, without its newline
abbrev pub message_of : RunError → List ℕ
message_of TooNarrow = codes "too narrow"
message_of OutOfMemory = codes "out of memory"
message_of (NotACommand number) = at_line number (codes "not a command")
message_of (NothingToEnd number) = at_line number (codes "nothing to end")
message_of (RowDoesNotFit number) = at_line number (codes "row does not fit")
message_of ReadFailed = codes "read failed"
message_of WriteFailed = codes "write failed"

-- the status with which the program ends
abbrev pub status_of : RunError → ℕ
status_of TooNarrow = 1
status_of OutOfMemory = 1
status_of (NotACommand number) = 2
status_of (NothingToEnd number) = 2
status_of (RowDoesNotFit number) = 2
status_of ReadFailed = 3
status_of WriteFailed = 3
