-- The refusals of a script, and those of the blocks below it.
use Rattle.tbr_tagged.specs.declared.error.Error.{Error}
use Rattle.tbr_tagged.specs.declared.error.Error.TheVariants as block
use Rattle.tbr_script.specs.declared.error.RunError.{RunError}
use Rattle.tbr_script.specs.declared.error.RunError.TheVariants.{TooNarrow, OutOfMemory, NotACommand, NothingToEnd, RowDoesNotFit, ReadFailed, WriteFailed}

-- what a block's refusal makes of the script
abbrev pub refusal_of : Error → RunError
refusal_of block.TooNarrow = TooNarrow
refusal_of block.OutOfMemory = OutOfMemory

-- a refusal that the script itself gives, and not memory or a stream
abbrev pub IsOfScript : RunError → Type 0
IsOfScript TooNarrow = Unit {0}
IsOfScript (NotACommand number) = Unit {0}
IsOfScript (NothingToEnd number) = Unit {0}
IsOfScript (RowDoesNotFit number) = Unit {0}
IsOfScript OutOfMemory = ⊥
IsOfScript ReadFailed = ⊥
IsOfScript WriteFailed = ⊥
