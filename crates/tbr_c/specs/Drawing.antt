-- A table that is drawn by the commands that were recorded.
use Rattle.std.specs.Prelude.{Bool, Result, List}
use Rattle.tbr_tagged.specs.UnicodeColumns.{unicode_columns}
use Rattle.tbr_decor.specs.Decoration.{Decoration}
use Rattle.tbr_script.specs.declared.error.RunError.{RunError}
use Rattle.tbr_commands.specs.Command.{Command}
use Rattle.tbr_program.specs.Progress.{Progress}
use Rattle.tbr_program.specs.Commands.{after_command}
use Rattle.tbr_program.specs.Safe.{shown_command}
use Rattle.tbr_tables.specs.Recorded.{calls_in}
use Rattle.tbr_tables.specs.declared.drawn.Drawn.{Drawn}
use Rattle.tbr_recorded.specs.Script.{TableScript}
use Rattle.tbr_recorded.specs.Drawn.{after_each, after_one, drawn_by}
use Rattle.tbr_c.specs.Facts.{on_top}

module _ {D M : Type 0} (decoration : Decoration D M) (raw : Bool) where
  abbrev pub Place : Type 0
  Place = Progress D M (List M)

  -- what a command makes of a program, whose prefixes have no control characters where it isn't raw
  abbrev pub shown_made : Command → Place → Result Place RunError
  shown_made command p = after_command unicode_columns decoration 0 (shown_command raw command) p

  -- what is made of it by a call that draws a table
  abbrev pub drawn_made : TableScript → Drawn → Place → Result Place RunError
  drawn_made script drawn p = after_one shown_made (drawn_by script drawn) p

  -- what is made of it by all calls that draw one, in the columns of the innermost level
  abbrev pub drawing : TableScript → Place → Result Place RunError
  drawing script p = after_each (drawn_made script) (calls_in (on_top 0 (λ r. r.width) p.stack) script.recorded) p
