-- What is shown of prefixes and of the targets that footnotes list: what came, or that without control characters.
use Rattle.std.specs.Prelude.{ℕ, Bool, true, false, List, map}
use Rattle.tbr_safe.specs.Escaped.{escaped, escaped_bytes}
use Rattle.tbr_commands.specs.Command.{Command, append}
use Rattle.tbr_program.specs.Progress.{Progress}

-- a command whose prefixes have no control characters
abbrev pub safe_command : Command → Command
safe_command (append first others) = append (escaped_bytes first) (escaped_bytes others)
safe_command other = other

-- what is done where a command is asked for
abbrev pub shown_command : (raw : Bool) → Command → Command
shown_command true command = command
shown_command false command = safe_command command

-- what footnotes list of the targets of links; annotations keep what came
abbrev pub listed : (raw : Bool) → List (List ℕ) → List (List ℕ)
listed true targets = targets
listed false targets = map escaped targets

-- where a script is at its end
abbrev pub shown_links : {D A T : Type 0} → (raw : Bool) → Progress D A T → Progress D A T
shown_links raw p = record p { stack = record p.stack { links = listed raw (let s = p.stack in s.links) } }
