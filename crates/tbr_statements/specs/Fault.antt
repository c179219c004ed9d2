-- What is said of a line that is no command.
use Rattle.std.specs.Prelude.{ℕ, if◌then◌else◌, List, [], codes}
use Rattle.std.specs.List.{list_any}
use Rattle.std.specs.Str.{bytes_eq}
use Rattle.tbr_statements.specs.declared.fault.TheConstants.{TEXT_BELOW}

-- what is said besides of how the command of a word is written
abbrev pub besides : List ℕ → List ℕ
besides word =
    if bytes_eq word (codes "cell") then codes "; SPAN is 1 for an ordinary cell"
    else if list_any (λ other. bytes_eq other.now word) TEXT_BELOW then codes ", and its text on a `text` line below"
    else []
