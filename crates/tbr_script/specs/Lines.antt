-- The lines of a script, as the code takes them one by one.
use Rattle.std.specs.Prelude.{ℕ, List, Result, Ok, Err}
use Rattle.std.specs.Borrow.{Bor}
use Rattle.tbr_script.specs.declared.line.Rest.{Rest}
use Rattle.tbr_script.specs.declared.line.Rest.TheVariants.{Text, Bytes}

-- what is left of a script
abbrev pub left : Rest → List ℕ
left (Text text) = text.now
left (Bytes bytes) = bytes.now

-- the bytes of a line that is a text, or else bytes alone
abbrev pub bytes_of : Result (Bor (List ℕ)) (Bor (List ℕ)) → List ℕ
bytes_of (Ok text) = text.now
bytes_of (Err bytes) = bytes.now
