use Rattle.std.proofs.Common.{◌≡◌, ◌++◌, string_bytes, length}
use denote.Text.{Utf8}
use denote.Shadow.{shadow}
use Rattle.std.specs.Option.{option_map}
use Rattle.tbr_script.specs.Read.{text_read}
use Rattle.tbr_script.proofs.escape.unescape.Given as goal

abbrev pub invariant-loop-before : goal.invariant-loop-before
invariant-loop-before l = record {
  utf8 : shadow (Utf8 l.rest);
  -- the text so far, and what the rest means
  text : text_read l.writing ≡ option_map (λ more. string_bytes l.text ++ more) (text_read l.rest);
}

abbrev pub decreases-loop-before : goal.decreases-loop-before
decreases-loop-before l = length l.rest
