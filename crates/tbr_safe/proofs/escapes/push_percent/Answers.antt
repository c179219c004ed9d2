use Rattle.std.proofs.Common.{rules}
use Rattle.std.proofs.lemmas.Str.{IsUtf8-string_bytes, chars-append, chars-IsAscii}
use Rattle.percent_encoding.proofs.PercentLemmas.{IsAscii-percent_encode}
use Rattle.tbr_safe.proofs.escapes.push_percent.Goals as goal

pub returns : goal.returns
returns c =
    search
    (rules, chars-append, chars-IsAscii, IsUtf8-string_bytes, IsAscii-percent_encode, c.in_ok-append_to.ensures.ok, c.utf8_percent_encode.ensures.text, c.encode_utf8.ensures.value, c.requires)
