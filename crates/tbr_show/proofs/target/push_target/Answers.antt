use Rattle.tbr_show.proofs.Common.{rules, IsUtf8-string_bytes, ascii_last}
use Rattle.percent_encoding.proofs.PercentLemmas.{IsAscii-percent_encode}
use Rattle.tbr_show.proofs.target.push_target.Goals as goal

pub returns : goal.returns
returns c = search (rules, ascii_last, IsUtf8-string_bytes, IsAscii-percent_encode, c.in_ok-append_to.ensures.ok, c.utf8_percent_encode.ensures.text)
