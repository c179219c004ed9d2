use Rattle.tbr_show.proofs.Common.{rules, IsUtf8-string_bytes, ascii_last}
use Rattle.tbr_show.proofs.text.push_decimal.Goals as goal

pub returns : goal.returns
returns c = search (rules, ascii_last, IsUtf8-string_bytes, c.in_ok-push_str.ensures.bytes, c.format.ensures.ascii, c.format.ensures.text)
