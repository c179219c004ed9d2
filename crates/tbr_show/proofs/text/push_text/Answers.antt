use Rattle.tbr_show.proofs.Common.{rules, IsUtf8-string_bytes}
use Rattle.std.proofs.lemmas.Str.{chars-append}
use Rattle.tbr_show.proofs.text.push_text.Goals as goal

pub returns : goal.returns
returns c = search (rules, chars-append, IsUtf8-string_bytes, c.in_ok-push_str.ensures.bytes)
