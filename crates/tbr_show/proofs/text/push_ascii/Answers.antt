use Rattle.tbr_show.proofs.Common.{rules, IsUtf8-string_bytes, ascii_last}
use Rattle.tbr_decor.proofs.Texts.{ascii_all}
use Rattle.tbr_show.proofs.text.push_ascii.Goals as goal

pub returns : goal.returns
returns c = search (rules, ascii_last, IsUtf8-string_bytes, ascii_all, c.in_ok-push_str.ensures.bytes, c.requires)
