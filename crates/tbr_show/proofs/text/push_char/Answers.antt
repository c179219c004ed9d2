use Rattle.tbr_show.proofs.Common.{chars, ap, ◌∙◌, string_bytes, IsUtf8-string_bytes}
use Rattle.tbr_tagged.proofs.TextAfter.{chars_push}
use Rattle.tbr_show.proofs.text.push_char.Goals as goal

pub returns : goal.returns
returns c = ap chars c.in_ok-push.ensures.bytes ∙ chars_push (string_bytes c.args.text.now) c.args.c (IsUtf8-string_bytes c.args.text.now) c.ranges.c.0
