use Rattle.tbr_tagged.proofs.Common.{refl, string_bytes, IsUtf8-string_bytes}
use Rattle.tbr_tagged.proofs.TextAfter.{chars_push}
use Rattle.tbr_tagged.proofs.element.extend_by_char.Goals as goal

pub returns-in_ok-push-clause-ok : goal.returns-in_ok-push-clause-ok
returns-in_ok-push-clause-ok g c =
    rw (c.in-Str.is, c.in_ok-push.ensures.bytes, chars_push (string_bytes c.in-Str.last.s) c.args.c (IsUtf8-string_bytes c.in-Str.last.s) c.ranges.c.0) refl
