use Rattle.tbr_tagged.proofs.Common.{refl, string_bytes, IsUtf8-string_bytes, chars-append}
use Rattle.tbr_tagged.proofs.element.extend.Goals as goal

pub returns-in_ok-push_str-clause-ok : goal.returns-in_ok-push_str-clause-ok
returns-in_ok-push_str-clause-ok g c =
    rw (c.in-Str.is, c.in_ok-push_str.ensures.bytes, chars-append (string_bytes c.in-Str.last.s) c.args.text.now (IsUtf8-string_bytes c.in-Str.last.s)) refl
