use Rattle.tbr_tagged.proofs.Common.{refl, string_bytes, IsUtf8-string_bytes, chars-append}
use Rattle.tbr_tagged.proofs.element.extend_front.Goals as goal

pub returns-in-Str-clause-ok : goal.returns-in-Str-clause-ok
returns-in-Str-clause-ok g c =
    rw (c.in-Str.is, c.replace.ensures.after, c.in_ok-push_str.ensures.bytes, chars-append (string_bytes c.args.text) _ (IsUtf8-string_bytes c.args.text), c.as_str.ensures.value) refl
