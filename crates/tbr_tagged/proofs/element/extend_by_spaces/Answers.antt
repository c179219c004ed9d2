use Rattle.tbr_tagged.proofs.Common.{refl, string_bytes, IsUtf8-string_bytes}
use Rattle.tbr_tagged.proofs.TextAfter.{chars_spaces}
use Rattle.tbr_tagged.proofs.element.extend_by_spaces.Goals as goal

pub returns-in_ok-append_spaces-clause-ok : goal.returns-in_ok-append_spaces-clause-ok
returns-in_ok-append_spaces-clause-ok g c =
    rw (c.in-Str.is, c.in_ok-append_spaces.ensures.ok, chars_spaces (string_bytes c.in-Str.last.s) c.args.count (IsUtf8-string_bytes c.in-Str.last.s)) refl
