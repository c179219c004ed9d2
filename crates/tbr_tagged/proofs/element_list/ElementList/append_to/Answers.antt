use Rattle.tbr_tagged.proofs.Common.{append-nil, refl, string_bytes, IsUtf8-string_bytes, chars-append}
use Rattle.tbr_tagged.proofs.element_list.ElementList.append_to.Goals as goal

pub returns-in_ok-push_str-in-Alone : goal.returns-in_ok-push_str-in-Alone
returns-in_ok-push_str-in-Alone g c =
    rw (c.in-Alone.is, append-nil, c.in_ok-push_str-in-Alone.ensures.bytes, chars-append (string_bytes c.args.text.now) _ (IsUtf8-string_bytes c.args.text.now), c.as_str.ensures) refl
