use Rattle.tbr_tagged.proofs.Common.{refl, string_bytes, chars-append}
use Rattle.tbr_tagged.proofs.element.prepend.Goals as goal

pub returns-in_ok-insert_str-clause-ok : goal.returns-in_ok-insert_str-clause-ok
returns-in_ok-insert_str-clause-ok g c =
    rw (c.in-Str.is, c.in_ok-insert_str.ensures.bytes, chars-append c.args.text.now (string_bytes c.in-Str.piece.s) c.utf8.text) refl
