use Rattle.tbr_flat.proofs.Common.{refl, string_bytes, chars-append}
use Rattle.std.proofs.lemmas.Str.{IsUtf8-string_bytes}
use Rattle.tbr_flat.proofs.text_queue.TextQueue.move_to.Goals as goal

pub returns-clause-text : goal.returns-clause-text
returns-clause-text c =
    rw (c.in_ok-push_str.ensures.bytes, chars-append (string_bytes c.args.text.now) c.front.result.now (IsUtf8-string_bytes c.args.text.now), c.front.ensures, c.as_str-left.ensures) refl
