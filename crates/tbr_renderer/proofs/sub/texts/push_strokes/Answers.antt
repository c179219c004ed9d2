use Rattle.tbr_renderer.proofs.Common.{rules, append_assoc, IsUtf8-string_bytes, replicate_more, chars_push}
use Rattle.tbr_renderer.proofs.sub.texts.push_strokes.Goals as goal

pub loop-preserved : goal.loop-preserved
loop-preserved c = search (rules, chars_push, IsUtf8-string_bytes, append_assoc, replicate_more, c.in_ok-push.ensures.bytes, c.loop.invariant)
