use Rattle.std.proofs.Common.{◌+◌, chars}
use Rattle.std.specs.String.{string_bytes}
use Rattle.tbr_decor.specs.Usual.{IsFootnote}
use Rattle.tbr_decor.proofs.Footnotes.{footnotes_more}
use Rattle.tbr_decor.proofs.usual.finalise.Goals as goal

pub loop-place-preserved : goal.loop-place-preserved
loop-place-preserved g c =
    let IsDefault = g.A.Default.is_default in
    let urls = c.deref-url-items.result.now in
    let i = c.loop-place.place in
    let line : IsFootnote IsDefault (i + 1) (chars (string_bytes c.url-item.result)) c.in_ok-footnote.field-0 =
    rw (← c.as_str.ensures.value) c.in_ok-footnote.ensures in
    rw c.in_ok-push.ensures.items
    (footnotes_more IsDefault (λ url. chars (string_bytes url)) urls i c.url-item.result c.loop-place.lines.items
    c.in_ok-footnote.field-0 c.loop-place-test.true c.url-item.is c.loop-place.invariant line)
