use Rattle.tbr_tagged.proofs.Common.{sym, map, take, drop, suc, string_bytes, element_of}
use Rattle.std.specs.Str.{chars}
use Rattle.tbr_tagged.proofs.ElementLoops.{one_more, one_and_rest, has_piece-push, has_piece-within}
use Rattle.tbr_tagged.proofs.elements.has_piece.Goals as goal

pub returns-in-Str : goal.returns-in-Str
returns-in-Str g c =
    let e = one_and_rest element_of c.args.elements.now c.loop-element.element-index c.element-item.result c.loop-element-test.true c.element-item.is in
    sym
    (rw (e, c.in-Str.is)
    (has_piece-within (map element_of (take c.loop-element.element-index c.args.elements.now))
    (map element_of (drop (suc c.loop-element.element-index) c.args.elements.now))
    (chars (string_bytes c.in-Str.field-0.s)) c.in-Str.field-0.tag))

pub loop-element-preserved : goal.loop-element-preserved
loop-element-preserved g c =
    let e = one_more element_of c.args.elements.now c.loop-element.element-index c.element-item.result c.loop-element-test.true c.element-item.is in
    rw (e, c.in_default.is) (has_piece-push (map element_of (take c.loop-element.element-index c.args.elements.now)) (string_bytes c.in_default.field-0) c.loop-element.invariant)
