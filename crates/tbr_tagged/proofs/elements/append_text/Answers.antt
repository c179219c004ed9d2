use Rattle.tbr_tagged.proofs.Common.{map, take, append-nil, append_assoc, refl, string_bytes, IsUtf8-string_bytes, chars-append, flat_map-append, element_characters, element_of}
use Rattle.tbr_tagged.proofs.ElementLoops.{one_more}
use Rattle.tbr_tagged.proofs.elements.append_text.Goals as goal
use Rattle.tbr_tagged.proofs.elements.append_text.Goals.{in-Str+in_ok-push_str, in_default}

pub loop-element-preserved : goal.loop-element-preserved
loop-element-preserved g c =
    let before = map element_of (take c.loop-element.element-index c.args.elements.now) in
    let more = one_more element_of c.args.elements.now c.loop-element.element-index c.element-item.result c.loop-element-test.true c.element-item.is in
    elim c.match-element.branch [
      | in-Str+in_ok-push_str w ↦ rw (
        more,
        w.in-Str.is,
        w.text-is,
        flat_map-append element_characters before,
        append-nil,
        w.in_ok-push_str.ensures.bytes,
        chars-append (string_bytes c.loop-element.text) w.as_str.result.now (IsUtf8-string_bytes c.loop-element.text),
        c.loop-element.invariant,
        append_assoc,
        w.as_str.ensures.value,
      ) refl
      | in_default w ↦ rw (more, w.in_default.is, w.text-is, flat_map-append element_characters before, append-nil) c.loop-element.invariant
    ]
