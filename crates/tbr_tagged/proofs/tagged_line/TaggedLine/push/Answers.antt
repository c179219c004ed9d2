use Rattle.tbr_tagged.proofs.Common.{◌∙◌, ap, map, map_push, on_ok_weaker, on_err_weaker, string_bytes, FragmentStart, marker_element, stored, element_of}
use Rattle.tbr_tagged.proofs.GrownLines.{text_has_items}
use Rattle.tbr_tagged.proofs.TextAfter.{merged_element}
use Rattle.tbr_tagged.proofs.SameItems.{element_pushed}
use Rattle.tbr_tagged.proofs.tagged_line.TaggedLine.push.Goals as goal

pub returns-in-FragmentStart-clause-items : goal.returns-in-FragmentStart-clause-items
returns-in-FragmentStart-clause-items g c =
    let es = map element_of (stored c.self.inside.elements) in
    let name = c.in-FragmentStart.name in
    rw (c.in-FragmentStart.is, ← c.self.view_is)
    (on_ok_weaker c.push.result (λ h.
    let pushed = ap (map element_of) h ∙ map_push element_of (stored c.self.inside.elements) (FragmentStart name) in
    rw pushed (element_pushed g.T.PartialEq.eq g.met.T.Eq.laws es (marker_element (string_bytes name)))) c.push.ensures.ok)

pub returns-in-FragmentStart-clause-merged : goal.returns-in-FragmentStart-clause-merged
returns-in-FragmentStart-clause-merged g c = λ merged.
    let es = map element_of (stored c.self.inside.elements) in
    let name = c.in-FragmentStart.name in
    let before = rw (← c.self.view_is) at merged in
    on_ok_weaker c.push.result (λ h.
    let pushed = ap (map element_of) h ∙ map_push element_of (stored c.self.inside.elements) (FragmentStart name) in
    rw pushed (merged_element g.T.PartialEq.eq es (marker_element (string_bytes name)) before)) c.push.ensures.ok

pub returns-in-Str-clause-some : goal.returns-in-Str-clause-some
returns-in-Str-clause-some g c =
    rw c.in-Str.is (on_err_weaker c.push_str.result (text_has_items c.in-Str.ts.s c.in-Str.ts.tag) c.push_str.ensures.some)
