use Rattle.tbr_tagged.proofs.Common.{◌≡◌, ◌∙◌, [], ap, sym, chars, string_bytes, chars-nil, on_ok_weaker, stored}
use Rattle.tbr_tagged.specs.View.{elements_of}
use Rattle.tbr_tagged.proofs.TextInFront.{none_extends, none_inserted}
use Rattle.tbr_tagged.proofs.edits.put_none_in_front.Goals as goal

pub returns-then-begins_under-clause-ok : goal.returns-then-begins_under-clause-ok
returns-then-begins_under-clause-ok g c = none_extends g.T.PartialEq.eq (elements_of (stored c.args.elements.now)) c.args.tag (sym c.if-begins_under.ensures)

pub returns-clause-ok : goal.returns-clause-ok
returns-clause-ok g c =
    let none : chars (string_bytes c.new-s.result) ≡ [] = ap chars c.new-s.ensures.bytes ∙ chars-nil in
    on_ok_weaker c.insert_front.result (λ h.
    ap elements_of h
    ∙ none_inserted g.T.PartialEq.eq (elements_of (stored c.args.elements.now)) (chars (string_bytes c.new-s.result))
    c.args.tag none (sym c.if-begins_under.ensures)) c.insert_front.ensures.ok
