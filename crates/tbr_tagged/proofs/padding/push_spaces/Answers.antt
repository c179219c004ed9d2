use Rattle.tbr_tagged.proofs.Common.{◌<◌, sym, ◌∙◌, ap, length, arith, map, map_push, AllZip-push, on_ok_weaker, Str, SameElement, piece, spaces, stored, element_of}
use Rattle.std.proofs.lemmas.List.{length-replicate}
use Rattle.tbr_tagged.proofs.TextAfter.{push_extends, push_after, same_elements}
use Rattle.tbr_tagged.proofs.padding.push_spaces.Goals as goal

pub returns-then-count-eq0-clause-ok : goal.returns-then-count-eq0-clause-ok
returns-then-count-eq0-clause-ok g c =
    rw c.if-count-eq0.true (same_elements g.T.PartialEq.eq g.met.T.Eq.laws (map element_of (stored c.args.elements.now)))

pub returns-then-ends_under-clause-ok : goal.returns-then-ends_under-clause-ok
returns-then-ends_under-clause-ok g c =
    let eq = g.T.PartialEq.eq in
    let es = map element_of (stored c.args.elements.now) in
    let some : 0 < length (spaces c.args.count) = rw length-replicate (omega arith) in
    let pushed = push_extends eq es (spaces c.args.count) c.args.tag.now some (sym c.if-ends_under.ensures) in
    on_ok_weaker c.extend_last_by_spaces.result (λ h. let ended = h ∙ sym pushed in rw ended (same_elements eq g.met.T.Eq.laws _)) c.extend_last_by_spaces.ensures.ok

pub returns-clause-ok : goal.returns-clause-ok
returns-clause-ok g c =
    let eq = g.T.PartialEq.eq in
    let es = map element_of (stored c.args.elements.now) in
    let some : 0 < length (spaces c.args.count) = rw length-replicate (omega arith) in
    let pushed = push_after eq es (spaces c.args.count) c.args.tag.now some (sym c.if-ends_under.ensures) in
    on_ok_weaker c.push.result (λ h.
    let ended = ap (map element_of) h ∙ map_push element_of (stored c.args.elements.now) (Str c.in_ok-piece.piece) in
    rw (ended, pushed)
    (AllZip-push (SameElement eq) es es _ (piece (spaces c.args.count) c.args.tag.now) (same_elements eq g.met.T.Eq.laws es) (c.in_ok-piece.ensures.text, c.in_ok-piece.ensures.tag))) c.push.ensures.ok
