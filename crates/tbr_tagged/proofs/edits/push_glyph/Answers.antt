use Rattle.tbr_tagged.proofs.Common.{sym, [], ◌∷◌, map, arith, map_push, AllZip-push, on_ok_weaker, SameElement, piece, stored, element_of}
use Rattle.tbr_tagged.proofs.TextAfter.{push_extends, push_after, same_elements}
use Rattle.tbr_tagged.proofs.edits.push_glyph.Goals as goal

pub returns-then-ends_under-clause-ok : goal.returns-then-ends_under-clause-ok
returns-then-ends_under-clause-ok g c =
    let eq = g.T.PartialEq.eq in
    let es = map element_of (stored c.args.elements.now) in
    on_ok_weaker c.extend_last_by_char.result (λ h.
    rw (h, push_extends eq es (c.args.c ∷ []) c.args.tag.now (omega arith) (sym c.if-ends_under.ensures)) (same_elements eq g.met.T.Eq.laws _)) c.extend_last_by_char.ensures.ok

pub returns-clause-ok : goal.returns-clause-ok
returns-clause-ok g c =
    let eq = g.T.PartialEq.eq in
    let es = map element_of (stored c.args.elements.now) in
    on_ok_weaker c.push.result (λ h.
    rw (push_after eq es (c.args.c ∷ []) c.args.tag.now (omega arith) (sym c.if-ends_under.ensures), h, map_push)
    (AllZip-push (SameElement eq) es es (element_of c.in_ok-piece.piece) (piece (c.args.c ∷ []) c.args.tag.now) (same_elements eq g.met.T.Eq.laws es) c.in_ok-piece.ensures)) c.push.ensures.ok
