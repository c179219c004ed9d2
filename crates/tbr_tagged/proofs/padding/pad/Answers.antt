use Rattle.tbr_tagged.proofs.Common.{◌<◌, arith, map, ap, ◌∙◌, SameElements, push_text, insert_text, spaces, stored, element_of}
use Rattle.tbr_tagged.proofs.PaddedLines.{same_elements_trans, same_push, same_insert, spaces_before_some}
use Rattle.tbr_tagged.proofs.padding.pad.Goals as goal

pub returns-clause-ok : goal.returns-clause-ok
returns-clause-ok g c =
    let eq = g.T.PartialEq.eq in
    let es = map element_of (stored c.args.elements.now) in
    let some : 0 < c.args.front = omega arith in
    let inserted = c.in_ok-had.ensures.ok ∙ ap (λ cs. insert_text eq es cs c.in_ok-piece.piece.tag) c.in_ok-piece.ensures.text in
    let same : SameElements eq (map element_of (stored c.put_in_front.new.elements)) (insert_text eq es (spaces c.args.front) c.args.tag.now) =
    rw inserted (same_insert eq g.met.T.Eq.laws es (spaces c.args.front) c.in_ok-piece.piece.tag c.args.tag.now c.in_ok-piece.ensures.tag) in
    rw (spaces_before_some eq es c.args.front c.args.tag.now some)
    (same_elements_trans eq g.met.T.Eq.laws (map element_of (stored c.push_spaces-2.new.elements))
    (push_text eq (map element_of (stored c.put_in_front.new.elements)) (spaces c.args.after) c.args.tag.now)
    (push_text eq (insert_text eq es (spaces c.args.front) c.args.tag.now) (spaces c.args.after) c.args.tag.now)
    c.in_default.ensures.ok
    (same_push eq g.met.T.Eq.laws (map element_of (stored c.put_in_front.new.elements)) (insert_text eq es (spaces c.args.front) c.args.tag.now) (spaces c.args.after) c.args.tag.now same))
