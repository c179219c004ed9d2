use Rattle.tbr_tagged.proofs.Common.{◌≡◌, [], sym, arith, chars, length, eqb-true}
use Rattle.tbr_tagged.proofs.TextAfter.{chars_none}
use Rattle.tbr_tagged.proofs.edits.put_str_in_front.Goals as goal

pub returns-then-is_empty-clause-ok : goal.returns-then-is_empty-clause-ok
returns-then-is_empty-clause-ok g c =
    let none : length c.args.text.now ≡ 0 = eqb-true (length c.args.text.now) 0 (sym c.if-is_empty.ensures) in
    let text : chars c.args.text.now ≡ [] = chars_none c.args.text.now (omega (arith, none)) in
    rw text c.put_none_in_front.ensures.ok
