use Rattle.tbr_tagged.proofs.Common.{◌≡◌, [], sym, arith, chars, string_bytes, string_len, eqb-true}
use Rattle.tbr_tagged.proofs.TextAfter.{chars_none}
use Rattle.tbr_tagged.proofs.edits.put_text_in_front.Goals as goal

pub returns-then-is_empty-clause-ok : goal.returns-then-is_empty-clause-ok
returns-then-is_empty-clause-ok g c =
    let none : string_len c.args.ts.s ≡ 0 = eqb-true (string_len c.args.ts.s) 0 (sym c.if-is_empty.ensures) in
    let text : chars (string_bytes c.args.ts.s) ≡ [] = chars_none (string_bytes c.args.ts.s) (omega (arith, none)) in
    rw text c.put_none_in_front.ensures.ok
