use Rattle.tbr_tagged.proofs.Common.{◌≡◌, length, [], sym, arith, append-nil, chars, rules, eqb-true, on_ok_weaker, items_of}
use Rattle.tbr_tagged.proofs.TextAfter.{chars_none, merged_push}
use Rattle.tbr_tagged.proofs.SameItems.{items_push, same_items}
use Rattle.tbr_tagged.proofs.tagged_line.TaggedLine.push_text.Goals as goal

pub returns-then-is_empty-clause-ok : goal.returns-then-is_empty-clause-ok
returns-then-is_empty-clause-ok g c = search (rules, eqb-true, chars_none, c.if-is_empty.ensures)

pub returns-then-is_empty-clause-items : goal.returns-then-is_empty-clause-items
returns-then-is_empty-clause-items g c =
    let none : length c.args.text.now ≡ 0 = eqb-true (length c.args.text.now) 0 (sym c.if-is_empty.ensures) in
    let text : chars c.args.text.now ≡ [] = chars_none c.args.text.now (omega (arith, none)) in
    rw (text, append-nil) (same_items g.T.PartialEq.eq g.met.T.Eq.laws (items_of c.args.self.now))

pub returns-clause-items : goal.returns-clause-items
returns-clause-items g c = search (rules, on_ok_weaker, items_push, c.self.view_is, c.push_copy.ensures.ok)

pub returns-clause-merged : goal.returns-clause-merged
returns-clause-merged g c = search (rules, on_ok_weaker, merged_push, c.self.view_is, c.push_copy.ensures.ok)
