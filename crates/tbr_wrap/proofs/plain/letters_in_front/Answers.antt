use Rattle.tbr_wrap.proofs.Common.{◌≡◌, ◌+◌, Some, [], sym, ◌∙◌, append-nil, arith, kept_width}
use Rattle.std.proofs.Common.{map-id}
use Rattle.std.proofs.lemmas.Iterator.{YieldsList-from_chars}
use Rattle.std.proofs.lemmas.Iterator.Consumers.{YieldsList-end}
use Rattle.tbr_tagged.proofs.TextColumns.{turn_and_rest}
use Rattle.tbr_wrap.proofs.words.Letters.{seen_letters, seen_more, next_short}
use Rattle.tbr_wrap.proofs.plain.letters_in_front.Goals as goal

pub returns-in_default-clause-letters : goal.returns-in_default-clause-letters
returns-in_default-clause-letters g c =
    let w = turn_and_rest (YieldsList-from_chars c.args.text.now c.utf8.text cc) c.loop-c.yielded _ c.loop-c.yielded_by _ _ c.in-Some.c c.in-Some.is c.next.ensures.steps in
    seen_letters g.W.CharWidth.columns c.args.room c.args.text.now c.loop-c.yielded _ c.loop-c.front c.utf8.text w.1 c.loop-c.invariant

pub returns-then-width-room-clause-letters : goal.returns-then-width-room-clause-letters
returns-then-width-room-clause-letters g c =
    let w = turn_and_rest (YieldsList-from_chars c.args.text.now c.utf8.text cc) c.loop-c.yielded _ c.loop-c.yielded_by _ _ c.in-Some.c c.in-Some.is c.next.ensures.steps in
    seen_letters g.W.CharWidth.columns c.args.room c.args.text.now c.loop-c.yielded _ c.loop-c.front c.utf8.text w.1 c.loop-c.invariant

pub overflow_add-front : goal.overflow_add-front
overflow_add-front g c =
    let w = turn_and_rest (YieldsList-from_chars c.args.text.now c.utf8.text cc) c.loop-c.yielded _ c.loop-c.yielded_by _ _ c.in-Some.c c.in-Some.is c.next.ensures.steps in
    omega (arith, next_short c.args.text.now c.loop-c.yielded w.0 c.in-Some.c c.utf8.text w.1, c.loop-c.invariant.bytes, c.len_utf8.ensures.value, c.type_inv.text)

pub loop-c-preserved : goal.loop-c-preserved
loop-c-preserved g c =
    let columns = g.W.CharWidth.columns in
    let is : kept_width columns c.in-Some.c ≡ Some c.in-Some-kept_width.width = sym c.kept_width.ensures ∙ c.in-Some-kept_width.is in
    seen_more columns c.args.room c.loop-c.yielded c.in-Some.c c.in-Some-kept_width.width c.loop-c.front _ c.loop-c.invariant is
    (omega (arith, c.if-width-room.false, c.loop-c.invariant.fits))
    (λ i.
    record { bytes = c.loop-c.front.bytes + c.len_utf8.ensures.value i; count = c.loop-c.front.count + 1; columns = c.loop-c.front.columns + c.in-Some-kept_width.width })

pub returns-clause-letters : goal.returns-clause-letters
returns-clause-letters g c =
    let end = YieldsList-end (YieldsList-from_chars c.args.text.now c.utf8.text cc) c.loop-c.yielded _ c.loop-c.yielded_by _ _ c.in-None.is c.next.ensures.steps in
    let whole = sym (append-nil c.loop-c.yielded ∙ sym (map-id c.loop-c.yielded) ∙ end.0) in
    seen_letters g.W.CharWidth.columns c.args.room c.args.text.now c.loop-c.yielded [] c.loop-c.front c.utf8.text whole c.loop-c.invariant
