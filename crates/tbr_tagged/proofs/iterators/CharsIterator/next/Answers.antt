use Rattle.tbr_tagged.proofs.Common.{◌≡◌, rules, chars, [], refl, characters_left}
use Rattle.std.specs.Str.Iter.{chars_rest}
use Rattle.tbr_tagged.proofs.TextAfter.{chars_none}
use Rattle.tbr_tagged.proofs.LineWalks.{chars_first}
use Rattle.tbr_tagged.proofs.iterators.CharsIterator.next.Goals as goal

pub returns-in-Some-clause-steps : goal.returns-in-Some-clause-steps
returns-in-Some-clause-steps g c = search (rules, chars_first, c.in-Some.is, c.loop-c.invariant, c.in-Some.ensures.steps.0)

pub returns-in-Some-clause-goes : goal.returns-in-Some-clause-goes
returns-in-Some-clause-goes g c = let steps = returns-in-Some-clause-steps g c in search rules

pub returns-in_err-element-clause-steps : goal.returns-in_err-element-clause-steps
returns-in_err-element-clause-steps g c =
    let text : chars (chars_rest c.loop-c.self.text) ≡ [] = chars_none (chars_rest c.loop-c.self.text) c.in_default.ensures.steps.0.0 in
    let none : characters_left c.args.self.now ≡ [] = rw (← c.loop-c.invariant, text, c.in_err-element.ensures.steps.0) refl in
    let same : characters_left (record { text = c.next.new.self; rest = c.next-in-loop-c.new.self }) ≡ [] = rw (c.in_default.ensures.steps.0.1, text, c.in_err-element.ensures.steps.1) refl in
    rw c.from_residual.ensures (none, same)

pub loop-c-preserved : goal.loop-c-preserved
loop-c-preserved g c = search (rules, chars_none, c.in_default.ensures.steps.0.0, c.loop-c.invariant, c.chars-self.ensures.rest, c.as_str.ensures, c.in_ok-element.ensures.steps)
