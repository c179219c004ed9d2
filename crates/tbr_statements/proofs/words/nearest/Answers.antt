use Rattle.std.proofs.Common.{arith, ap, ◌∙◌}
use Rattle.tbr_statements.specs.Words.{distance}
use Rattle.tbr_statements.proofs.NearWords.{no_text, within, none_more, found, is_nearest, are_far}
use Rattle.tbr_statements.proofs.words.nearest.Goals as goal
use Rattle.tbr_statements.proofs.words.nearest.Goals.{then-edits-least, else-edits-least}

pub loop-text-preserved : goal.loop-text-preserved
loop-text-preserved c =
    let word = c.args.word.now in
    let among = c.args.among.now in
    let inv = c.loop-text.invariant in
    let far = c.in_ok-edits.ensures.value ∙ ap (λ text. distance word text) c.first_word.ensures in
    elim c.if-edits-least.branch [
      | then-edits-least w ↦ record {
        best = found word among c.loop-text.text-index no_text c.loop-text-test.true c.if-edits-least.best c.loop-text.least c.if-edits-least.least c.in_ok-edits.edits
            w.best-is w.least-is far w.if-edits-least.true (within word among c.loop-text.best c.loop-text.least inv.best);
        none = none_more word among c.loop-text.text-index no_text c.loop-text-test.true c.loop-text.least c.if-edits-least.least inv.none (omega arith) (omega (arith, far, w.least-is));
      }
      | else-edits-least w ↦ record {
        best = rw (w.best-is, w.least-is) inv.best;
        none = none_more word among c.loop-text.text-index no_text c.loop-text-test.true c.loop-text.least c.if-edits-least.least inv.none (omega arith) (omega (arith, far, w.least-is));
      }
    ]

pub returns-clause-found : goal.returns-clause-found
returns-clause-found c =
    is_nearest c.args.word.now c.args.among.now c.loop-text.text-index c.loop-text.least c.loop-text.best c.loop-text.invariant.best c.loop-text.invariant.none c.loop-text-test.false

pub returns-clause-none : goal.returns-clause-none
returns-clause-none c =
    are_far c.args.word.now c.args.among.now c.loop-text.text-index c.loop-text.least c.loop-text.best c.loop-text.invariant.best c.loop-text.invariant.none c.loop-text-test.false
