use Rattle.std.proofs.Common.{rules}
use Rattle.tbr_statements.proofs.FirstWords.{none_more, is_first}
use Rattle.tbr_statements.proofs.NearWords.{no_text}
use Rattle.tbr_statements.proofs.words.first_of.Goals as goal

pub returns-then-eq-clause-found : goal.returns-then-eq-clause-found
returns-then-eq-clause-found c =
    is_first c.args.word.now c.args.among.now c.loop-text.text-index no_text c.loop-text-test.true c.loop-text.invariant (search rules)

pub loop-text-preserved : goal.loop-text-preserved
loop-text-preserved c =
    none_more c.args.word.now c.args.among.now c.loop-text.text-index no_text c.loop-text-test.true c.loop-text.invariant (λ is. search rules)
