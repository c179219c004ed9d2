use Rattle.std.proofs.Common.{◌∙◌}
use Rattle.tbr_commands.proofs.Openings.{one_more}
use Rattle.tbr_commands.proofs.options.parse_options.Goals as goal

pub loop-word-preserved : goal.loop-word-preserved
loop-word-preserved c =
    rw c.set.ensures (one_more c.loop-word.words c.next.new.self c.in-Some.word.now c.loop-word.options
    c.in_ok-parse.field-0 c.in-Some.ensures c.in_ok-parse.ensures ∙ c.loop-word.invariant)
