use Rattle.std.proofs.Common.{codes, rules}
use Rattle.tbr_commands.proofs.Openings.{no_word}
use Rattle.tbr_commands.proofs.options.wrap.Goals as goal

pub returns-in_err-strip_prefix : goal.returns-in_err-strip_prefix
returns-in_err-strip_prefix c = let none = no_word (codes "wrap=") c.args.word.now c.in_err-strip_prefix.ensures.cases in search rules
