use Rattle.std.proofs.Common.{map, take}
use Rattle.tbr_statements.specs.Words.{NoneBegins}
use Rattle.tbr_statements.proofs.words.first_of.Given as goal

abbrev pub invariant-loop-text : goal.invariant-loop-text
invariant-loop-text l = NoneBegins l.word (map (λ s. s.now) (take l.text-index l.among))
