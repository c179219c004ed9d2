use Rattle.tbr_wrap.proofs.words.Letters.{Seen}
use Rattle.tbr_wrap.proofs.plain.letters_in_front.Given as goal

abbrev pub invariant-loop-c : goal.invariant-loop-c
invariant-loop-c g l = Seen g.W.CharWidth.columns l.room l.yielded l.front
