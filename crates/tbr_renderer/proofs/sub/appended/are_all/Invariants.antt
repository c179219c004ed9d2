use Rattle.tbr_renderer.proofs.Common.{◌≡◌, take, replicate, chars, texts_of}
use Rattle.tbr_renderer.proofs.sub.appended.are_all.Given as goal

abbrev pub invariant-loop-prefix : goal.invariant-loop-prefix
invariant-loop-prefix g l = texts_of g.P.AsStr.text (take l.prefix-index l.given) ≡ replicate l.prefix-index (chars l.text)
