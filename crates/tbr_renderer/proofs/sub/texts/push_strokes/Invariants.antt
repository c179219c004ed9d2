use Rattle.tbr_renderer.proofs.Common.{◌≡◌, ◌++◌, replicate, chars_of, stroke}
use Rattle.tbr_renderer.proofs.sub.texts.push_strokes.Given as goal

abbrev pub invariant-loop : goal.invariant-loop
invariant-loop l = chars_of l.s ≡ chars_of l.initial.s ++ replicate l.counter stroke
