use Rattle.tbr_show.proofs.Common.{◌≡◌, ◌++◌, take, flat_map, chars_of, ends}
use Rattle.tbr_show.proofs.ansi.push_ends.Given as goal

abbrev pub invariant-loop-annotation : goal.invariant-loop-annotation
invariant-loop-annotation l = chars_of l.text ≡ chars_of l.initial.text ++ flat_map ends (take l.annotation-index l.annotations)
