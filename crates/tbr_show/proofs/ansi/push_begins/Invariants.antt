use Rattle.tbr_show.proofs.Common.{◌≡◌, ◌++◌, take, flat_map, chars_of}
use Rattle.tbr_show.specs.Ansi.{begins}
use Rattle.tbr_show.proofs.ansi.push_begins.Given as goal

abbrev pub invariant-loop-annotation : goal.invariant-loop-annotation
invariant-loop-annotation l = chars_of l.text ≡ chars_of l.initial.text ++ flat_map begins (take l.annotation-index l.annotations)
