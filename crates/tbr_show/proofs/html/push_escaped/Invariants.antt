use Rattle.tbr_show.proofs.Common.{◌≡◌, ◌++◌, flat_map, chars_of, printable}
use Rattle.tbr_show.specs.Html.{escaped}
use Rattle.tbr_show.proofs.html.push_escaped.Given as goal

abbrev pub invariant-loop-c : goal.invariant-loop-c
invariant-loop-c l = chars_of l.text ≡ chars_of l.initial.text ++ flat_map escaped (printable l.yielded)
