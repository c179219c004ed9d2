use Rattle.tbr_show.proofs.Common.{◌≡◌, ◌++◌, map, flat_map, chars_of}
use Rattle.tbr_show.specs.Html.{ends}
use Rattle.tbr_show.proofs.html.push_ends.Given as goal

abbrev pub invariant-loop-annotation : goal.invariant-loop-annotation
invariant-loop-annotation l = chars_of l.text ≡ chars_of l.initial.text ++ flat_map ends (map (λ a. a.now) l.yielded)
