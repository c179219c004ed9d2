use Rattle.tbr_show.proofs.Common.{◌≡◌, ◌++◌, map, flat_map, chars_of, element_of}
use Rattle.tbr_show.proofs.Appended.{shown_of}
use Rattle.tbr_show.proofs.ansi.push_bare_line.Given as goal

abbrev pub invariant-loop-element : goal.invariant-loop-element
invariant-loop-element g l = chars_of l.text ≡ chars_of l.initial.text ++ flat_map shown_of (map (λ e. element_of e.now) l.yielded)
