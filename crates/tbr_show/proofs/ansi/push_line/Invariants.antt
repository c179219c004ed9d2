use Rattle.tbr_show.proofs.Common.{◌≡◌, ◌++◌, map, flat_map, chars_of, element_of}
use Rattle.tbr_show.specs.Ansi as model
use Rattle.tbr_show.proofs.ansi.push_line.Given as goal

abbrev pub invariant-loop-element : goal.invariant-loop-element
invariant-loop-element l = chars_of l.text ≡ chars_of l.initial.text ++ flat_map model.element (map (λ e. element_of e.now) l.yielded)
