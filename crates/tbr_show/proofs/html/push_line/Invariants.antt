use Rattle.tbr_show.proofs.Common.{◌≡◌, ◌++◌, map, flat_map, chars_of, element_of}
use Rattle.tbr_show.specs.Html as model
use Rattle.tbr_show.proofs.html.push_line.Given as goal

abbrev pub invariant-loop-element : goal.invariant-loop-element
invariant-loop-element g l = chars_of l.text ≡ chars_of l.initial.text ++ flat_map (model.element g.W.CharWidth.columns) (map (λ e. element_of e.now) l.yielded)
