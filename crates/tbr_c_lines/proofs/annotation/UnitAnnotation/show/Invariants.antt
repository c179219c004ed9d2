use Rattle.std.proofs.Common.{◌≡◌, map}
use Rattle.tbr_decor.specs.declared.annotation.RichAnnotation.TheVariants.{Default}
use Rattle.tbr_c_lines.proofs.annotation.UnitAnnotation.show.Given as goal

abbrev pub invariant-loop : goal.invariant-loop
invariant-loop l = l.shown.items ≡ map (λ _. Default) l.yielded
