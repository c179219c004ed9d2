use Rattle.tbr_show.proofs.Common.{◌≡◌, ◌++◌, chars_of, printable}
use Rattle.tbr_show.proofs.text.push_each_printable.Given as goal

abbrev pub invariant-loop-c : goal.invariant-loop-c
invariant-loop-c l = chars_of l.text ≡ chars_of l.initial.text ++ printable l.yielded
