use Rattle.tbr_show.proofs.Common.{◌≡◌, ◌++◌, false, chars_of, printable}
use Rattle.tbr_show.proofs.Appended.{shown_open, wide_after}
use Rattle.tbr_show.proofs.html.push_shown.Given as goal

abbrev pub invariant-loop-c : goal.invariant-loop-c
invariant-loop-c g l = record {
  text : chars_of l.text ≡ chars_of l.initial.text ++ shown_open g.W.CharWidth.columns false (printable l.yielded);
  wide : l.is_wide ≡ wide_after g.W.CharWidth.columns false (printable l.yielded);
}
