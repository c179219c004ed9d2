use Rattle.tbr_runner.proofs.Common.{◌≡◌, ◌+◌, ◌≤◌, length, decoration_of, lines_of, GoesOn}
use Rattle.tbr_runner.specs.Scripts.{shown_on}
use Rattle.tbr_runner.proofs.runner.run_lines.Given as goal

abbrev pub invariant-loop-line : goal.invariant-loop-line
invariant-loop-line g l = record {
  -- the whole gives what the rest gives from here
  so_far : shown_on l.raw g.W.CharWidth.columns (decoration_of g.D.TextDecorator g.D.Annotation.Tag.tells) l.fn.number (lines_of l.fn.lines) l.fn.program
      ≡ shown_on l.raw g.W.CharWidth.columns (decoration_of g.D.TextDecorator g.D.Annotation.Tag.tells) l.number (lines_of l.lines) l.program;
  bound : l.number + length l.lines ≤ l.fn.number + length l.fn.lines;
  goes_on : GoesOn l.program;
}

abbrev pub decreases-loop-line : goal.decreases-loop-line
decreases-loop-line g l = length l.lines
