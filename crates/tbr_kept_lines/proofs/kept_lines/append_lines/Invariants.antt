use Rattle.tbr_kept_lines.proofs.Common.{◌≡◌, ◌++◌, map, chars_of, lines_text, line_seen}
use Rattle.tbr_kept_lines.proofs.kept_lines.append_lines.Given as goal

abbrev pub invariant-loop-line : goal.invariant-loop-line
invariant-loop-line g l = chars_of l.text ≡ chars_of l.initial.text ++ lines_text (map line_seen l.yielded)
