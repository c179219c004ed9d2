use Rattle.tbr_kept_lines.proofs.Common.{◌≡◌, ◌++◌, chars_of, parts_seen, lines_text}
use Rattle.tbr_kept_lines.proofs.kept_lines.append_parts.Given as goal

abbrev pub invariant-loop-part : goal.invariant-loop-part
invariant-loop-part g l = chars_of l.text ≡ chars_of l.initial.text ++ lines_text (parts_seen l.yielded)
