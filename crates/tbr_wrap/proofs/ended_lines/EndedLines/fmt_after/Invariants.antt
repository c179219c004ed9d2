use denote.Text.{Utf8}
use denote.Shadow.{shadow}
use Rattle.tbr_wrap.proofs.ended_lines.EndedLines.fmt_after.Given as goal

abbrev pub invariant-loop-len : goal.invariant-loop-len
invariant-loop-len g l =
    (goal.iterator-loop-len g).can_next l.len-iterator × (goal.iterator-loop-len g).is_finite l.len-iterator × shadow (Utf8 l.prefix)
