use Rattle.tbr_kept_lines.proofs.Common.{◌≡◌, length, take, parts_seen}
use Rattle.tbr_kept_lines.proofs.kept_lines.count_lines.Given as goal

abbrev pub invariant-loop-part : goal.invariant-loop-part
invariant-loop-part g l = l.count ≡ length (parts_seen (take l.part-index l.parts))
