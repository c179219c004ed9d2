use Rattle.tbr_kept_lines.proofs.Common.{map, AllZip, Each, IsMergedText, parts_seen, line_seen, SameSeen}
use Rattle.tbr_kept_lines.proofs.kept_lines.lines_of.Given as goal

abbrev pub invariant-loop-part : goal.invariant-loop-part
invariant-loop-part g l = AllZip (SameSeen g.T.PartialEq.eq) (map line_seen l.lines.items) (parts_seen l.yielded) × Each (IsMergedText g.T.PartialEq.eq) l.lines.items
