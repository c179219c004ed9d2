use Rattle.tbr_kept_lines.proofs.Common.{◌≡◌, ◌≤◌, map, take, filter, line_seen, line_has_content}
use Rattle.std.specs.Prelude.{length}
use Rattle.tbr_kept_lines.proofs.kept_lines.count_content.Given as goal

abbrev pub invariant-loop-line : goal.invariant-loop-line
invariant-loop-line g l = record {
  counts : l.count ≡ length (filter line_has_content (map line_seen (take l.line-index l.lines)));
  within : l.count ≤ l.line-index;
}
