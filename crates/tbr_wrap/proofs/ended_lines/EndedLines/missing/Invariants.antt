use Rattle.tbr_wrap.proofs.Common.{◌≡◌, ◌++◌, length}
use Rattle.std.specs.VecDeque.{deque_len}
use Rattle.std.specs.VecDeque.Iter.{deque_iter_rest}
use Rattle.tbr_wrap.proofs.lines.LackingColumns.{lacking, lines_lacking}
use Rattle.tbr_wrap.proofs.ended_lines.EndedLines.missing.Given as goal

abbrev pub invariant-loop-len : goal.invariant-loop-len
invariant-loop-len g l = record {
  found : lines_lacking g.W.CharWidth.columns l.width l.self ≡ l.missing.items ++ lacking g.W.CharWidth.columns l.width (deque_iter_rest l.len-iterator) l.items;
  counted : deque_len l.missing ≡ length l.missing.items;
}
