use Rattle.tbr_kept_lines.proofs.Common.{chars}
use denote.Text.{Utf8}
use denote.Shadow.{shadow}
use Rattle.tbr_kept_lines.proofs.Prefixes.{HasPut}
use Rattle.tbr_kept_lines.proofs.kept_lines.put_prefixes.Given as goal

abbrev pub invariant-loop-line : goal.invariant-loop-line
invariant-loop-line g l = record {
  put : HasPut g.T.PartialEq.eq l.tag (chars l.first) (chars l.others) l.initial.lines l.lines l.line-index (chars l.next);
  utf8 : shadow (Utf8 l.next);
}
