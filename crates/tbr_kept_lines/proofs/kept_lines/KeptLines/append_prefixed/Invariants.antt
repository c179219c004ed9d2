use Rattle.tbr_kept_lines.proofs.Common.{◌≡◌, chars, parts_seen, prefixed_lines, Appends}
use denote.Text.{Utf8}
use denote.Shadow.{shadow}
use Rattle.tbr_kept_lines.proofs.Prefixes.{next_prefix}
use Rattle.tbr_kept_lines.proofs.kept_lines.KeptLines.append_prefixed.Given as goal

abbrev pub invariant-loop-part : goal.invariant-loop-part
invariant-loop-part g l = record {
  lines : Appends g.T.PartialEq.eq l.initial.self (prefixed_lines l.tag (chars l.first) (chars l.others) (parts_seen l.yielded)) l.self;
  prefix : chars l.next ≡ next_prefix g.T.PartialEq.eq l.tag (chars l.first) (chars l.others) (parts_seen l.yielded);
  utf8 : shadow (Utf8 l.next);
}
