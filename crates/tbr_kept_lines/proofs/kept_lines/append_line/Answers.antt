use Rattle.tbr_kept_lines.proofs.Common.{rules, append_assoc}
use Rattle.std.proofs.lemmas.Str.{IsUtf8-string_bytes}
use Rattle.tbr_tagged.proofs.TextAfter.{chars_push}
use Rattle.tbr_kept_lines.proofs.KeptParts.{line_seen_shows}
use Rattle.tbr_kept_lines.proofs.kept_lines.append_line.Goals as goal

pub returns : goal.returns
returns g c = search (rules, chars_push, IsUtf8-string_bytes, line_seen_shows, append_assoc, c.in_ok-push.ensures.bytes, c.in_ok-append_to.ensures)
