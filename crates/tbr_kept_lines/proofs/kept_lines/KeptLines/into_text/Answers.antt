use Rattle.tbr_kept_lines.proofs.Common.{rules, flat_map-append, chars-nil}
use Rattle.tbr_kept_lines.proofs.kept_lines.KeptLines.into_text.Goals as goal

pub returns : goal.returns
returns g c = search (rules, chars-nil, flat_map-append, c.in_ok-append_lines.ensures, c.in_ok-append_parts.ensures, c.new-text.ensures.bytes, c.self.view_is)
