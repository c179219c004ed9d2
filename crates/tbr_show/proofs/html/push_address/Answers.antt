use Rattle.tbr_show.proofs.Common.{rules}
use Rattle.std.proofs.lemmas.Str.{chars-nil}
use Rattle.tbr_show.specs.Target as target
use Rattle.tbr_show.proofs.Appended.{on_ok_then}
use Rattle.tbr_show.proofs.html.push_address.Goals as goal

pub returns : goal.returns
returns c = search (rules, chars-nil, on_ok_then, c.as_str.ensures.value, c.in_ok-push_target.ensures, c.new-encoded.ensures.bytes, c.push_escaped.ensures)
