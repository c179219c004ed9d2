use Rattle.tbr_tagged.proofs.Common.{rules, map_push, on_ok_weaker}
use Rattle.tbr_tagged.proofs.TextAfter.{push_extends, push_after, chars_some}
use Rattle.tbr_tagged.proofs.edits.push_copy.Goals as goal

pub returns-then-ends_under-clause-ok : goal.returns-then-ends_under-clause-ok
returns-then-ends_under-clause-ok g c = search (rules, chars_some, push_extends, c.requires, c.if-ends_under.ensures, c.extend_last.ensures.ok)

pub returns-clause-ok : goal.returns-clause-ok
returns-clause-ok g c = search (rules, chars_some, push_after, on_ok_weaker, map_push, c.requires, c.in_ok-push_str.ensures.bytes, c.in_ok-s.ensures.bytes, c.if-ends_under.ensures, c.push.ensures.ok)
