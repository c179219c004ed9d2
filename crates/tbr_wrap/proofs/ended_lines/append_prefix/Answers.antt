use Rattle.tbr_wrap.proofs.Common.{ap, ◌∙◌, append-nil, rules, string_bytes, eqb-true, nil_from_length, chars-append, chars-nil, IsUtf8-string_bytes}
use Rattle.std.specs.Prelude.{chars}
use Rattle.tbr_wrap.proofs.ended_lines.append_prefix.Goals as goal

pub returns : goal.returns
returns c = ap chars c.in_ok-push_str.ensures.bytes ∙ chars-append (string_bytes c.args.text.now) c.args.prefix.now (IsUtf8-string_bytes c.args.text.now)

pub returns-then-is_empty : goal.returns-then-is_empty
returns-then-is_empty c = search (rules, nil_from_length, eqb-true, append-nil, chars-nil, c.is_empty.ensures, c.if-is_empty.true)
