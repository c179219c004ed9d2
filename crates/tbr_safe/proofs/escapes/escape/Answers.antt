use Rattle.std.proofs.Common.{◌++◌, chars, encode_utf8_all, string_bytes, sym, ap, ◌∙◌}
use Rattle.std.proofs.lemmas.Str.{IsUtf8-string_bytes, encodes-chars, chars-nil}
use Rattle.tbr_safe.specs.Escaped.{escaped}
use Rattle.tbr_safe.proofs.escapes.escape.Goals as goal

pub returns-clause-characters : goal.returns-clause-characters
returns-clause-characters c =
    c.in_ok-push_escaped.ensures ∙ ap (λ cs. cs ++ escaped (chars c.args.text.now)) (ap chars c.new-safe.ensures.bytes ∙ chars-nil)

pub returns-clause-bytes : goal.returns-clause-bytes
returns-clause-bytes c =
    let safe = c.push_escaped.new.safe in
    sym (encodes-chars (string_bytes safe) (IsUtf8-string_bytes safe)) ∙ ap encode_utf8_all (returns-clause-characters c)
