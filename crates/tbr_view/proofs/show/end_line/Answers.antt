use Rattle.tbr_view.proofs.Common.{rules, chars, ap, ◌∙◌, string_bytes, newline_character}
use Rattle.std.proofs.lemmas.Str.{IsUtf8-string_bytes}
use Rattle.tbr_tagged.proofs.TextAfter.{chars_push}
use Rattle.tbr_view.proofs.show.end_line.Goals as goal

pub returns : goal.returns
returns c =
    ap chars c.in_ok-push.ensures.bytes
    ∙ chars_push (string_bytes c.args.text.now) newline_character (IsUtf8-string_bytes c.args.text.now) (search rules)
