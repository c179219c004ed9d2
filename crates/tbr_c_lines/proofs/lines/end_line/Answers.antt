use Rattle.std.proofs.Common.{rules, chars, ap, ◌∙◌}
use Rattle.std.specs.String.{string_bytes}
use Rattle.std.proofs.lemmas.Str.{IsUtf8-string_bytes}
use Rattle.tbr_model.specs.Codes.{newline_character}
use Rattle.tbr_tagged.proofs.TextAfter.{chars_push}
use Rattle.tbr_c_lines.proofs.lines.end_line.Goals as goal

pub returns : goal.returns
returns c =
    ap chars c.in_ok-push.ensures.bytes
    ∙ chars_push (string_bytes c.args.text.now) newline_character (IsUtf8-string_bytes c.args.text.now) (search rules)
