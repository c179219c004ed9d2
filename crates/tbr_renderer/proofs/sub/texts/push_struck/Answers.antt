use Rattle.tbr_renderer.proofs.Common.{chars, ap, ◌∙◌, rules, on_ok_weaker, IsUtf8-string_bytes, unwrap_or, string_bytes, chars_push, chars_of}
use Rattle.tbr_renderer.proofs.StruckTexts.{unstruck, struck_through}
use Rattle.tbr_renderer.proofs.sub.texts.push_struck.Goals as goal

pub returns-then-unwrap_or-eq0 : goal.returns-then-unwrap_or-eq0
returns-then-unwrap_or-eq0 g c = search (rules, unstruck, chars_push, IsUtf8-string_bytes, c.unwrap_or.ensures, c.width.ensures, c.in_ok-push.ensures.bytes, c.if-unwrap_or-eq0.true)

pub returns : goal.returns
returns g c =
    on_ok_weaker c.push_strokes.result
    (λ e. struck_through g.W.CharWidth.columns c.args.depth c.args.c (chars_of c.args.s.now)
    (chars_of c.push.new.self) (chars_of c.push_strokes.new.s) c.unwrap_or.result (c.unwrap_or.ensures ∙ ap (λ o. unwrap_or o 0) c.width.ensures)
    (ap chars c.in_ok-push.ensures.bytes ∙ chars_push (string_bytes c.args.s.now) c.args.c (IsUtf8-string_bytes c.args.s.now) c.ranges.c.0) c.if-unwrap_or-eq0.false e) c.push_strokes.ensures
