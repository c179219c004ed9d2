use Rattle.tbr_tagged.proofs.Common.{IsTrue, false, ◌∙◌, ap, sym, take, string_bytes, IsUtf8-string_bytes}
use Rattle.tbr_tagged.proofs.GrownLines.{cut_place, cut_chars}
use Rattle.tbr_tagged.proofs.space.cut.Goals as goal

pub returns-then-is_char_boundary : goal.returns-then-is_char_boundary
returns-then-is_char_boundary c = λ cs ds bytes is.
    cut_chars (string_bytes c.args.text.now) (string_bytes c.truncate.new.self) cs ds (IsUtf8-string_bytes c.args.text.now) (IsUtf8-string_bytes c.truncate.new.self) is
    (c.truncate.ensures.bytes ∙ ap (λ n. take n (string_bytes c.args.text.now)) (sym bytes))

pub returns-else-is_char_boundary : goal.returns-else-is_char_boundary
returns-else-is_char_boundary c = λ cs ds bytes is.
    let place = rw bytes at (cut_place (string_bytes c.args.text.now) cs ds (IsUtf8-string_bytes c.args.text.now) is) in
    let no : IsTrue false = c.if-is_char_boundary.ensures.test.1 (place.0, λ _. place.1) in
    cc
