use Rattle.tbr_border.proofs.Common.{sym, ◌∙◌, items_have_characters}
use Rattle.std.proofs.lemmas.Result.{IfOk-weaker}
use Rattle.tbr_border.proofs.render_line.RenderLine.to_text.Goals as goal

pub returns-in-Text : goal.returns-in-Text
returns-in-Text g c = rw c.in-Text.is (IfOk-weaker c.to_text.result _ _ (λ text is. is ∙ sym (items_have_characters c.in-Text.line)) c.to_text.ensures)
