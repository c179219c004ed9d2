use Rattle.std.proofs.Common.{[], ◌∷◌, refl, ◌∙◌}
use Rattle.tbr_recorded.proofs.Marks.{plain_chars, superscript_before, nothing_before}
use Rattle.tbr_recorded.proofs.texts.text_before.Goals as goal

pub returns-in-Superscript : goal.returns-in-Superscript
returns-in-Superscript c d = plain_chars (94 ∷ 123 ∷ []) refl ∙ rw c.in-Superscript.is (superscript_before d)

pub returns-in_default : goal.returns-in_default
returns-in_default c d = plain_chars [] refl ∙ nothing_before d c.args.beginning c.in_default.not-Superscript
