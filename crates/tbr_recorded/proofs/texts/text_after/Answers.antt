use Rattle.std.proofs.Common.{[], ◌∷◌, refl, ◌∙◌}
use Rattle.tbr_recorded.proofs.Marks.{plain_chars, superscript_after, nothing_after}
use Rattle.tbr_recorded.proofs.texts.text_after.Goals as goal

pub returns-in-Superscript : goal.returns-in-Superscript
returns-in-Superscript c d = plain_chars (125 ∷ []) refl ∙ rw c.in-Superscript.is (superscript_after d)

pub returns-in_default : goal.returns-in_default
returns-in_default c d = plain_chars [] refl ∙ nothing_after d c.args.kind c.in_default.not-Superscript
