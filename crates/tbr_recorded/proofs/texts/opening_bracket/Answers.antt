use Rattle.std.proofs.Common.{[], ◌∷◌, refl}
use Rattle.tbr_recorded.proofs.Marks.{plain_chars}
use Rattle.tbr_recorded.proofs.texts.opening_bracket.Goals as goal

pub returns-in-Plain : goal.returns-in-Plain
returns-in-Plain c target = rw c.in-Plain.is (plain_chars (91 ∷ []) refl)

pub returns-in-Trivial : goal.returns-in-Trivial
returns-in-Trivial c target = rw c.in-Trivial.is (plain_chars [] refl)

pub returns-in-Rich : goal.returns-in-Rich
returns-in-Rich c target = rw c.in-Rich.is (plain_chars [] refl)
