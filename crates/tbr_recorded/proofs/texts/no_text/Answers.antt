use Rattle.std.proofs.Common.{[], refl}
use Rattle.tbr_recorded.proofs.Marks.{plain_chars}
use Rattle.tbr_recorded.proofs.texts.no_text.Goals as goal

pub returns : goal.returns
returns c = plain_chars [] refl
