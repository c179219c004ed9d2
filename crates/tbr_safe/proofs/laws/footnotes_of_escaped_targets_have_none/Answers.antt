use Rattle.tbr_safe.proofs.Footnotes.{footnotes_are}
use Rattle.tbr_safe.proofs.laws.footnotes_of_escaped_targets_have_none.Goals as goal

pub returns : goal.returns
returns g c = λ a targets. footnotes_are a 1 targets
