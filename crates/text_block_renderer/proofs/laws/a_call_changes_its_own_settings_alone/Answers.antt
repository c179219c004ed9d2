use Rattle.tbr_renderer.proofs.Settings.{call_changes}
use Rattle.text_block_renderer.proofs.laws.a_call_changes_its_own_settings_alone.Goals as goal

pub returns : goal.returns
returns g c = call_changes
