use Rattle.text_block_renderer.proofs.SoundRenderers.{new_sound, inside_sound, calls_sound, acts_sound}
use Rattle.text_block_renderer.proofs.laws.renderers_stay_sound.Goals as goal

pub returns : goal.returns
returns g c = record { new = new_sound; inside = inside_sound; calls = calls_sound; acts = acts_sound }
