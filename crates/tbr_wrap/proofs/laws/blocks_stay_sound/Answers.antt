use Rattle.tbr_wrap.proofs.Common.{rules}
use Rattle.tbr_wrap.proofs.runs.BlockLaws.{sound_new, sound_text, sound_marked, sound_taken, sound_flushed, sound_line}
use Rattle.tbr_wrap.proofs.laws.blocks_stay_sound.Goals as goal

pub returns : goal.returns
returns g c = search (rules, sound_new, sound_text, sound_marked, sound_taken, sound_flushed, sound_line)
