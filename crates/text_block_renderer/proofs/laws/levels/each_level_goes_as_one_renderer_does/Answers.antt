use Rattle.text_block_renderer.proofs.LevelsOfStacks.{level_goes, pushed_goes}
use Rattle.text_block_renderer.proofs.laws.levels.each_level_goes_as_one_renderer_does.Goals as goal

pub returns : goal.returns
returns g c = record { level = level_goes; pushed = pushed_goes }
