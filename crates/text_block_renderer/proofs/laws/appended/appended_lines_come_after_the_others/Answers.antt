use Rattle.text_block_renderer.proofs.LaidTexts.{appended_after}
use Rattle.text_block_renderer.proofs.laws.appended.appended_lines_come_after_the_others.Goals as goal

pub returns : goal.returns
returns g c = appended_after
