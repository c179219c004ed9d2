use Rattle.text_block_renderer.proofs.LineParts.{brings_parts, adds_own_parts}
use Rattle.text_block_renderer.proofs.laws.lines_are_stretches_laid_texts_and_borders.Goals as goal

pub returns : goal.returns
returns g c = record { calls = brings_parts; own = adds_own_parts }
