use Rattle.text_block_renderer.proofs.Headline.{headline}
use Rattle.text_block_renderer.proofs.laws.headline.the_headline.Goals as goal

pub returns : goal.returns
returns g c = headline
