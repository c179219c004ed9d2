use Rattle.tbr_script.proofs.Bars.{split_is}
use Rattle.tbr_script.proofs.text_pair.split_at_bar.Goals as goal

pub returns : goal.returns
returns c = split_is c.args.text.now c.split_once.result c.split_once.ensures.cases
