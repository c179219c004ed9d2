use Rattle.tbr_wrap.proofs.Common.{normal_keeps}
use Rattle.tbr_wrap.proofs.laws.words_keep_their_tags.Goals as goal

pub returns : goal.returns
returns g c = λ columns s normal. normal_keeps columns s.width s.events normal
