use Rattle.std.proofs.Common.{chars, ap, ◌∙◌}
use Rattle.std.proofs.lemmas.Str.{chars-nil}
use Rattle.tbr_decor.proofs.text.empty.Goals as goal

pub returns : goal.returns
returns c = ap chars c.new.ensures.bytes ∙ chars-nil
