use Rattle.std.proofs.Common.{chars, ap, ◌∙◌}
use Rattle.std.proofs.lemmas.Str.{chars-IsAscii}
use Rattle.tbr_decor.proofs.Texts.{ascii_all}
use Rattle.tbr_decor.proofs.text.ascii.Goals as goal

pub returns : goal.returns
returns c = ap chars c.in_ok-from_str.ensures.ok ∙ chars-IsAscii c.args.text.now (ascii_all c.args.text.now c.requires)
