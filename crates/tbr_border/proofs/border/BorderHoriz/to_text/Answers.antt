use Rattle.tbr_border.proofs.Common.{chars-nil}
use Rattle.tbr_border.proofs.border.BorderHoriz.to_text.Goals as goal

pub returns : goal.returns
returns g c = rw (c.new-text.ensures.bytes, chars-nil) at c.in_ok-append_to.ensures
