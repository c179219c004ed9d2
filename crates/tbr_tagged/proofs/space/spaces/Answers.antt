use Rattle.tbr_tagged.proofs.Common.{chars-IsAscii, spaces}
use Rattle.tbr_tagged.proofs.TextAfter.{spaces_ascii}
use Rattle.tbr_tagged.proofs.space.spaces.Goals as goal

pub returns : goal.returns
returns c = rw (c.in_ok-append_spaces.ensures.ok, c.in_ok-s.ensures.bytes) (chars-IsAscii (spaces c.args.count) (spaces_ascii c.args.count))
