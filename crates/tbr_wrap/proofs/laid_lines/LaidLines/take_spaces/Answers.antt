use Rattle.tbr_wrap.proofs.Common.{rules}
use Rattle.tbr_wrap.proofs.lines.ManySpaces.{put_room, put_full}
use Rattle.tbr_wrap.proofs.lines.ReservedSpaces.{taken_here, taken_full}
use Rattle.tbr_wrap.proofs.laid_lines.LaidLines.take_spaces.Goals as goal

pub returns-then-self-clause-taken : goal.returns-then-self-clause-taken
returns-then-self-clause-taken g c = search (rules, put_room, taken_here, c.if-self.true, c.requires.room, c.in-Some.ensures, c.in-Some.is)

pub returns-clause-taken : goal.returns-clause-taken
returns-clause-taken g c = search (rules, put_full, taken_full, c.requires.some, c.if-self.false, c.requires.room, c.in_ok-push_back.ensures.items, c.in-Some.ensures, c.in-Some.is)
