use Rattle.tbr_wrap.proofs.lines.HeldLines.{front_of, front_fits}
use Rattle.tbr_wrap.proofs.laid_lines.LaidLines.take_line.Goals as goal

pub take_line-requires : goal.take_line-requires
take_line-requires g c =
    let f = front_of c.front.result c.args.self.now.ended.items c.in-Some.len c.in-Some.ensures c.front.ensures.item.0 c.front.ensures.item.1 in
    record { placed = front_fits c.args.self.now c.requires.holds.0 c.requires.holds.1 c.in-Some.len f.0 c.requires.holds.2 f.1 }
