use Rattle.tbr_wrap.proofs.Common.{◌≡◌, ◌+◌, ◌-◌, ap, ◌∙◌, arith, spaces, put_spaces}
use Rattle.tbr_wrap.proofs.lines.ManySpaces.{put_more}
use Rattle.tbr_wrap.proofs.lines.HeldLines.{keeps_trans}
use Rattle.tbr_wrap.proofs.lines.ReservedSpaces.{spaces_more}
use Rattle.tbr_wrap.proofs.laid_lines.LaidLines.put_spaces.Goals as goal

pub loop-left-preserved : goal.loop-left-preserved
loop-left-preserved g c =
    let inv = c.loop-left.invariant in let k = c.in_ok-take_spaces.ensures in
    let taken = c.min-taken.result in let rest = c.loop-left.left - taken in
    let parts : c.loop-left.left ≡ taken + rest = omega (arith, c.min-taken.ensures) in
    record {
      put = λ columns before given r a one h same.
          let n = inv.put columns before given r a one h same in
          let split = rw (parts, spaces_more taken rest n.1) at n.3 in (
            put_spaces c.args.self.now.width a taken n.0,
            n.1,
            n.2,
            rw inv.limits.width at (k.taken columns a n.1 one n.2 before given n.0 (spaces rest n.1) split),
            n.4 ∙ ap (λ m. put_spaces c.args.self.now.width a m n.0) parts ∙ put_more c.args.self.now.width a taken rest n.0,
          );
      room = k.room;
      word = rw k.flat inv.word;
      limits = keeps_trans c.args.self.now c.loop-left.self c.take_spaces.new.self inv.limits k.limits;
    }
