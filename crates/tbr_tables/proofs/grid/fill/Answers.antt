use Rattle.std.proofs.Common.{◌∙◌}
use Rattle.tbr_tables.proofs.Singles.{singles_step}
use Rattle.tbr_tables.proofs.grid.fill.Goals as goal

pub loop-column-preserved : goal.loop-column-preserved
loop-column-preserved c =
    singles_step c.loop-column.spots.items c.push.new.self.items c.loop-column.column c.args.to c.loop-column-test.true c.in_ok-push.ensures.items
    ∙ c.loop-column.invariant
