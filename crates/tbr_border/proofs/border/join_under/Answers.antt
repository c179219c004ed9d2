use Rattle.tbr_border.proofs.Common.{◌+◌, refl, sym, ap, ◌∙◌, map, arith, [], Horiz, cell_of, side_of, joined}
use Rattle.std.proofs.lemmas.List.{length-set}
use Rattle.tbr_border.proofs.JoinedCells.{under_all_none, under_more, joins_below_end, set_changed}
use Rattle.tbr_border.proofs.border.join_under.Goals as goal
use Rattle.tbr_border.proofs.border.join_under.Goals.{then-merges, else-merges}

pub loop-i-init : goal.loop-i-init
loop-i-init c = record { cells = sym (under_all_none (side_of c.args.side) (map cell_of c.args.segments.now.items) c.args.pos [] refl); len = refl }

pub index_mut-requires : goal.index_mut-requires
index_mut-requires c =
    let reached = joins_below_end cell_of (side_of c.args.side) c.args.other.now c.loop-i.i Horiz c.loop-i-test.true (sym c.merges.ensures ∙ c.if-merges.true) in
    omega (arith, reached, c.requires, c.loop-i.invariant.len, c.loop-i.segments.ok.0)

pub loop-i-preserved : goal.loop-i-preserved
loop-i-preserved c =
    let side = side_of c.args.side in
    let own = map cell_of c.args.segments.now.items in
    let more = under_more cell_of side c.args.other.now c.loop-i.i Horiz c.loop-i-test.true own c.args.pos in
    elim c.if-merges.branch [
      | then-merges w ↦
          let reached = joins_below_end cell_of side c.args.other.now c.loop-i.i Horiz c.loop-i-test.true (sym c.merges.ensures ∙ w.if-merges.true) in
          rw w.segments-is (record {
            cells = rw (more, ← c.merges.ensures, w.if-merges.true, ← c.loop-i.invariant.cells)
                (set_changed cell_of (joined side) c.loop-i.segments.items (c.args.pos + c.loop-i.i) w.index_mut.result.now w.join.new.self (omega (arith, reached, c.requires, c.loop-i.invariant.len))
                (w.join.ensures ∙ ap (λ s. joined side (cell_of s)) w.index_mut.ensures.value));
            len = length-set c.loop-i.segments.items (c.args.pos + c.loop-i.i) w.join.new.self ∙ c.loop-i.invariant.len;
          })
      | else-merges w ↦ rw w.segments-is (record {
        cells = rw (more, ← c.merges.ensures, w.if-merges.false) c.loop-i.invariant.cells;
        len = c.loop-i.invariant.len;
      })
    ]
