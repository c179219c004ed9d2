use Rattle.std.proofs.Common.{◌≡◌, take}
use Rattle.tbr_tables.specs.Drawn.{adding, empty_cells}
use Rattle.tbr_tables.proofs.drawing.Drawing.add_empty.Given as goal

abbrev pub invariant-loop-spot : goal.invariant-loop-spot
invariant-loop-spot l =
    l.self ≡ adding (empty_cells l.at l.initial.self.table (take l.spot-index l.spots)) l.initial.self
