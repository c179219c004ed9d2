use Rattle.std.proofs.Common.{◌≡◌, ◌++◌, drop}
use Rattle.tbr_tables.specs.Edges.{edges_from}
use Rattle.tbr_tables.proofs.drawn_table.edges_of.Given as goal

abbrev pub invariant-loop-width : goal.invariant-loop-width
invariant-loop-width l = l.edges.items ++ edges_from l.edge (drop l.width-index l.widths) ≡ edges_from 0 l.widths
