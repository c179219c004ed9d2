use Rattle.tbr_border.proofs.Common.{refl, ap, map, ◌∙◌, arith, Horiz, cell_of}
use Rattle.tbr_border.proofs.JoinedCells.{stretched_items}
use Rattle.tbr_border.proofs.border.stretch.Goals as goal

pub returns-in_ok-resize-clause-ok : goal.returns-in_ok-resize-clause-ok
returns-in_ok-resize-clause-ok c =
    ap (map cell_of) c.in_ok-resize.ensures.items ∙ stretched_items cell_of c.args.segments.now.items Horiz c.args.width _ refl c.args.segments.now.ok.0 (omega arith)
