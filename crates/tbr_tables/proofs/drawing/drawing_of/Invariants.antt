use Rattle.std.proofs.Common.{◌≡◌, take, fold}
use Rattle.std.specs.List.{enumerate_from}
use Rattle.tbr_tables.specs.Drawn.{nothing_drawn, drawn_after}
use Rattle.tbr_tables.proofs.drawing.drawing_of.Given as goal

abbrev pub invariant-loop-at : goal.invariant-loop-at
invariant-loop-at l =
    l.drawing ≡ fold (λ d s. drawn_after l.shapes d s.0 s.1) (nothing_drawn l.room) (take l.at (enumerate_from 0 l.steps))
