use Rattle.tbr_c.proofs.Common.{◌≡◌, Ok, decoration_of, after_each, drawn_made}
use Rattle.std.proofs.Common.{take}
use Rattle.tbr_program.specs.Progress.{GoesOn}
use Rattle.tbr_c.proofs.drawing.draw.Given as goal

abbrev pub invariant-loop-drawn : goal.invariant-loop-drawn
invariant-loop-drawn g l =
    let made = drawn_made (decoration_of g.D.TextDecorator g.D.Annotation.Tag.tells) l.raw l.script in
    (after_each made (take l.drawn-index l.drawn-items) l.fn.program ≡ Ok l.program) × GoesOn l.program
