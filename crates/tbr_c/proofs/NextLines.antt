-- The next line, as the state of a renderer has it, and as C is answered.
use Rattle.tbr_c.proofs.Common.{◌≡◌, ◌≢◌, Option, None, Some, Result, Ok, Err, IfSome, refl, ap, Fault}
use Rattle.std.proofs.Common.{IfOk}
use Rattle.tbr_c_lines.specs.Line.{Line, size_of}
use Rattle.tbr_c_lines.specs.Lines.{Lines, TakesFirst}
use Rattle.tbr_c_lines.specs.declared.line.LineSize.{LineSize}
use Rattle.tbr_c.specs.declared.state.State.TheVariants.{Finished}
use Rattle.tbr_c.specs.State.{TakesLine}

-- the line that is taken last now, if it is the first of those before
pub taken_line : (old next : Lines) (result : Result LineSize Fault) →
    IfOk result (λ size. IfSome next.current (λ line. TakesFirst old.rest line next.rest × (size ≡ size_of line))) →
    IfOk result (λ _. next.current ≢ None) → IfOk result (λ size. TakesLine (Finished old) (Finished next) size)
taken_line old next (Err e) takes some = tt
taken_line old next (Ok size) takes some = go next.current refl takes some
  where
    go : (o : Option Line) → next.current ≡ o → IfSome o (λ line. TakesFirst old.rest line next.rest × (size ≡ size_of line)) →
        o ≢ None → TakesLine (Finished old) (Finished next) size
    go None is takes some = absurd (some refl)
    go (Some line) is takes some =
        (line, next.rest, takes.0, ap (λ (o : Option Line). Finished (record { rest = next.rest; current = o })) is, takes.1)
