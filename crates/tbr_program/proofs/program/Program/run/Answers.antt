use Rattle.tbr_program.proofs.Common.{subst, decoration_of, link, Runs, after_command}
use Rattle.tbr_program.proofs.program.Program.run.Goals as goal

pub returns-in-Ask : goal.returns-in-Ask
returns-in-Ask g c = record { runs = rw c.in-Ask.is c.call.ensures.runs }

pub returns-in-Link : goal.returns-in-Link
returns-in-Link g c =
    let make = after_command g.W.CharWidth.columns (decoration_of g.D.TextDecorator g.D.Annotation.Tag.tells) c.args.number in
    let runs = subst (λ target. Runs (make (link target)) c.args.self.now c.start_link.result c.start_link.new.self) c.as_str.ensures.value (c.start_link.ensures.runs c.args.number) in
    record { runs = rw c.in-Link.is runs }

pub returns-in-EndLink : goal.returns-in-EndLink
returns-in-EndLink g c = record { runs = rw c.in-EndLink.is c.end_link.ensures.runs }

pub returns-in-Sub : goal.returns-in-Sub
returns-in-Sub g c = record { runs = rw c.in-Sub.is c.open.ensures.runs }

pub returns-in-Append : goal.returns-in-Append
returns-in-Append g c = record { runs = rw c.in-Append.is c.append.ensures.runs }

pub returns-in-Cell : goal.returns-in-Cell
returns-in-Cell g c = record { runs = rw c.in-Cell.is c.open-in-Cell.ensures.runs }

pub returns-in-EndCell : goal.returns-in-EndCell
returns-in-EndCell g c = record { runs = rw c.in-EndCell.is c.end_cell.ensures.runs }

pub returns-in-Row : goal.returns-in-Row
returns-in-Row g c = record { runs = rw c.in-Row.is c.add_row.ensures.runs }

pub returns-in-VerticalRow : goal.returns-in-VerticalRow
returns-in-VerticalRow g c = record { runs = rw c.in-VerticalRow.is (c.add_vertical_row.ensures.runs c.args.number) }
