use Rattle.column_widths.proofs.Common.{◌∙◌}
use Rattle.column_widths.proofs.Cases.{widths_is}
use Rattle.column_widths.proofs.columns.Columns.widths.Goals as goal

pub returns : goal.returns
returns c =
    let same = widths_is c.args.self.now c.args.room c.in-Some.room c.deref.result.now (c.deref.ensures.value ∙ c.in_ok-needs.ensures) c.in-Some.ensures.0 c.in-Some.ensures.1 in
    rw same at c.widths_beside_lines.ensures
