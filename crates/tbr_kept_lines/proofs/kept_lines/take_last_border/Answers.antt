use Rattle.tbr_kept_lines.proofs.Common.{refl, sym, ◌∙◌}
use Rattle.tbr_kept_lines.proofs.LastBorder.{no_border_there}
use Rattle.tbr_kept_lines.proofs.kept_lines.take_last_border.Goals as goal

pub returns-then-not-is_border-clause-none : goal.returns-then-not-is_border-clause-none
returns-then-not-is_border-clause-none g c = λ none.
    let found = rw c.deref.ensures.value at c.last.ensures.item in
    (refl, no_border_there c.args.lines.now.items c.last.result (sym c.is_border.ensures ∙ c.if-not-is_border.true) found.2 found.1)
