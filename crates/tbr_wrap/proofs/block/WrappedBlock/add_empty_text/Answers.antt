use Rattle.tbr_wrap.proofs.Common.{ap, ◌∙◌, sym, answers_ok, settings_of, settled, lines, allows}
use Rattle.tbr_wrap.proofs.runs.Blocks.{if_allowed}
use Rattle.tbr_wrap.proofs.block.WrappedBlock.add_empty_text.Goals as goal

pub returns : goal.returns
returns g c =
    let columns = g.W.CharWidth.columns in let new = c.begin_call.new.self in
    let grown = c.begin_call.ensures.begun in
    let done = ap (settled columns) (sym grown) ∙ if_allowed columns (allows columns new (lines columns new)) new c.begin_call.ensures.allowed in
    record { answers = λ a b mode. answers_ok _ _ _ _ tt _ c.in_ok-refusal.ensures done (ap settings_of grown) }
