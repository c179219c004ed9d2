use Rattle.tbr_show.proofs.Common.{ap, ◌∙◌, ◌++◌, sym}
use Rattle.tbr_show.specs.Ndjson.{details}
use Rattle.tbr_show.proofs.Appended.{one_after}
use Rattle.tbr_show.proofs.ndjson.write_details.Goals as goal

pub returns-in_ok-boolean-in-Preformat-clause-tokens : goal.returns-in_ok-boolean-in-Preformat-clause-tokens
returns-in_ok-boolean-in-Preformat-clause-tokens c =
    one_after _ _ _ _ _ c.in_ok-key-in-Preformat.ensures.ok c.in_ok-boolean-in-Preformat.ensures.ok
    ∙ ap (λ a. c.args.writer.now.tokens ++ details a) (sym c.in-Preformat.is)
