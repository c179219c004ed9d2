use Rattle.tbr_flat.proofs.Common.{drop, ap, sym, ◌∙◌}
use Rattle.tbr_flat.proofs.text_queue.TextQueue.pop_blanks.Goals as goal

pub returns-clause-all : goal.returns-clause-all
returns-clause-all c = λ less d rest e.
    c.blanks_in_front-count.ensures.all less d rest (ap (drop c.blanks_in_front-count.result) c.as_str-text.ensures ∙ sym c.forget.ensures ∙ e)
