use Rattle.callers.proofs.Common.{ap, ◌∙◌, on_ok_weaker, with_more}
use Rattle.std.proofs.lemmas.Iterator.{YieldsList-from_chars}
use Rattle.std.proofs.lemmas.Iterator.Consumers.{count_from_yields_List}
use Rattle.callers.proofs.counter.Counter.count_text.Goals as goal

pub returns-clause-ok : goal.returns-clause-ok
returns-clause-ok c =
    let all = count_from_yields_List c.chars.result c.count.result c.count.ensures.ran (YieldsList-from_chars c.args.text.now c.utf8.text c.chars.ensures.rest) in
    on_ok_weaker c.count-2.result (λ h. (h.0, h.1 ∙ ap (λ n. with_more n c.args.self.now) all)) c.count-2.ensures.ok
