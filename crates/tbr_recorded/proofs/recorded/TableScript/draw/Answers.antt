use Rattle.std.proofs.Common.{◌≡◌, sym, subst}
use Rattle.std.specs.List.{AllByRecursion as Each}
use Rattle.std.proofs.lemmas.Result.{IfOk-weaker}
use Rattle.tbr_tables.specs.Laws.{IsSized}
use Rattle.tbr_tables.specs.Recorded.{calls_in}
use Rattle.tbr_recorded.proofs.Sized.{calls_sized}
use Rattle.tbr_recorded.proofs.recorded.TableScript.draw.Goals as goal

pub returns-clause-sized : goal.returns-clause-sized
returns-clause-sized c =
    let r = c.deref.result.now in
    IfOk-weaker c.draw.result (λ calls. calls.items ≡ calls_in c.args.room r) (λ calls. Each IsSized calls.items)
    (λ calls is. subst (Each IsSized) (sym is) (calls_sized c.args.room r)) c.draw.ensures
