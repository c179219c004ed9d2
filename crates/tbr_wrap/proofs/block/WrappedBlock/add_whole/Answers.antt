use Rattle.tbr_wrap.proofs.Common.{[], refl, ap, ◌∙◌, sym, rules, answers_ok, settings_of}
use Rattle.tbr_wrap.proofs.runs.Blocks.{grown_on, text_done}
use Rattle.tbr_wrap.proofs.block.WrappedBlock.add_whole.Goals as goal

pub loop-rest-init : goal.loop-rest-init
loop-rest-init g c = record { utf8 = c.utf8.text; grown = record { front = []; split = refl; is = c.begin_call.ensures.begun }; allowed = c.begin_call.ensures.allowed }

pub loop-rest-preserved : goal.loop-rest-preserved
loop-rest-preserved g c = search (rules, grown_on, c.in_ok-rest.ensures.rest.0, c.loop-rest.invariant.grown, c.in_ok-rest.ensures.ok, c.in_ok-rest.ensures.allowed)

pub returns : goal.returns
returns g c =
    let grown = c.loop-rest.invariant.grown in
    let done = text_done g.W.CharWidth.columns _ _ _ _ _ _ _ grown (sym c.is_empty.ensures ∙ c.loop-rest-test.false) c.loop-rest.invariant.allowed in
    record { answers = answers_ok _ _ _ _ tt _ c.in_ok-refusal.ensures done (ap settings_of grown.is) }
