use Rattle.callers.proofs.Common.{◌∷◌, [], chars, on_ok_weaker}
use Rattle.tbr_decor.specs.Start as start
use Rattle.tbr_decor.specs.End as end
use Rattle.text_block_renderer.specs.Calls as call
use Rattle.text_block_renderer.specs.Calls.{after_by}
use Rattle.text_block_renderer.proofs.OutcomeParts.{run_on, run_last}
use Rattle.callers.proofs.emphasised.emphasised.Goals as goal

pub returns-clause-ok : goal.returns-clause-ok
returns-clause-ok g c =
    let after = after_by g.R.Renderer.calls in
    let state = g.R.Renderer.calls.state in
    let text = call.add_inline_text (chars c.args.text.now) in
    let ends = call.finish end.emphasis in
    on_ok_weaker c.end_emphasis.result (λ h.
    run_on after (call.begin start.emphasis) (text ∷ ends ∷ []) (state c.args.r.now) (state c.start_emphasis.new.self) _ c.in_ok-start_emphasis.ensures.answers.ok
    (run_on after text (ends ∷ []) (state c.start_emphasis.new.self) (state c.add_inline_text.new.self) _ c.in_ok-add_inline_text.ensures.answers.ok
    (run_last after ends (state c.add_inline_text.new.self) (state c.end_emphasis.new.self) h))) c.end_emphasis.ensures.answers.ok
