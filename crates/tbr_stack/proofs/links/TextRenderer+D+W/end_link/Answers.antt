use Rattle.std.proofs.Common.{◌≡◌}
use Rattle.tbr_renderer.specs.Renderer.{kept_of}
use Rattle.tbr_renderer.proofs.KeptRefusals.{on_err}
use Rattle.tbr_stack.proofs.Tops.{changes}
use Rattle.tbr_stack.proofs.links.TextRenderer+D+W.end_link.Goals as goal

pub returns-in_err-end_with-clause-left : goal.returns-in_err-end_with-clause-left
returns-in_err-end_with-clause-left g c unfailed =
    on_err c.from_residual.result (changes (λ r q. kept_of q ≡ kept_of r) c.args.self.now c.top_mut.result.now c.end_with.new.renderer c.top_mut.ensures.top c.in_err-end_with.ensures.fails.kept)
