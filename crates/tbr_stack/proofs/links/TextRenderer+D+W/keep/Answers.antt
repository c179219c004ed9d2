use Rattle.std.proofs.Common.{refl, sym, ◌∙◌}
use Rattle.tbr_stack.proofs.Tops.{failure_of_top}
use Rattle.tbr_stack.proofs.links.TextRenderer+D+W.keep.Goals as goal

pub returns-clause-failed : goal.returns-clause-failed
returns-clause-failed g c =
    let r = c.top_mut.result.now in
    let live = sym (failure_of_top c.args.self.now r c.top_mut.ensures.top) ∙ c.requires.unfailed in
    (r, c.fail.new.self, c.top_mut.ensures.top, c.fail.ensures.live live, refl)
