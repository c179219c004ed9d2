use Rattle.std.proofs.Common.{◌≡◌, ◌≤◌, None, Some, sym, subst, ◌∙◌}
use Rattle.std.proofs.lemmas.Result.{on_err_weaker}
use Rattle.tbr_decor.specs.Decoration.{decoration_of}
use Rattle.tbr_renderer.specs.Renderer.{block_columns}
use Rattle.tbr_stack.proofs.Ends.{ended}
use Rattle.tbr_stack.proofs.links.end_with.Goals as goal

pub add_number-requires : goal.add_number-requires
add_number-requires g c =
    let steady = ended g.W.CharWidth.columns (decoration_of g.D.TextDecorator g.D.Annotation.Tag.tells) c.args.renderer.now c.end_link.new.self c.in_ok-end_link.ensures.answers.ok in
    steady.failure

pub returns-in-Some-clause-two_columns : goal.returns-in-Some-clause-two_columns
returns-in-Some-clause-two_columns g c wide refused =
    let steady = ended g.W.CharWidth.columns (decoration_of g.D.TextDecorator g.D.Annotation.Tag.tells) c.args.renderer.now c.end_link.new.self c.in_ok-end_link.ensures.answers.ok in
    c.add_number.ensures.answers.two_columns (steady.failure, subst (λ k. 2 ≤ block_columns k) (sym steady.kept) wide.1) refused

pub returns-in-Some-clause-fails : goal.returns-in-Some-clause-fails
returns-in-Some-clause-fails g c =
    let steady = ended g.W.CharWidth.columns (decoration_of g.D.TextDecorator g.D.Annotation.Tag.tells) c.args.renderer.now c.end_link.new.self c.in_ok-end_link.ensures.answers.ok in
    record {
      refusal = (c.add_number.ensures.answers.fails.refusal.0, λ e failed. absurd (let no : None ≡ Some e = sym steady.live ∙ failed in cc));
      kept = on_err_weaker c.add_number.result (λ h. h ∙ steady.kept) c.add_number.ensures.answers.fails.kept;
    }
