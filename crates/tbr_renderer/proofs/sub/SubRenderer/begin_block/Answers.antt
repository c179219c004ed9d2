use Rattle.tbr_renderer.proofs.Common.{true, false, sym, ◌∙◌, on_ok_weaker}
use Rattle.tbr_renderer.proofs.JoinedLines.{block_begun}
use Rattle.tbr_renderer.proofs.sub.SubRenderer.begin_block.Goals as goal

pub returns-then-has_content-clause-begun : goal.returns-then-has_content-clause-begun
returns-then-has_content-clause-begun g c =
    let begun = block_begun g.W.CharWidth.columns c.args.self.now true (sym c.if-has_content.true ∙ c.has_content.ensures) in
    on_ok_weaker c.put_empty_line.result (λ e. e ∙ begun) c.put_empty_line.ensures.line

pub returns-clause-begun : goal.returns-clause-begun
returns-clause-begun g c =
    c.set_block_ended.ensures
    ∙ block_begun g.W.CharWidth.columns c.args.self.now false (sym c.if-has_content.false ∙ c.has_content.ensures)
