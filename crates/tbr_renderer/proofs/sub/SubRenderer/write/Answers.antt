use Rattle.tbr_renderer.proofs.Common.{◌≡◌, ℕ, [], rules, chars, ap, sym, ◌∙◌, subst, nil_from_length, chars-nil, called, Writes}
use Rattle.std.proofs.lemmas.Bool.{eqb-true}
use Rattle.tbr_renderer.specs.Renderer.{entries_of}
use Rattle.tbr_renderer.proofs.StruckTexts.{struck_none}
use Rattle.tbr_renderer.proofs.sub.SubRenderer.write.Goals as goal

pub returns-then-is_empty-clause-writes : goal.returns-then-is_empty-clause-writes
returns-then-is_empty-clause-writes g c =
    let columns = g.W.CharWidth.columns in let r = c.args.self.now in
    let none : chars c.args.text.now ≡ [] = ap chars (nil_from_length c.args.text.now (eqb-true _ _ (sym c.is_empty.ensures ∙ c.if-is_empty.true))) ∙ chars-nil in
    subst (λ cs. Writes columns r (called (entries_of columns g.D.TextDecorator.preformatted r cs)) c.args.block.now
    c.write_nothing.result c.write_nothing.new.block) (sym none) c.write_nothing.ensures.writes

pub returns-then-self-eq0-clause-writes : goal.returns-then-self-eq0-clause-writes
returns-then-self-eq0-clause-writes g c = search (rules, ℕ, struck_none, c.self.view_is, c.if-self-eq0.true, c.write_under.ensures.writes)
