use Rattle.callers.proofs.Common.{refl, IfOk-weaker, footnotes_meant}
use Rattle.std.specs.Prelude.{⊤}
use Rattle.callers.proofs.stars.StarDecoratorTextDecorator.finalise.Goals as goal

pub returns-clause-lines : goal.returns-clause-lines
returns-clause-lines c = IfOk-weaker c.finalise.result _ _ (λ lines. footnotes_meant (λ _. ⊤) (λ a. a) tt (λ _ _. refl) 1 _ lines.items) c.finalise.ensures
