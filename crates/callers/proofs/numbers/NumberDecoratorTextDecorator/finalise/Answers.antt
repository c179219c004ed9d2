use Rattle.callers.proofs.Common.{◌≡◌, IfOk-weaker, footnotes_meant}
use Rattle.callers.proofs.numbers.NumberDecoratorTextDecorator.finalise.Goals as goal

pub returns-clause-lines : goal.returns-clause-lines
returns-clause-lines c = IfOk-weaker c.finalise.result _ _ (λ lines. footnotes_meant (λ a. a ≡ 0) (λ a. a) 0 (λ _ is. is) 1 _ lines.items) c.finalise.ensures
