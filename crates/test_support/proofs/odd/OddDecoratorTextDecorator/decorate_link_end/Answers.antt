use Rattle.std.proofs.Common.{◌∷◌, [], ◌∙◌, refl}
use Rattle.std.proofs.Math.Utf8.{encode}
use Rattle.std.proofs.lemmas.Result.{IfOk-weaker}
use Rattle.std.proofs.lemmas.Str.{chars-encodes}
use Rattle.test_support.proofs.odd.OddDecoratorTextDecorator.decorate_link_end.Goals as goal

pub returns-clause-text : goal.returns-clause-text
unfolding encode
returns-clause-text c = IfOk-weaker c.copy.result _ _ (λ t h. h ∙ chars-encodes (0x200B ∷ []) refl) c.copy.ensures
