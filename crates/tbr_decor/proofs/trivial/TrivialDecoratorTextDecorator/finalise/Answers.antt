use Rattle.std.proofs.Common.{map, chars, refl}
use Rattle.std.specs.Prelude.{⊤}
use Rattle.std.specs.String.{string_bytes}
use Rattle.std.proofs.lemmas.Result.{IfOk-weaker}
use Rattle.tbr_decor.proofs.Footnotes.{footnotes_meant}
use Rattle.tbr_decor.proofs.trivial.TrivialDecoratorTextDecorator.finalise.Goals as goal

pub returns-clause-lines : goal.returns-clause-lines
returns-clause-lines c =
    let urls = map (λ url. chars (string_bytes url)) c.args.urls.items in
    IfOk-weaker c.finalise.result _ _ (λ lines h. footnotes_meant (λ _. ⊤) (λ a. a) tt (λ _ _. refl) 1 urls lines.items h) c.finalise.ensures
