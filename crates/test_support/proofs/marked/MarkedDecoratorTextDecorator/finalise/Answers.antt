use Rattle.std.proofs.Common.{◌≡◌, map, chars}
use Rattle.std.specs.String.{string_bytes}
use Rattle.std.proofs.lemmas.Result.{IfOk-weaker}
use Rattle.test_support.specs.declared.marked.Mark.TheVariants.{Nothing}
use Rattle.tbr_decor.proofs.Footnotes.{footnotes_meant}
use Rattle.test_support.proofs.marked.MarkedDecoratorTextDecorator.finalise.Goals as goal

pub returns-clause-lines : goal.returns-clause-lines
returns-clause-lines c =
    let urls = map (λ url. chars (string_bytes url)) c.args.urls.items in
    IfOk-weaker c.finalise.result _ _ (λ lines h. footnotes_meant (λ a. a ≡ Nothing) (λ a. a) Nothing (λ _ e. e) 1 urls lines.items h) c.finalise.ensures
