use Rattle.std.proofs.Common.{◌≡◌, map, chars, ap}
use Rattle.std.specs.String.{string_bytes}
use Rattle.std.proofs.lemmas.Result.{IfOk-weaker}
use Rattle.tbr_decor.specs.declared.annotation.RichAnnotation.TheVariants.{Default}
use Rattle.tbr_decor.specs.Style.{plain, style_of}
use Rattle.tbr_decor.proofs.Footnotes.{footnotes_meant}
use Rattle.test_support.proofs.odd.OddDecoratorTextDecorator.finalise.Goals as goal

pub returns-clause-lines : goal.returns-clause-lines
returns-clause-lines c =
    let urls = map (λ url. chars (string_bytes url)) c.args.urls.items in
    IfOk-weaker c.finalise.result _ _ (λ lines h. footnotes_meant (λ a. a ≡ Default) style_of plain (λ _ e. ap style_of e) 1 urls lines.items h) c.finalise.ensures
