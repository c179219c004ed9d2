use Rattle.std.proofs.Common.{◌≡◌, sym, ap, subst, ◌∙◌}
use Rattle.tbr_tagged.specs.View.{chars_of}
use Rattle.tbr_c_lines.specs.Formats.{ShowsRest}
use Rattle.tbr_c_lines.specs.Status.{status_of}
use Rattle.tbr_c_lines.specs.declared.lines.Rest.TheVariants.{Bare, Rich}
use Rattle.tbr_c_lines.proofs.Shown.{copied_shown}
use Rattle.tbr_c_lines.proofs.lines.Lines.copy_shown.Goals as goal

pub returns-in_ok-text-in-Bare-clause-shown : goal.returns-in_ok-text-in-Bare-clause-shown
returns-in_ok-text-in-Bare-clause-shown c =
    let rest = c.args.self.now.rest in
    let text = c.in_ok-text-in-Bare.text in
    let done = c.copy_or_keep in
    let is : Bare c.in-Bare.lines ≡ rest = sym c.in-Bare.is ∙ ap (λ l. l.rest) c.self.view_is in
    copied_shown c.args.format rest text c.args.out.now done.new.out c.args.needed.now done.new.needed (status_of done.result)
    (subst (λ r. ShowsRest c.args.format r (chars_of text)) is c.in_ok-text-in-Bare.ensures.shown) done.ensures.copied

pub returns-in_ok-text-in-Rich-clause-shown : goal.returns-in_ok-text-in-Rich-clause-shown
returns-in_ok-text-in-Rich-clause-shown c =
    let rest = c.args.self.now.rest in
    let text = c.in_ok-text-in-Rich.text in
    let done = c.copy_or_keep-in-Rich in
    let is : Rich c.in-Rich.lines ≡ rest = sym c.in-Rich.is ∙ ap (λ l. l.rest) c.self.view_is in
    copied_shown c.args.format rest text c.args.out.now done.new.out c.args.needed.now done.new.needed (status_of done.result)
    (subst (λ r. ShowsRest c.args.format r (chars_of text)) is c.in_ok-text-in-Rich.ensures.shown) done.ensures.copied
