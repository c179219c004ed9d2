use Rattle.tbr_renderer.proofs.Common.{◌∙◌, ap, sym, Some, chars, title_by_mode}
use Rattle.tbr_renderer.proofs.Images.{titled, untitled}
use Rattle.tbr_renderer.proofs.options.ImageRenderMode.shown_title.Goals as goal

pub returns-then-not-is_empty-clause-some : goal.returns-then-not-is_empty-clause-some
returns-then-not-is_empty-clause-some c = titled c.args.self (chars c.args.src.now) c.args.title.now c.utf8.title c.if-not-is_empty.ensures

pub returns-in-IgnoreEmpty-clause-none : goal.returns-in-IgnoreEmpty-clause-none
returns-in-IgnoreEmpty-clause-none c = λ none.
    untitled c.args.self (chars c.args.src.now) c.args.title.now c.if-not-is_empty.ensures ∙ ap (λ mode. title_by_mode mode (chars c.args.src.now)) c.in-IgnoreEmpty.is

pub returns-in-Replace-clause-some : goal.returns-in-Replace-clause-some
returns-in-Replace-clause-some c =
    untitled c.args.self (chars c.args.src.now) c.args.title.now c.if-not-is_empty.ensures ∙ ap (λ mode. title_by_mode mode (chars c.args.src.now)) c.in-Replace.is

pub returns-in-Filename-clause-some : goal.returns-in-Filename-clause-some
returns-in-Filename-clause-some c =
    untitled c.args.self (chars c.args.src.now) c.args.title.now c.if-not-is_empty.ensures ∙ ap (λ mode. title_by_mode mode (chars c.args.src.now)) c.in-Filename.is ∙ ap Some (sym c.file_name.ensures)
