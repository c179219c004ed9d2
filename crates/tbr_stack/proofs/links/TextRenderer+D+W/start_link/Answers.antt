use Rattle.std.proofs.Common.{◌≡◌, Some, chars, inl, inr, sym, subst, ap, ◌∙◌}
use Rattle.std.proofs.lemmas.Result.{on_err_weaker}
use Rattle.tbr_renderer.specs.Renderer.{kept_of}
use Rattle.tbr_renderer.proofs.KeptRefusals.{on_err}
use Rattle.tbr_tagged.specs.declared.Error.TheVariants.{OutOfMemory}
use Rattle.tbr_decor.specs.Start as start
use Rattle.tbr_decor.specs.Decoration.{decoration_of}
use Rattle.tbr_renderer.specs.Calls.{begin, after}
use Rattle.tbr_stack.specs.Stack.{top_of}
use Rattle.tbr_stack.specs.Top.{ChangesTop}
use Rattle.tbr_stack.proofs.Tops.{failure_of_top, top_linked, changes_linked, tries_linked, if_ok, if_err}
use Rattle.tbr_stack.proofs.links.TextRenderer+D+W.start_link.Goals as goal

pub returns-in_err-keep-clause-left : goal.returns-in_err-keep-clause-left
returns-in_err-keep-clause-left g c unfailed =
    let same = if_err c.open_link-done.result (c.in_err-keep.ensures).result c.open_link-done.ensures.err in
    on_err c.from_residual-in_err-keep.result (inl (subst (λ s. ChangesTop (λ r q. q ≡ record r { failure = Some OutOfMemory }) s c.keep.new.self) same (c.in_err-keep.ensures).failed))

pub returns-clause-tries : goal.returns-clause-tries
returns-clause-tries g c =
    let is = (c.in_ok-keep.ensures).ok ∙ if_ok c.open_link-done.result (c.in_ok-keep.ensures).result c.open_link-done.ensures.ok in
    let answers = c.start_link.ensures.answers in
    tries_linked (after g.W.CharWidth.columns (decoration_of g.D.TextDecorator g.D.Annotation.Tag.tells) (begin (start.link (chars c.args.target.now)))) (chars c.args.target.now)
    c.args.self.now c.keep.new.self c.top_mut.result.now c.start_link.new.self c.start_link.result is c.top_mut.ensures.top (record { ok = answers.ok; too_narrow = answers.too_narrow })

pub returns-clause-left : goal.returns-clause-left
returns-clause-left g c unfailed =
    let is = (c.in_ok-keep.ensures).ok ∙ if_ok c.open_link-done.result (c.in_ok-keep.ensures).result c.open_link-done.ensures.ok in
    let top = sym (top_linked (chars c.args.target.now) c.args.self.now) ∙ sym (ap (λ s. top_of s) is) ∙ c.top_mut.ensures.top in
    let live = sym (failure_of_top c.args.self.now c.top_mut.result.now top) ∙ unfailed in
    on_err_weaker c.start_link.result
    (λ h. inr
    (changes_linked (λ r q. kept_of q ≡ kept_of r) (chars c.args.target.now) c.args.self.now c.keep.new.self
    c.top_mut.result.now c.start_link.new.self is c.top_mut.ensures.top h))
    c.start_link.ensures.answers.fails.kept
