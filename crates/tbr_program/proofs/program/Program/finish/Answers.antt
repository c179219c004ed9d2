use Rattle.tbr_program.proofs.Common.{◌≡◌, true, false, Err, inl, inr, ap, ◌∙◌, string_bytes, subst, sym, done, refused, decoration_of, GoesOn, ended}
use Rattle.tbr_tagged.specs.declared.Error.TheVariants.{TooNarrow}
use Rattle.tbr_program.specs.Safe.{listed, shown_links}
use Rattle.tbr_program.proofs.Levels.{only_level, top_live}
use Rattle.tbr_program.proofs.MadeCommands.{still_open, text_given}
use Rattle.tbr_program.proofs.Results.{refused_by}
use Rattle.tbr_program.proofs.program.Program.finish.Goals.{then-not-is_empty-via-then-not-is_empty, then-not-is_empty-via-else-not-is_empty+then-has_cells}
use Rattle.tbr_program.proofs.program.Program.finish.Goals as goal

pub into_inner-renderer-requires : goal.into_inner-renderer-requires
into_inner-renderer-requires g c =
    only_level c.self.inside.renderers c.self.inside.pending c.self.inside.opened (subst GoesOn (sym c.self.view_is) c.requires) (c.is_empty.ensures.0 (cc))

pub returns-then-not-is_empty-clause-refused : goal.returns-then-not-is_empty-clause-refused
returns-then-not-is_empty-clause-refused g c = λ _.
    still_open g.W.CharWidth.columns (decoration_of g.D.TextDecorator g.D.Annotation.Tag.tells) c.args.number _ (shown_links c.args.raw c.args.self) (ap (shown_links c.args.raw) c.self.view_is)
    (elim c.then-not-is_empty.branch [
      | then-not-is_empty-via-then-not-is_empty w ↦ inl
          (λ none. let h : c.is_empty.result ≡ true = c.is_empty.ensures.1 none in cc (h, w.if-not-is_empty.true))
      | then-not-is_empty-via-else-not-is_empty+then-has_cells w ↦ inr
          (λ none. let h : w.has_cells.result ≡ false = w.has_cells.ensures.1 none in cc (h, w.if-has_cells.true))
    ])

pub returns-clause-text : goal.returns-clause-text
returns-clause-text g c =
    let links = c.in_ok-listed.ensures ∙ ap (listed c.args.raw) c.into_inner-renderer.ensures.links in
    text_given g.W.CharWidth.columns (decoration_of g.D.TextDecorator g.D.Annotation.Tag.tells) c.args.number _
    (shown_links c.args.raw c.args.self) (ap (shown_links c.args.raw) c.self.view_is) _ links
    c.into_inner-renderer.result.0 c.into_inner-renderer.ensures.renderer (c.is_empty.ensures.0 (cc)) (c.has_cells.ensures.0 (cc))
    (done (string_bytes c.in_ok-close.field-0)) c.in_ok-close.ensures.text

pub close-requires : goal.close-requires
close-requires g c =
    (top_live c.self.inside.renderers c.self.inside.pending c.self.inside.opened (subst GoesOn (sym c.self.view_is) c.requires) c.into_inner-renderer.result.0 c.into_inner-renderer.ensures.renderer).0

pub returns-in_err-close-clause-refused : goal.returns-in_err-close-clause-refused
returns-in_err-close-clause-refused g c =
    let columns = g.W.CharWidth.columns in
    let decoration = decoration_of g.D.TextDecorator g.D.Annotation.Tag.tells in
    let links = c.in_ok-listed.ensures ∙ ap (listed c.args.raw) c.into_inner-renderer.ensures.links in
    refused_by (λ e. ended columns decoration c.args.number (shown_links c.args.raw c.args.self) ≡ Err e)
    c.from_residual-in_err-close.result c.in_err-close.field-0.0 c.from_residual-in_err-close.ensures.1 (λ e.
    text_given columns decoration c.args.number _ (shown_links c.args.raw c.args.self)
    (ap (shown_links c.args.raw) c.self.view_is) _ links c.into_inner-renderer.result.0
    c.into_inner-renderer.ensures.renderer (c.is_empty.ensures.0 (cc)) (c.has_cells.ensures.0 (cc))
    (refused TooNarrow) (c.close.ensures.too_narrow (c.in_err-close.was ∙ ap Err e)))
