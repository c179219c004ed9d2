use Rattle.tbr_program.proofs.Common.{◌≡◌, Some, map, sym, ap, ◌∙◌, subst, decoration_of, line_seen, top_of, GoesOn, done, refused}
use Rattle.tbr_tagged.specs.declared.Error.TheVariants.{TooNarrow}
use Rattle.tbr_program.specs.Closing.{closed}
use Rattle.tbr_program.specs.Safe.{listed}
use Rattle.tbr_program.proofs.Levels.{only_level, top_live}
use Rattle.tbr_program.proofs.Results.{if_ok_then}
use Rattle.tbr_program.proofs.program.Program.finish_lines.Goals as goal

pub into_inner-renderer-requires : goal.into_inner-renderer-requires
into_inner-renderer-requires g c =
    only_level c.self.inside.renderers c.self.inside.pending c.self.inside.opened (subst GoesOn (sym c.self.view_is) c.requires.goes_on) (ap (λ p. p.opened) c.self.view_is ∙ c.requires.opened)

pub returns-clause-lines : goal.returns-clause-lines
returns-clause-lines g c =
    let stack = ap (λ p. p.stack) c.self.view_is in
    let r = c.into_inner-renderer.result.0 in
    let top = subst (λ s. top_of s ≡ Some r) stack c.into_inner-renderer.ensures.renderer in
    let links = c.in_ok-listed.ensures ∙ ap (listed c.args.raw) (c.into_inner-renderer.ensures.links ∙ ap (λ s. s.links) stack) in
    if_ok_then c.close_lines.result (λ lines h. (
      r,
      top,
      subst (λ targets. closed g.W.CharWidth.columns (decoration_of g.D.TextDecorator g.D.Annotation.Tag.tells)
          targets r ≡ done (map line_seen lines.items)) links h,
    )) c.close_lines.ensures.lines

pub returns-clause-too_narrow : goal.returns-clause-too_narrow
returns-clause-too_narrow g c = λ narrow.
    let stack = ap (λ p. p.stack) c.self.view_is in
    let r = c.into_inner-renderer.result.0 in
    let top = subst (λ s. top_of s ≡ Some r) stack c.into_inner-renderer.ensures.renderer in
    let links = c.in_ok-listed.ensures ∙ ap (listed c.args.raw) (c.into_inner-renderer.ensures.links ∙ ap (λ s. s.links) stack) in
    (r, top, subst (λ targets. closed g.W.CharWidth.columns (decoration_of g.D.TextDecorator g.D.Annotation.Tag.tells) targets r ≡ refused TooNarrow) links (c.close_lines.ensures.too_narrow narrow))

pub close_lines-requires : goal.close_lines-requires
close_lines-requires g c =
    (top_live c.self.inside.renderers c.self.inside.pending c.self.inside.opened
    (subst GoesOn (sym c.self.view_is) c.requires.goes_on) c.into_inner-renderer.result.0 c.into_inner-renderer.ensures.renderer).0
