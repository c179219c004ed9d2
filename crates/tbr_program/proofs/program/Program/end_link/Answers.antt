use Rattle.tbr_program.proofs.Common.{refl, ◌≢◌, length, Err, sym, ap, ◌∙◌, subst, decoration_of, open_links, end_link, GoesOn, after_command}
use Rattle.tbr_program.proofs.Levels.{has_top}
use Rattle.tbr_program.proofs.LivePrograms.{command_done}
use Rattle.tbr_program.proofs.MadeCommands.{no_link, end_done, end_narrow}
use Rattle.tbr_program.proofs.Results.{runs_early, runs_refused}
use Rattle.tbr_program.proofs.program.Program.end_link.Goals as goal

pub open_links-requires : goal.open_links-requires
open_links-requires g c =
    let i = c.self.inside in
    has_top i.renderers i.pending i.opened (subst GoesOn (sym c.self.view_is) c.requires)

pub end_link-requires : goal.end_link-requires
end_link-requires g c =
    let i = c.self.inside in
    has_top i.renderers i.pending i.opened (subst GoesOn (sym c.self.view_is) c.requires)

pub returns-then-open_links-eq0 : goal.returns-then-open_links-eq0
returns-then-open_links-eq0 g c =
    let columns = g.W.CharWidth.columns in
    let decoration = decoration_of g.D.TextDecorator g.D.Annotation.Tag.tells in
    record {
      runs = runs_early (after_command columns decoration c.args.number end_link) c.args.self.now _ _ refl
          (no_link columns decoration c.args.number _ c.args.self.now c.self.view_is (sym c.open_links.ensures ∙ c.if-open_links-eq0.true));
    }

pub returns-in_err-end_link : goal.returns-in_err-end_link
returns-in_err-end_link g c =
    let columns = g.W.CharWidth.columns in
    let decoration = decoration_of g.D.TextDecorator g.D.Annotation.Tag.tells in
    let some : length (open_links c.self.inside.renderers) ≢ 0 = λ e. c.if-open_links-eq0.false (c.open_links.ensures ∙ e) in
    record {
      runs = runs_refused (after_command columns decoration c.args.number end_link) c.args.self.now _ c.from_residual.result c.in_err-end_link.field-0.0 c.from_residual.ensures.1 (λ e.
          end_narrow columns decoration c.args.number _ c.args.self.now c.self.view_is some (c.end_link.ensures.tries.too_narrow (c.in_err-end_link.was ∙ ap Err e)));
    }

pub returns : goal.returns
returns g c =
    let columns = g.W.CharWidth.columns in
    let decoration = decoration_of g.D.TextDecorator g.D.Annotation.Tag.tells in
    let some : length (open_links c.self.inside.renderers) ≢ 0 = λ e. c.if-open_links-eq0.false (c.open_links.ensures ∙ e) in
    record {
      runs = command_done columns decoration c.args.number end_link c.args.self.now _ c.requires _
          (end_done columns decoration c.args.number _ c.args.self.now c.self.view_is some c.end_link.new.self c.in_ok-end_link.ensures.tries.ok);
    }
