use Rattle.tbr_program.proofs.Common.{refl, ◌<◌, Err, subst, sym, ap, ◌∙◌, decoration_of, request_of, ask, GoesOn, after_command}
use Rattle.tbr_program.proofs.Levels.{top_live}
use Rattle.tbr_program.proofs.LiveRenderers.{some_preformats, some_strikeouts}
use Rattle.tbr_program.proofs.LivePrograms.{command_done}
use Rattle.tbr_program.proofs.MadeCommands.{request_early, request_done, request_narrow}
use Rattle.tbr_program.proofs.Results.{runs_early, runs_refused}
use Rattle.tbr_program.proofs.program.Program.call.Goals as goal

pub returns-then-lacks : goal.returns-then-lacks
returns-then-lacks g c =
    let columns = g.W.CharWidth.columns in
    let decoration = decoration_of g.D.TextDecorator g.D.Annotation.Tag.tells in
    let request = request_of c.args.request.now in
    record {
      runs = runs_early (after_command columns decoration c.args.number (ask request)) c.args.self.now _ _ refl
          (request_early columns decoration c.args.number _ c.args.self.now c.self.view_is request (sym c.lacks.ensures ∙ c.if-lacks.true));
    }

pub returns-in_err-call : goal.returns-in_err-call
returns-in_err-call g c =
    let columns = g.W.CharWidth.columns in
    let decoration = decoration_of g.D.TextDecorator g.D.Annotation.Tag.tells in
    let request = request_of c.args.request.now in
    record {
      runs = runs_refused (after_command columns decoration c.args.number (ask request)) c.args.self.now _
          c.from_residual-in_err-call.result c.in_err-call.field-0.0 c.from_residual-in_err-call.ensures.1 (λ e.
          request_narrow columns decoration c.args.number _ c.args.self.now c.self.view_is c.top_mut-top.result.now
          c.top_mut-top.ensures.top request (sym c.lacks.ensures ∙ c.if-lacks.false) (c.call.ensures.too_narrow (c.in_err-call.was ∙ ap Err e)));
    }

pub returns : goal.returns
returns g c =
    let columns = g.W.CharWidth.columns in
    let decoration = decoration_of g.D.TextDecorator g.D.Annotation.Tag.tells in
    let request = request_of c.args.request.now in
    record {
      runs = command_done columns decoration c.args.number (ask request) c.args.self.now _ c.requires _
          (request_done columns decoration c.args.number _ c.args.self.now c.self.view_is c.top_mut-top.result.now
          c.top_mut-top.ensures.top request (sym c.lacks.ensures ∙ c.if-lacks.false) c.call.new.renderer
          c.note.new.self c.in_ok-note.ensures.counts c.in_ok-call.ensures.ok);
    }

pub call-requires-clause-live : goal.call-requires-clause-live
call-requires-clause-live g c =
    let i = c.self.inside in
    (top_live i.renderers i.pending i.opened (subst GoesOn (sym c.self.view_is) c.requires) c.top_mut-top.result.now c.top_mut-top.ensures.top).0

pub call-requires-clause-preformats : goal.call-requires-clause-preformats
call-requires-clause-preformats g c = λ is.
    let i = c.self.inside in
    let live = top_live i.renderers i.pending i.opened (subst GoesOn (sym c.self.view_is) c.requires) c.top_mut-top.result.now c.top_mut-top.ensures.top in
    subst (λ n. 0 < n) (sym live.1) (some_preformats i.pending.begun (request_of c.args.request.now) (sym c.lacks.ensures ∙ c.if-lacks.false) is)

pub call-requires-clause-strikeouts : goal.call-requires-clause-strikeouts
call-requires-clause-strikeouts g c = λ is on.
    let i = c.self.inside in
    let live = top_live i.renderers i.pending i.opened (subst GoesOn (sym c.self.view_is) c.requires) c.top_mut-top.result.now c.top_mut-top.ensures.top in
    subst (λ n. 0 < n) (sym (live.2 on)) (some_strikeouts i.pending.begun (request_of c.args.request.now) (sym c.lacks.ensures ∙ c.if-lacks.false) is)
