use Rattle.tbr_program.proofs.Common.{refl, ◌≡◌, true, false, Err, ap, ◌∙◌, string_bytes, subst, sym, decoration_of, append, GoesOn, after_command}
use Rattle.tbr_program.proofs.Levels.{top_live}
use Rattle.tbr_program.proofs.LivePrograms.{command_done}
use Rattle.tbr_program.proofs.MadeCommands.{some_opened, no_block, block_waits, block_done, block_narrow}
use Rattle.tbr_program.proofs.Results.{runs_early, runs_refused}
use Rattle.tbr_program.proofs.program.Program.append.Goals as goal

pub returns-then-not-is_sub : goal.returns-then-not-is_sub
returns-then-not-is_sub g c =
    let columns = g.W.CharWidth.columns in
    let decoration = decoration_of g.D.TextDecorator g.D.Annotation.Tag.tells in
    let texts = c.args.prefixes.now in
    record {
      runs = runs_early (after_command columns decoration c.args.number (append (string_bytes texts.first) (string_bytes texts.second))) c.args.self.now _ _ refl
          (no_block columns decoration c.args.number _ c.args.self.now c.self.view_is (string_bytes texts.first)
          (string_bytes texts.second) (λ is. let h : c.is_sub.result ≡ true = c.is_sub.ensures.1 is in let k = c.if-not-is_sub.true in cc));
    }

pub returns-then-has_cells : goal.returns-then-has_cells
returns-then-has_cells g c =
    let columns = g.W.CharWidth.columns in
    let decoration = decoration_of g.D.TextDecorator g.D.Annotation.Tag.tells in
    let texts = c.args.prefixes.now in
    record {
      runs = runs_early (after_command columns decoration c.args.number (append (string_bytes texts.first) (string_bytes texts.second))) c.args.self.now _ _ refl
          (block_waits columns decoration c.args.number _ c.args.self.now c.self.view_is (string_bytes texts.first)
          (string_bytes texts.second) (c.is_sub.ensures.0 (cc)) (λ none. let h : c.has_cells.result ≡ false = c.has_cells.ensures.1 none in cc));
    }

pub close-inside-requires-clause-opened : goal.close-inside-requires-clause-opened
close-inside-requires-clause-opened g c = some_opened _ c.args.self.now c.self.view_is _ (c.is_sub.ensures.0 (cc))

pub append_after-requires : goal.append_after-requires
append_after-requires g c =
    let j = c.self-2.inside in
    (top_live j.renderers j.pending j.opened (subst GoesOn (sym c.self-2.view_is) c.close-inside.ensures.goes_on) c.top_mut-top.result.now c.top_mut-top.ensures.top).0

pub returns-in_err-append_after : goal.returns-in_err-append_after
returns-in_err-append_after g c =
    let columns = g.W.CharWidth.columns in
    let decoration = decoration_of g.D.TextDecorator g.D.Annotation.Tag.tells in
    let texts = c.args.prefixes.now in
    record {
      runs = runs_refused (after_command columns decoration c.args.number
          (append (string_bytes texts.first) (string_bytes texts.second))) c.args.self.now _ c.from_residual.result
          c.in_err-append_after.field-0.0 c.from_residual.ensures.1 (λ e.
          block_narrow columns decoration c.args.number _ c.args.self.now c.self.view_is (string_bytes texts.first) (string_bytes texts.second) (c.is_sub.ensures.0 (cc)) (c.has_cells.ensures.0 (cc))
          c.close-inside.result c.close-inside.new.self _ c.close-inside.ensures.closes c.self-2.view_is
          c.top_mut-top.result.now c.top_mut-top.ensures.top (c.append_after.ensures.tries.too_narrow (c.in_err-append_after.was ∙ ap Err e)));
    }

pub returns : goal.returns
returns g c =
    let columns = g.W.CharWidth.columns in
    let decoration = decoration_of g.D.TextDecorator g.D.Annotation.Tag.tells in
    let texts = c.args.prefixes.now in
    record {
      runs = command_done columns decoration c.args.number (append (string_bytes texts.first) (string_bytes texts.second)) c.args.self.now _ c.requires _
          (block_done columns decoration c.args.number _ c.args.self.now c.self.view_is (string_bytes texts.first) (string_bytes texts.second) (c.is_sub.ensures.0 (cc)) (c.has_cells.ensures.0 (cc))
          c.close-inside.result c.close-inside.new.self _ c.close-inside.ensures.closes c.self-2.view_is
          c.top_mut-top.result.now c.top_mut-top.ensures.top c.append_after.new.renderer c.in_ok-append_after.ensures.tries.ok);
    }
