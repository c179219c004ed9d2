use Rattle.tbr_program.proofs.Common.{◌∷◌, ap, ◌∙◌, decoration_of}
use Rattle.tbr_program.proofs.LivePrograms.{opening_done}
use Rattle.tbr_program.proofs.MadeCommands.{level_opens}
use Rattle.tbr_program.proofs.program.Program.open.Goals as goal

pub returns : goal.returns
returns g c =
    let columns = g.W.CharWidth.columns in
    let decoration = decoration_of g.D.TextDecorator g.D.Annotation.Tag.tells in
    record {
      runs = opening_done columns decoration c.args.by c.args.width c.args.self.now _ c.requires.goes_on _
          (level_opens columns decoration 0 _ c.args.self.now c.self.view_is c.args.by c.args.width c.top.result.now c.in_ok-inside.inside c.push.new.self c.replace-below.new.dest c.open.new.self
          c.top.ensures c.in_ok-inside.ensures.sub c.in_ok-push.ensures.ok
          (c.replace-below.ensures.after ∙ c.nothing.ensures)
          (c.in_ok-open.ensures ∙ ap (λ below. record { by = c.args.by; below = below } ∷ c.self.inside.opened) c.replace-below.ensures.value));
    }
