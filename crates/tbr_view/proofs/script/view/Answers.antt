use Rattle.tbr_view.proofs.Common.{chars_of, subst}
use Rattle.tbr_view.specs.Script.{Begins}
use Rattle.tbr_commands.specs.declared.opening.Decorator.TheVariants.{Plain, Trivial, Rich}
use Rattle.tbr_view.proofs.ShownLines.{shown_script}
use Rattle.tbr_view.proofs.script.view.Goals as goal

pub returns-in_ok-text-in-Plain : goal.returns-in_ok-text-in-Plain
returns-in_ok-text-in-Plain g c =
    let shown = c.in_ok-shown-in-Plain in
    let first = c.in_ok-opening in
    let begins = subst (λ script. Begins script first.opening first.number c.first_command.new.lines) c.of-lines.ensures first.ensures.begins in
    shown_script g.W.CharWidth.columns c.args.script.now c.args.view (chars_of c.in_ok-text-in-Plain.text) first.opening c.with_settings-opening.result first.number c.first_command.new.lines Plain
    begins c.with_settings-opening.ensures.opening c.in-Plain.is (shown.shown.items, shown.ensures, c.in_ok-text-in-Plain.ensures)

pub returns-in_ok-text-in-Trivial : goal.returns-in_ok-text-in-Trivial
returns-in_ok-text-in-Trivial g c =
    let shown = c.in_ok-shown-in-Trivial in
    let first = c.in_ok-opening in
    let begins = subst (λ script. Begins script first.opening first.number c.first_command.new.lines) c.of-lines.ensures first.ensures.begins in
    shown_script g.W.CharWidth.columns c.args.script.now c.args.view (chars_of c.in_ok-text-in-Trivial.text) first.opening c.with_settings-opening.result first.number c.first_command.new.lines Trivial
    begins c.with_settings-opening.ensures.opening c.in-Trivial.is (shown.shown.items, shown.ensures, c.in_ok-text-in-Trivial.ensures)

pub returns-in_ok-text-in-Rich : goal.returns-in_ok-text-in-Rich
returns-in_ok-text-in-Rich g c =
    let shown = c.in_ok-shown-in-Rich in
    let first = c.in_ok-opening in
    let begins = subst (λ script. Begins script first.opening first.number c.first_command.new.lines) c.of-lines.ensures first.ensures.begins in
    shown_script g.W.CharWidth.columns c.args.script.now c.args.view (chars_of c.in_ok-text-in-Rich.text) first.opening c.with_settings-opening.result first.number c.first_command.new.lines Rich
    begins c.with_settings-opening.ensures.opening c.in-Rich.is (shown.shown.items, shown.ensures, c.in_ok-text-in-Rich.ensures)
