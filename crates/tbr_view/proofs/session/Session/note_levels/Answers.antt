use Rattle.tbr_view.proofs.Common.{◌≡◌, inl, inr, ℕ, ap, sym, ◌∙◌, TextPair, Known, known_in, left, noted}
use Rattle.std.proofs.Common.{◌⊎◌}
use Rattle.tbr_commands.specs.declared.command.Command.{Command}
use Rattle.tbr_commands.specs.declared.command.Command.TheVariants.{Append, EndCell}
use Rattle.tbr_view.proofs.States.{is_left}
use Rattle.tbr_view.proofs.session.Session.note_levels.Goals as goal

closes : (old : Known) (line : ℕ) (command : Command) → ((prefixes : TextPair) × (command ≡ Append prefixes)) ⊎ (command ≡ EndCell) → left old ≡ noted old line command
closes old line command (inl is) = ap (noted old line) (sym is.1)
closes old line command (inr is) = ap (noted old line) (sym is)

pub returns-in-Append-clause-levels : goal.returns-in-Append-clause-levels
returns-in-Append-clause-levels g c =
    let old = known_in c.args.self.now.levels in
    is_left old (known_in c.leave.new.self) c.leave.result c.leave.ensures.closed c.leave.ensures.none ∙ closes old c.args.number c.args.command.now c.in-Append.is
