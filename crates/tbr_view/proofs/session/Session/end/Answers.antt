use Rattle.tbr_view.proofs.Common.{ap, sym, ◌∙◌}
use Rattle.std.specs.Option.{option_copied}
use Rattle.tbr_view.proofs.States.{none_inside}
use Rattle.tbr_view.proofs.session.Session.end.Goals as goal

pub returns-clause-inside : goal.returns-clause-inside
returns-clause-inside g c = none_inside c.args.self.now.levels.inside.items (sym c.innermost.ensures ∙ ap option_copied c.in_default.is)
