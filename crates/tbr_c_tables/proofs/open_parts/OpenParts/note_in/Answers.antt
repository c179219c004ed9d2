use Rattle.std.proofs.Common.{refl, ap, ◌∙◌, arith}
use Rattle.std.proofs.lemmas.Bool.{false≢true}
use Rattle.std.proofs.lemmas.Result.{on_ok_weaker}
use Rattle.tbr_commands.specs.Command.{command_of}
use Rattle.tbr_c_tables.specs.Open.{in_first, noted_in}
use Rattle.tbr_c_tables.proofs.Innermost.{innermost_changed, none_changed}
use Rattle.tbr_c_tables.proofs.open_parts.OpenParts.note_in.Goals as goal
use Rattle.tbr_c_tables.proofs.open_parts.OpenParts.note_in.Goals.{in-Some, in-None}

pub returns : goal.returns
returns c =
    let parts = c.self.inside.parts in let note = noted_in (command_of c.args.command.now) in
    elim c.match-last_mut.branch [
      | in-Some w ↦ rw (w.result-is, w.self-inside-is)
          (on_ok_weaker w.note.result (λ made.
          innermost_changed note parts.items _ w.in-Some.part.now _ (omega (arith, parts.ok.0, w.in-Some.ensures.variant.0 refl))
          w.in-Some.ensures.value made ∙ ap (in_first note) c.self.view_is) w.note.ensures)
      | in-None w ↦ rw (w.result-is, w.self-inside-is)
          (none_changed note parts.items (λ some. false≢true (w.in-None.ensures.variant.1 (omega (arith, some, parts.ok.0))))
          ∙ ap (in_first note) c.self.view_is)
    ]
