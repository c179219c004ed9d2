use Rattle.std.proofs.Common.{refl, ap, ◌∙◌, arith}
use Rattle.std.proofs.lemmas.Bool.{false≢true}
use Rattle.tbr_c_tables.specs.Open.{in_first, waiting}
use Rattle.tbr_c_tables.proofs.Innermost.{innermost_changed, none_changed}
use Rattle.tbr_c_tables.proofs.open_parts.OpenParts.set_waiting.Goals as goal
use Rattle.tbr_c_tables.proofs.open_parts.OpenParts.set_waiting.Goals.{in-Some, in_default}

pub returns : goal.returns
returns c =
    let parts = c.self.inside.parts in let wait = waiting c.args.waits in
    elim c.match-last_mut.branch [
      | in-Some w ↦ rw w.self-inside-is
          (innermost_changed wait parts.items _ w.in-Some.part.now _ (omega (arith, parts.ok.0, w.in-Some.ensures.variant.0 refl))
          w.in-Some.ensures.value refl ∙ ap (in_first wait) c.self.view_is)
      | in_default w ↦ rw w.self-inside-is
          (none_changed wait parts.items (λ some. false≢true (w.in_default.ensures.variant.1 (omega (arith, some, parts.ok.0))))
          ∙ ap (in_first wait) c.self.view_is)
    ]
