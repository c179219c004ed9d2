use Rattle.tbr_c.proofs.Common.{refl, ap, ◌∙◌, length, arith, unicode_columns, decoration_of, shown_links}
use Rattle.std.proofs.Common.{inl, inr}
use Rattle.tbr_program.proofs.MadeCommands.{still_open}
use Rattle.tbr_c.proofs.page.Filled.facts.Goals as goal

pub returns-clause-open : goal.returns-clause-open
returns-clause-open g c = λ some.
    let f = c.args.self.now in
    let shown = shown_links f.raw f.program in
    still_open unicode_columns (decoration_of g.D.TextDecorator g.D.Annotation.Tag.tells) 0 shown shown refl
    (elim some [
      | inl levels ↦ inl (λ none. omega (arith, levels, c.open_levels.ensures ∙ ap length none))
      | inr cells ↦ inr (λ none. omega (arith, cells, c.waiting_cells.ensures ∙ ap length none))
    ])
