use Rattle.tbr_wrap.proofs.Common.{◌≡◌, ◌++◌, ◌∷◌, [], ℕ, List, ap, ◌∙◌, arith, append_assoc, rules, map-append, WhiteSpace, text_changes, RunChange}
use Rattle.tbr_wrap.specs.declared.run_change.RunChange.TheVariants.{Character}
use Rattle.tbr_flat.proofs.TextBytes.{read_more, all_read}
use Rattle.tbr_wrap.proofs.run_change.note_text.Goals as goal
use Rattle.tbr_wrap.proofs.run_change.note_text.Goals.{in-Some+in-Marker-1, in-Some+in-Called-1, in_default}

noted_more : {A : Type 0} (before seen now : List (RunChange × A × A)) (cs ds : List ℕ) (c : ℕ) (a b : A)
    (mode : WhiteSpace) → seen ≡ before ++ text_changes cs a b mode → now ≡ seen ++ (Character c mode, a, b) ∷ [] →
    ds ≡ cs ++ c ∷ [] → now ≡ before ++ text_changes ds a b mode
noted_more before seen now cs ds c a b mode e f h = search (rules, append_assoc, map-append)

pub loop-preserved : goal.loop-preserved
loop-preserved g c =
    let inv = c.loop.invariant in let text = c.args.text.now in let n = c.loop.counter in
    elim c.match-next.branch [
      | in-Some+in-Marker-1 w ↦
          let more = read_more text c.loop.rest.rest.now c.next.new.self.rest.now n w.in-Some.c inv.read w.in-Some.ensures.steps.0 in
          record { read = more.0; noted = noted_more _ _ _ _ _ w.in-Some.c c.args.main_tag.now c.args.wrap_tag.now c.args.mode inv.noted (ap (λ h. h.items) w.changes-is ∙ w.appended.ensures) more.1 }
      | in-Some+in-Called-1 w ↦
          let more = read_more text c.loop.rest.rest.now c.next.new.self.rest.now n w.in-Some.c inv.read w.in-Some.ensures.steps.0 in
          record { read = more.0; noted = noted_more _ _ _ _ _ w.in-Some.c c.args.main_tag.now c.args.wrap_tag.now c.args.mode inv.noted (ap (λ h. h.items) w.changes-is ∙ w.appended.ensures) more.1 }
      | in_default w ↦ absurd (omega (arith, all_read text c.loop.rest.rest.now n inv.read w.in_default.ensures.steps.0.0, c.requires, c.loop-test.true))
    ]
