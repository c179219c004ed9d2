use Rattle.tbr_model.proofs.Common.{◌||◌, IsTrue, refl, ap, sym, ◌∙◌, take, list_any, or_right, is_break_entry, takes_columns, HasColumns, entry_value, entry_values, or-false}
use Rattle.tbr_model.proofs.words.Regions.{no_break, longer_rest}
use Rattle.tbr_model.proofs.words.StoredEntries.{list_any_more, values_more}
use Rattle.tbr_model.proofs.word.working_break.Goals as goal
use Rattle.tbr_model.proofs.word.working_break.Goals.{else-works-via-then-works+else-is_break, else-works-via-else-works, then-takes_columns, else-takes_columns}

pub loop-place-init : goal.loop-place-init
loop-place-init g c = (refl, no_break g.W.CharWidth.columns)

pub loop-place-preserved : goal.loop-place-preserved
loop-place-preserved g c =
    let columns = g.W.CharWidth.columns in
    let es = c.args.entries.now in
    let i = c.loop-place.place in
    let e = c.index-entries-place.result in
    let more = values_more es i e c.loop-place-test.true c.index-entries-place.is in
    let seen = c.loop-place.invariant.0 in
    let no_work : IsTrue (is_break_entry (entry_value e)) → ¬ HasColumns columns (entry_values (take i es)) =
    elim c.else-works.branch [
      | else-works-via-then-works+else-is_break w ↦ (λ h k. let no = sym w.if-is_break.false ∙ (w.is_break.ensures ∙ h) in cc)
      | else-works-via-else-works w ↦ (λ h k. let no = sym w.if-works.false ∙ (seen ∙ k) in cc)
    ] in
    rw more (
      elim c.if-takes_columns.branch [
        | then-takes_columns w ↦ w.works-is
            ∙ sym
            (list_any_more (takes_columns columns) (entry_values (take i es)) (entry_value e)
            ∙ or_right _ _ (sym c.takes_columns.ensures ∙ w.if-takes_columns.true))
        | else-takes_columns w ↦ w.works-is
            ∙
            (seen
            ∙ sym
            (list_any_more (takes_columns columns) (entry_values (take i es)) (entry_value e)
            ∙ ap (λ b. list_any (takes_columns columns) (entry_values (take i es)) || b)
            (sym c.takes_columns.ensures ∙ w.if-takes_columns.false) ∙ or-false _))
      ],
      longer_rest columns (entry_values (take i es)) (entry_value e) c.loop-place.invariant.1 no_work,
    )
