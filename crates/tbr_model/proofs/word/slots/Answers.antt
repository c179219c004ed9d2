use Rattle.tbr_model.proofs.Common.{◌≡◌, ◌+◌, true, false, List, [], ◌++◌, length, drop, slice_range, length-drop, sym, ap, ◌∙◌, subst, arith, length-map, slice_get_within, Entry, kept_items}
use Rattle.tbr_model.proofs.Common.{has_character, Slot, word_slots, NoBreakWorks, IsFirstWorkingBreak, word_after, entry_value, entry_values, slot_values}
use Rattle.tbr_model.proofs.words.StoredEntries.{values_rest, values_part}
use Rattle.tbr_model.proofs.words.SlotsByRegion.{HasRead, next_region, all_read}
use Rattle.tbr_model.proofs.word.slots.Goals as goal
use Rattle.tbr_model.proofs.word.slots.Goals.{then-has_character+in_ok-push_word-2, else-has_character}

pub loop-place-preserved : goal.loop-place-preserved
loop-place-preserved g c =
    let columns = g.W.CharWidth.columns in
    let es = c.args.run.now in
    let run = entry_values es in
    let from = c.loop-place.from in
    let to = from + c.in-Some.place in
    let kept = c.loop-place.invariant in
    let first : IsFirstWorkingBreak columns (drop from run) c.in-Some.place = subst (λ (l : List (Entry _)). IsFirstWorkingBreak columns l c.in-Some.place) (values_rest es from) c.in-Some.ensures in
    let pushed =
    c.in_ok-push_word.ensures
    ∙ ap
    (λ (l : List (Entry _)). slot_values c.loop-place.slots.items ++ word_slots columns c.args.width
    (word_after columns [] l)) (values_part es c.loop-place.opening to) in
    let next = next_region columns c.args.width run (slot_values c.loop-place.slots.items) c.loop-place.opening from c.in-Some.place kept.1 kept.0 first in (
      subst (λ (s : List (Slot _)). HasRead columns c.args.width run s (slice_range run to (to + 1)) (drop (to + 1) run)) (sym pushed) next,
      omega arith,
      omega (arith, slice_get_within (drop from run) c.in-Some.place first.0 first.1, length-drop from run, length-map es entry_value),
    )

pub returns : goal.returns
returns g c =
    let columns = g.W.CharWidth.columns in
    let es = c.args.run.now in
    let run = entry_values es in
    let from = c.loop-place.from in
    let opening = c.loop-place.opening in
    let kept = c.loop-place.invariant in
    let rest = values_rest es from in
    let last : NoBreakWorks columns (drop from run) = subst (NoBreakWorks columns) rest c.in_default.ensures in
    let test = c.has_character.ensures ∙ ap (λ (l : List (Entry _)). has_character (kept_items columns l)) rest in
    let width = c.args.width in
    let done = slot_values c.loop-place.slots.items in
    elim c.if-has_character.branch [
      | then-has_character+in_ok-push_word-2 w ↦
          let yes : has_character (kept_items columns (drop from run)) ≡ true = sym test ∙ w.if-has_character.true in
          let pushed : slot_values c.if-has_character.slots.items ≡ done ++ word_slots columns width
          (word_after columns [] (entry_values (slice_range es opening (length es)))) = rw (w.slots-is) w.in_ok-push_word-2.ensures in
          pushed ∙ ap (λ (l : List (Entry _)). done ++ word_slots columns width (word_after columns [] l)) (values_rest es opening)
          ∙ sym (all_read columns width run done opening from kept.1 kept.0 last true yes)
      | else-has_character w ↦
          let no : has_character (kept_items columns (drop from run)) ≡ false = sym test ∙ w.if-has_character.false in
          rw (w.slots-is) (sym (all_read columns width run done opening from kept.1 kept.0 last false no))
    ]
