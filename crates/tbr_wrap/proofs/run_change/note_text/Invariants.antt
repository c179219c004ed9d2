use Rattle.tbr_wrap.proofs.Common.{◌≡◌, ◌++◌, take, chars, text_changes}
use Rattle.tbr_flat.proofs.TextBytes.{IsRead}
use Rattle.tbr_wrap.proofs.run_change.note_text.Given as goal

abbrev pub invariant-loop : goal.invariant-loop
invariant-loop g l = record {
  read : IsRead l.text l.rest.rest.now l.counter;
  noted : l.changes.items ≡ l.initial.changes.items ++ text_changes (take l.counter (chars l.text)) l.main_tag l.wrap_tag l.mode;
}
