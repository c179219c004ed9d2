use Rattle.tbr_flat.proofs.TextBytes.{IsRead}
use Rattle.tbr_flat.proofs.text_queue.bytes_of.Given as goal

abbrev pub invariant-loop : goal.invariant-loop
invariant-loop l = IsRead l.text l.rest.rest.now l.counter
