use Rattle.tbr_flat.proofs.Common.{◌≡◌, ℕ, List, zero, ◌-◌, ◌+◌, ◌<◌, ◌≤◌, suc, length, drop, arith, rules, RepeatedTag, tags_of}
use Rattle.tbr_flat.proofs.RepeatedTags.{stored_len}
use Rattle.tbr_flat.proofs.tags.place_before.Goals as goal

-- where the stored tags after a place are fewer tags than there are, one is before it
stored_before : {A : Type 0} (xs : List (RepeatedTag A)) (k : ℕ) {left last : ℕ} → left + length (tags_of (drop k xs)) ≡ last → last ≤ length (tags_of xs) → 0 < left → k ≡ suc (k - 1)
stored_before xs zero e most some = absurd (omega arith)
stored_before xs (suc k) e most some = omega arith

pub returns-then-left-more : goal.returns-then-left-more
returns-then-left-more g c = search (rules, stored_before, stored_len, c.loop-left.invariant, c.requires, c.loop-left-test.true, c.index.ensures, c.if-left-more.true)
