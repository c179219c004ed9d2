use Rattle.tbr_tagged.proofs.Common.{ℕ, ◌≡◌, ◌<◌, ◌≤◌, ◌-◌, ◌+◌, List, ◌++◌, append_assoc, arith, replicate, refl, rules, string_bytes}
use Rattle.std.specs.List.{slice_index, slice_range}
use Rattle.std.proofs.lemmas.List.{get_or-replicate, take-replicate, replicate-append-replicate}
use Rattle.tbr_tagged.proofs.space.append_spaces.Goals as goal

-- each of so many spaces is one byte
space_at : (n : ℕ) → n < 32 → slice_index (replicate 32 32) n ≡ 32
space_at n inside = get_or-replicate {A = ℕ} 32 n 32 0 inside

more_spaces : (bs : List ℕ) (count left n : ℕ) → left ≤ count → n ≤ left → n ≤ 32 →
    (bs ++ replicate (count - left) 32) ++ slice_range (replicate 32 32) 0 n ≡ bs ++ replicate (count - (left - n)) 32
more_spaces bs count left n within some few =
    let front : n - 0 ≡ n = omega arith in
    let all : count - (left - n) ≡ (count - left) + n = omega (arith, within, some) in
    rw (front, all, take-replicate {X = ℕ} n 32 32 few, append_assoc, replicate-append-replicate) refl

pub range-requires-clause-end_boundary : goal.range-requires-clause-end_boundary
range-requires-clause-end_boundary c = search (rules, space_at, c.min-some.ensures)

pub loop-left-preserved : goal.loop-left-preserved
loop-left-preserved c = (
  omega (arith, c.loop-left.invariant.0),
  rw (c.in_ok-push_str.ensures.bytes, c.loop-left.invariant.1, c.range.ensures.value)
      (more_spaces (string_bytes c.args.text.now) c.args.count c.loop-left.left c.min-some.result c.loop-left.invariant.0 (omega (arith, c.min-some.ensures)) (omega (arith, c.min-some.ensures))),
  omega (arith, c.loop-left.invariant.2, c.in_ok-push_str.ensures.len, c.in_ok-push_str.ensures.capacity, c.range.ensures.len),
)
