use Rattle.tbr_flat.proofs.Common.{◌≡◌, ◌-◌, ℕ, Some, refl, List, chars, chars_rest, deque_iter_rest, given, places_left}
use Rattle.tbr_flat.proofs.WalkedItems.{IsNext, is_next, Gives, Passes, passes_before, passes_after}
use Rattle.tbr_flat.specs.declared.placed_items.PlacedItems.TheInside.{Inside}
use Rattle.tbr_flat.proofs.placed_items.PlacedItems.next_character.Goals as goal
use Rattle.tbr_flat.proofs.placed_items.PlacedItems.next_character.Goals.{in-Some+else-left-eq0, in_default}

abbrev left : Inside → List ℕ
left i = places_left i.before (deque_iter_rest i.markers)

-- where the next marker is looked for, all characters are left
record IsPassed (i j : Inside) : Type 0 where
  pub same : j.characters ≡ i.characters
  pub passes : Passes (left i) (left j)

passed_before : (i j : Inside) (n : ℕ) → i.before ≡ Some n → (n ≡ 0 → ⊥) → j ≡ record i { before = Some (n - 1) } → IsPassed i j
passed_before i j n e some is = rw is (record { same = refl; passes = passes_before i.before n (deque_iter_rest i.markers) e some })

passed : (c : goal.After-next) → IsPassed c.self.inside c.match-self.self-inside
passed c = elim c.match-self.branch [
  | in-Some+else-left-eq0 w ↦ passed_before c.self.inside c.match-self.self-inside w.in-Some.left w.in-Some.is w.if-left-eq0.false w.self-inside-is
  | in_default w ↦ rw w.self-inside-is (record { same = refl; passes = passes_after c.self.inside.before (deque_iter_rest c.self.inside.markers) w.in_default.is })
]

next : (c : goal.After-next) → IsNext c.self.inside.characters c.next.new.self c.next.result
next c = is_next c.self.inside.characters c.next.new.self c.next.result c.self.invariant (rw (passed c).same at c.next.ensures.steps)

gives : (c : goal.After-next) → Gives c.args.self.now (given (chars (chars_rest c.next.new.self)) (left c.match-self.self-inside)) c.next.result
gives c = rw (← c.self.view_is) ((passed c).passes _ _ c.next.result (next c).first (next c).rest)

pub invariant_of-self-2 : goal.invariant_of-self-2
invariant_of-self-2 c = (next c).utf8

pub returns-clause-first : goal.returns-clause-first
returns-clause-first c = (gives c).first

pub returns-clause-rest : goal.returns-clause-rest
returns-clause-rest c = (gives c).rest
