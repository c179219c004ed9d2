-- How wide the lines are that the rule lays.
use Rattle.tbr_wrap.proofs.Common.{◌≡◌, ℕ, ◌+◌, ◌<◌, ◌≤◌, Bool, true, Option, List, [], ◌∷◌, ◌++◌, arith, lt-ltb, le-ltb, Item, item_width, items_width, Laid, extended, end_line, each_append}
use Rattle.tbr_wrap.proofs.Common.{RuleFitsWidth, items_width-append}
use Rattle.std.proofs.Common.{cond}
use Rattle.tbr_wrap.specs.Wrapped.{taking_columns}

module _ {A : Type 0} (columns : ℕ → Option ℕ) (width : ℕ) (overflow : Bool) where
  pub measured_ended : (r : Laid A) → RuleFitsWidth columns width overflow r → RuleFitsWidth columns width overflow (end_line r)
  measured_ended r h = grind (arith, each_append)

  pub measured_extended : (r : Laid A) (is : List (Item A)) (n : ℕ) → RuleFitsWidth columns width overflow r →
      n ≡ items_width columns is → r.width + n ≤ width → RuleFitsWidth columns width overflow (extended r is n)
  measured_extended r is n h e room = record { small = room; line = omega (arith, h.line, e, items_width-append columns r.line is); done = h.done }

  -- after items of no width, one that has some
  taking_push : (is : List (Item A)) (i : Item A) → 0 < item_width columns i → items_width columns is ≡ 0 → taking_columns columns (is ++ i ∷ []) ≡ 1
  taking_push [] i wide h = grind (arith, lt-ltb, cond, ℕ)
  taking_push (j ∷ is) i wide h = grind (arith, le-ltb, cond, ℕ, taking_push is i wide (omega arith))

  -- an item wider than a line, after items of no width
  pub measured_wide : (r : Laid A) (i : Item A) → RuleFitsWidth columns width overflow r → overflow ≡ true →
      r.width ≡ 0 → 0 < item_width columns i →
      RuleFitsWidth columns width overflow (end_line (extended r (i ∷ []) (item_width columns i)))
  measured_wide r i h sure zero wide = grind (arith, each_append, taking_push)
