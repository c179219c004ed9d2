use Rattle.tbr_rows.proofs.Common.{◌≡◌, ℕ, ◌+◌, ◌-◌, ◌<◌, ◌≤◌, Bool, false, ◌&&◌, ◌==◌, Option, Some, None, List, [], ◌∷◌, arith, rules, refl, Cell, AreApart, Fitting, fits_with}
use Rattle.tbr_rows.proofs.Common.{waiting_cells}
use Rattle.std.proofs.Common.{Bor, MatchOption, ne_eqb}
use Rattle.tbr_rows.specs.declared.fitting.Fitting.TheInside.{Inside}
use Rattle.tbr_rows.proofs.Fitted.{IsAsked, taken, next_after, next_lost}
use Rattle.tbr_rows.proofs.fitting.Fitting.add.Goals as goal
use Rattle.tbr_rows.proofs.fitting.Fitting.add.Goals.{then-first-self, else-first-self, then-self, else-self, then-first-width, else-first-width}

abbrev seen : {A : Type 0} → Inside A → Fitting A
seen i = record { waiting = waiting_cells i.first i.rest; at = i.at; fits = i.fits }

-- what is asked once the first cell that waits is looked at
module _ {A : Type 0} {width : ℕ} {blank : Bool} (i j : Inside A) {first : Bor (Cell A)} where
  after_other : AreApart i.at (waiting_cells i.first i.rest) → i.first ≡ Some first → (first.now.place ≡ i.at → ⊥) → j ≡ i →
      IsAsked (seen i) (seen j) width blank
  after_other apart some other is = rw is (record { apart = apart; passed = rw some (ne_eqb first.now.place i.at other); same = λ more. refl })

  after_taken : {next : Option (Bor (Cell A))} {rest : List (Cell A)} {fits : Bool} → AreApart i.at (waiting_cells i.first i.rest) → i.first ≡ Some first →
      first.now.place ≡ i.at →
      MatchOption next ((i.rest ≡ []) × (rest ≡ [])) (λ x. i.rest ≡ x.now ∷ rest) → j ≡ record { first = next; rest = rest; at = i.at; fits = fits } →
      fits ≡ (i.fits && (first.now.width == width && blank)) → IsAsked (seen i) (seen j) width blank
  after_taken {next = next} {rest = rest} {fits = fits} apart some here steps is told =
      rw (is, some, ← left next steps) (taken width blank first.now i.rest i.at i.fits fits (rw some at apart) here told)
    where
      left : (o : Option (Bor (Cell A))) → MatchOption o ((i.rest ≡ []) × (rest ≡ [])) (λ x. i.rest ≡ x.now ∷ rest) → i.rest ≡ waiting_cells o rest
      left None steps = steps.0
      left (Some x) steps = steps

-- and once it has gone past the cell
module _ {A : Type 0} {width : ℕ} {blank : Bool} (i j : Inside A) (asked : IsAsked (seen i) (seen j) width blank) (f : Fitting A) (same : seen i ≡ f) where
  ends_none : j.first ≡ None → (more : List (ℕ × Bool)) → fits_with (seen j) more ≡ fits_with f ((width, blank) ∷ more)
  ends_none none more = rw (← same) (rw none (rw none at (asked.same more)))

  ends_after : {next : Bor (Cell A)} → j.first ≡ Some next → width < next.now.place - j.at →
      (more : List (ℕ × Bool)) → fits_with (seen (record j { at = j.at + (width + 1) })) more ≡ fits_with f ((width, blank) ∷ more)
  ends_after {next} some short more =
      rw (← same) (rw some (next_after width blank (seen i) next.now j.rest j.at (j.at + (width + 1)) j.fits (rw some at asked) short (omega arith) more))

  ends_lost : {next : Bor (Cell A)} → j.first ≡ Some next → next.now.place - j.at ≤ width → (more : List (ℕ × Bool)) →
      false ≡ fits_with f ((width, blank) ∷ more)
  ends_lost {next} some long more = rw (← same) (next_lost width blank (seen i) next.now j.rest j.at j.fits (rw some at asked) long more)

pub returns-then-next-self : goal.returns-then-next-self
returns-then-next-self g c =
    let asked : IsAsked (seen c.self.inside) (seen c.if-first-self.self-inside) c.args.width c.args.is_blank =
    elim c.if-first-self.branch [
      | then-first-self w ↦ after_taken c.self.inside c.if-first-self.self-inside c.self.invariant c.in-Some.is w.if-first-self.true
          w.next-self-inside.ensures.steps w.self-inside-is (search rules)
      | else-first-self w ↦ after_other c.self.inside c.if-first-self.self-inside c.self.invariant c.in-Some.is w.if-first-self.false w.self-inside-is
    ] in
    ends_after c.self.inside c.if-first-self.self-inside asked c.args.self.now c.self.view_is c.in-Some-first.is c.if-next-self.true

pub returns-else-next-self : goal.returns-else-next-self
returns-else-next-self g c =
    let asked : IsAsked (seen c.self.inside) (seen c.if-first-self.self-inside) c.args.width c.args.is_blank =
    elim c.if-first-self.branch [
      | then-first-self w ↦ after_taken c.self.inside c.if-first-self.self-inside c.self.invariant c.in-Some.is w.if-first-self.true
          w.next-self-inside.ensures.steps w.self-inside-is (search rules)
      | else-first-self w ↦ after_other c.self.inside c.if-first-self.self-inside c.self.invariant c.in-Some.is w.if-first-self.false w.self-inside-is
    ] in
    ends_lost c.self.inside c.if-first-self.self-inside asked c.args.self.now c.self.view_is c.in-Some-first.is c.if-next-self.false

pub returns-in_default-first : goal.returns-in_default-first
returns-in_default-first g c =
    let asked : IsAsked (seen c.self.inside) (seen c.if-first-self.self-inside) c.args.width c.args.is_blank =
    elim c.if-first-self.branch [
      | then-first-self w ↦ after_taken c.self.inside c.if-first-self.self-inside c.self.invariant c.in-Some.is w.if-first-self.true
          w.next-self-inside.ensures.steps w.self-inside-is (search rules)
      | else-first-self w ↦ after_other c.self.inside c.if-first-self.self-inside c.self.invariant c.in-Some.is w.if-first-self.false w.self-inside-is
    ] in
    ends_none c.self.inside c.if-first-self.self-inside asked c.args.self.now c.self.view_is c.in_default-first.is
