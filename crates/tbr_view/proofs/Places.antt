-- Where a script for people is, by what is recorded.
use Rattle.tbr_view.proofs.Common.{◌≡◌, ℕ, Option, None, Some, sym, subst, ◌∙◌, Ok, OnOk, Decoration, TableScript, Statement, Place, DoesInTable, DoesOutside}
use Rattle.std.specs.Prelude.{Result, Err}
use Rattle.tbr_view.specs.Lines.{DoesWith}

pub on_both : {T E : Type 0} (r : Result T E) (P Q : Type 0) → OnOk r P → OnOk r Q → OnOk r (P × Q)
on_both (Ok x) P Q p q = (p, q)
on_both (Err e) P Q p q = tt

abbrev with_current : {D M : Type 0} → Place D M → Option TableScript → Place D M
with_current s current = record s { tables = record s.tables { current = current } }

module _ {D M : Type 0} (columns : ℕ → Option ℕ) (decoration : Decoration D M) (s t : Place D M) where
  -- a line in a table, of which the rest is known
  pub does_in_table : (table : TableScript) (asks : Statement) → s.tables.current ≡ Some table → (taken : Option TableScript) → taken ≡ None →
      DoesInTable columns decoration (with_current s taken) table asks t → DoesWith columns decoration s.tables.current s asks t
  does_in_table table asks is taken none does =
      subst (λ (current : Option TableScript). DoesWith columns decoration current s asks t) (sym is)
      (subst (λ (rest : Option TableScript). DoesInTable columns decoration (with_current s rest) table asks t) none does)

  -- a line where no table is open
  pub does_outside : (asks : Statement) → s.tables.current ≡ None → (taken : Option TableScript) → taken ≡ None →
      DoesOutside columns decoration (with_current s taken) asks t → DoesWith columns decoration s.tables.current s asks t
  does_outside asks is taken none does =
      let same : taken ≡ s.tables.current = none ∙ sym is in
      subst (λ (current : Option TableScript). DoesWith columns decoration current s asks t) (sym is)
      (subst (λ (rest : Option TableScript). DoesOutside columns decoration (with_current s rest) asks t) same does)
