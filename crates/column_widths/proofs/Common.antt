-- The names that most proofs here cite, passed on from one place. It declares nothing.
pub use Rattle.std.proofs.Common.{Bool, List, None, Some, [], add-zero, ap, arith, cond, drop, eqb, false, get_or, inl, inr, length, ltb, map, min, not, refl, subst, suc, sym, take, true, zero}
pub use Rattle.std.proofs.Common.{zero-add, ℕ, ⊎_elim, ◌%◌, ◌&&◌, ◌*◌, ◌++◌, ◌+◌, ◌-◌, ◌/◌, ◌<◌, ◌^◌, ◌∙◌, ◌∷◌, ◌≡◌, ◌≤◌}
pub use Rattle.std.proofs.Math.Nat.{lt-mul-div-succ}
pub use Rattle.std.proofs.lemmas.Bool.{cases_lt, false≢true, le-ltb, lt-ltb}
pub use Rattle.std.proofs.lemmas.Bool.Decides.{nat_tests}
pub use Rattle.std.proofs.lemmas.List.{get_or-map, take_all}
pub use Rattle.std.proofs.lemmas.List.FromFn.{get_or-enumerate_from, length-enumerate_from}
pub use Rattle.std.proofs.lemmas.List.Sums.{sum-map, sum_by-cons}
pub use Rattle.std.proofs.lemmas.Nat.{div_below}
pub use Rattle.std.specs.List.{All, AllByRecursion as Each, AllZip, count_by, enumerate_from, filter, fold, sum, sum_by}
pub use Rattle.std.specs.Prelude.{replicate}
pub use Rattle.column_widths.specs.Laws.{HasRoom, IsWithinNeed}
pub use Rattle.column_widths.specs.Needs.{after_cell, filled, is_of, missing, needs_of, spread, unspanned, widened, width_of}
pub use Rattle.column_widths.specs.Table.{IsWithin, Table}
pub use Rattle.column_widths.specs.Widths.{gets_one, is_ahead, lines_of, share, shared, slack, width_at, widths, widths_beside_lines}
pub use Rattle.column_widths.specs.declared.columns.CellNeed.{CellNeed}
pub use Rattle.column_widths.specs.declared.need.Bound.{Bound}
pub use Rattle.column_widths.specs.declared.need.Bound.TheVariants.{Greatest, Least}
pub use Rattle.column_widths.specs.declared.need.Need.{Need}
