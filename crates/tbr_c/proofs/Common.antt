-- The names that most proofs here cite, passed on from one place. It declares nothing.
pub use Rattle.std.proofs.Common.{Bool, Err, List, None, Ok, Option, Result, Some, ap, arith, encode_utf8_all, length, refl, sym, ℕ, ◌∙◌, ◌≡◌, ◌≢◌}
pub use Rattle.std.proofs.alloc.Calls.{Goes-blank, token}
pub use Rattle.std.specs.Prelude.{IfSome}
pub use Rattle.std_alloc.proofs.BoxSteps.Form.{B, Bx, D, P, R, box_typed, word}
pub use Rattle.std_alloc.proofs.BoxSteps.Steps.{box_in, box_out}
pub use Rattle.std_alloc.specs.Box.Ownership.{box_owns}
pub use Rattle.tbr_c.specs.Drawing.{drawn_made}
pub use Rattle.tbr_c_lines.specs.declared.fault.Fault.{Fault}
pub use Rattle.tbr_c_lines.specs.declared.fault.Fault.TheVariants.{NotUtf8}
pub use Rattle.tbr_decor.specs.Decoration.{decoration_of}
pub use Rattle.tbr_program.specs.Safe.{shown_links}
pub use Rattle.tbr_recorded.specs.Drawn.{after_each}
pub use Rattle.tbr_script.specs.declared.error.RunError.TheVariants.{TooNarrow}
pub use Rattle.tbr_tagged.specs.UnicodeColumns.{unicode_columns}
pub use base.Fml.{flft, fsep, ftrue}
pub use base.Logic.{SProp, emp, ent, id⊢}
pub use contract.BorrowLft.{◌⊑◌}
pub use contract.Monad.{Fun, fact}
pub use denote.Exit.{no}
pub use denote.RattleType.{RattleType}
pub use denote.RawPtr.{block_ptr}
pub use denote.Signature.{plain, type_at}
pub use denote.Steps.{heard, nothing, only}
pub use denote.Triple.Clauses.{Clauses, Ended}
pub use denote.Triple.Spec.{triple_of}
pub use denote.Triple.Statement.{Contract, Triple}
pub use denote.Triple.Table.{entered}
pub use denote.Triple.Walked.{Stays, ends_at, says, stay_dropped, walk_Meets, walk_of}
pub use mathlib.Core.List.{[], ◌++◌, ◌∷◌}
pub use mathlib.Core.Path.{subst}
pub use mir.MapTy.{inst_fn}
pub use mir.Syntax.{Fn, dnil}
pub use mir.Val.{Val}
pub use prog.Memory.{Memory}
pub use prog.Routine.{Routine}
pub use prog.Wp.{WpFn}
pub use seplogic.Ra.Ura.{Ura}
pub use sound.WpLaws.{WpFn-mono, fm_of}
pub use types.ByLocal.{alloc_all, free_all, get, get_in, look_at, pass_all, sets}
pub use types.Kit.{ !, Item, await, by, done, drop, fjoin, fsplit, join, later, move, pick, qed, raw, rewrite, some, split, split3, suffices, use1, ‵, ◌$◌, ◌∵◌, ◌⊛◌}
pub use types.Logic.{Logic}
pub use types.Part.{agg, sub, whole}
pub use types.Run.{and_then, enter, fld, no_more, of_opd, returns, stop}
