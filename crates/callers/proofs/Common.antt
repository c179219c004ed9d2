-- The names that most proofs here cite, passed on from one place. It declares nothing.
pub use Rattle.std.proofs.Common.{Bool, Err, List, None, Ok, Option, Result, Some, [], ap, arith, chars, drop, false, if◌then◌else◌, is_some, length, map, refl, subst, sym, true, ℕ, ◌++◌, ◌<◌, ◌∙◌}
pub use Rattle.std.proofs.Common.{◌∷◌, ◌≡◌}
pub use Rattle.std.proofs.lemmas.Iterator.Adapters.{YieldsList-from_vec}
pub use Rattle.std.proofs.lemmas.Iterator.Consumers.{YieldsList-end}
pub use Rattle.std.proofs.lemmas.List.{map-append, map-id}
pub use Rattle.std.proofs.lemmas.Result.{IfOk-weaker, err_from_is_err_and, on_ok_weaker}
pub use Rattle.std.specs.List.{AllByRecursion as Each, AllZip}
pub use Rattle.callers.specs.Counted.{Counted, calls, failure, handed_out, one_line, with_more}
pub use Rattle.tbr_decor.proofs.Footnotes.{footnotes_meant}
pub use Rattle.tbr_model.specs.Rule.{entry}
pub use Rattle.tbr_model.specs.Run.{Item, marker_entry}
pub use Rattle.tbr_model.specs.declared.white_space.WhiteSpace.TheVariants.{Normal}
pub use Rattle.tbr_tagged.proofs.Outcomes.{live_goes}
pub use Rattle.tbr_tagged.specs.Elements.{Element, marker_element}
pub use Rattle.tbr_tagged.specs.Outcome.{Outcome, done}
pub use Rattle.tbr_tagged.specs.View.{element_of}
pub use Rattle.tbr_tagged.specs.declared.Error.{Error}
pub use Rattle.tbr_tagged.specs.declared.Error.TheVariants.{OutOfMemory, TooNarrow}
pub use Rattle.tbr_wrap.proofs.runs.BlockLaws.{HandsOne, flush_leaves, text_leaves}
pub use Rattle.tbr_wrap.specs.Block.{Block, after_flush, after_text, all_lines, grown, left, new_block}
pub use Rattle.tbr_wrap.specs.Runs.{text_entries}
pub use Rattle.tbr_wrap.specs.Wrapped.{HasBestLines, ShowsText}
pub use Rattle.text_block_renderer.specs.Calls.{IsWide}
pub use Rattle.text_block_renderer.specs.Line.{Line}
pub use Rattle.text_block_renderer.specs.Outcomes.{gathered}
pub use Rattle.text_block_renderer.specs.Rows.{cells_given}
