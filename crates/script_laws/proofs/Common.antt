-- The names that most proofs here cite, passed on from one place. It declares nothing.
pub use Rattle.std.proofs.Common.{Bool, Err, List, None, Ok, Option, Result, Some, ap, append-nil, append_assoc, arith, chars, drop, false, flat_map, fold, if◌then◌else◌, inl, inr, length, map, refl}
pub use Rattle.std.proofs.Common.{replicate, rules, subst, suc, sym, true, zero, ℕ, [], ◌++◌, ◌+◌, ◌-◌, ◌<◌, ◌==◌, ◌∙◌, ◌∷◌, ◌≡◌, ◌≢◌, ◌≤◌, ◌⊎◌}
pub use Rattle.std.proofs.lemmas.Bool.{cond_both, leb-true}
pub use Rattle.std.specs.List.{AllByRecursion as Each, AllZip}
pub use Rattle.std.specs.Prelude.{encode_utf8_all, nat_lt}
pub use Rattle.tbr_model.specs.Run.{Entry, Item}
pub use Rattle.tbr_tagged.specs.Outcome.{Outcome, done, if_live, refused}
pub use Rattle.tbr_tagged.specs.declared.CellAlign.{CellAlign}
pub use Rattle.tbr_decor.specs.Decoration.{Decoration}
pub use Rattle.tbr_rows.specs.Cells.{row_fits}
pub use Rattle.tbr_renderer.specs.Flush.{after_block, after_flush, block_lines, fits_at_end, flushed, lines_at_end, names_at_end}
pub use Rattle.tbr_renderer.specs.Outcomes.{and_then, changed, gathered, run, taking}
pub use Rattle.tbr_renderer.specs.declared.RenderOptions.{RenderOptions}
pub use Rattle.tbr_stack.specs.Links.{after_end_with, after_link_end, open_links, shown_number, with_link, without_open_link}
pub use Rattle.tbr_stack.specs.Stack.{Level, Stack, below, first_renderer, in_first, top_of, with_top}
pub use Rattle.tbr_stack.specs.Top.{in_top}
pub use Rattle.text_block_renderer.specs.Acts.{Act, act_brought, act_comes, acts_come, after_act, call, finalise, fmt_links, row as row_of_cells}
pub use Rattle.text_block_renderer.specs.Appended.{handed_out}
pub use Rattle.text_block_renderer.specs.Calls.{Call, Shows, after, append_subrender, append_vert_row, begin, finish, made, new_line, start_block}
pub use Rattle.text_block_renderer.specs.Decorated.{sub_renderer}
pub use Rattle.text_block_renderer.specs.Line.{Line}
pub use Rattle.text_block_renderer.specs.Renderer.{IsSound, Open, Renderer, block_width, has_content, least, open_run, with_line}
pub use Rattle.text_block_renderer.specs.Rows.{GivenCell, cells_given, spots_of}
pub use Rattle.text_block_renderer.specs.Taken.{AreTakenIn, IsWrittenSoFar, NothingOverhangs, Takes, TakesIn}
pub use Rattle.tbr_script.specs.Script.{lines_of}
pub use Rattle.tbr_script.specs.declared.error.RunError.{RunError}
pub use Rattle.tbr_script.specs.declared.error.RunError.TheVariants.{NotACommand, NothingToEnd, RowDoesNotFit}
pub use Rattle.tbr_commands.specs.Begun.{counted, ends_nothing}
pub use Rattle.tbr_commands.specs.Command.{Command, append, ask, cell, end_cell, end_link, link, sub, vertical_row}
pub use Rattle.tbr_commands.specs.Read.{command_read, opening_read}
pub use Rattle.tbr_commands.specs.Syntax.{IsCommand}
pub use Rattle.tbr_commands.specs.declared.opening.Decorator.{Decorator}
pub use Rattle.tbr_commands.specs.declared.opening.Decorator.TheVariants.{Plain, Rich, Trivial}
pub use Rattle.tbr_commands.specs.declared.opening.Opening.{Opening}
pub use Rattle.tbr_program.specs.Closing.{closed as lines_closed, closed_text, footnotes_of, with_notes}
pub use Rattle.tbr_program.specs.Commands.{Made, Place, after_command, after_line, after_read, block_made, cells_waiting, ended, level_opened, request_made, row_made, started, vertical_made}
pub use Rattle.tbr_program.specs.Commands.{with_stack}
pub use Rattle.tbr_program.specs.Prefixes.{prefixes}
pub use Rattle.tbr_program.specs.Progress.{Opened, Pending, Progress, renderers_of, without_cells}
pub use Rattle.tbr_program.specs.declared.opened.Opener.{Opener}
pub use Rattle.tbr_program.specs.declared.opened.Opener.TheVariants.{Sub}
pub use Rattle.script_laws.specs.Kept.{EndsWhole, IsOfOneRow, KeepsAll, LineAsksForOneRow, OverhangsNowhere, TextKeeps}
pub use Rattle.script_laws.specs.Led.{AreLed, IsFresh, IsLed, IsTextOfLed, IsTextOfScript, LineAsksForTwo}
pub use Rattle.tbr_runner.specs.Renderers.{EndsOne}
pub use Rattle.tbr_runner.specs.Scripts.{rendered, rendered_on, unless_refused}
pub use Rattle.script_laws.specs.StackCalls.{AskAfterFirst, AskFor, LinesDo, calls_of, link_targets, stack_calls}
