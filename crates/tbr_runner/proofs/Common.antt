-- The names that most proofs here cite, passed on from one place. It declares nothing.
pub use Rattle.std.proofs.Common.{Bool, Err, IfErr, List, None, Ok, Option, Result, Some, ap, arith, chars, drop, false, length, map, refl, rules, string_bytes, subst, sym, true, vec_len, ℕ}
pub use Rattle.std.proofs.Common.{[], ◌++◌, ◌+◌, ◌-◌, ◌<◌, ◌==◌, ◌^◌, ◌∙◌, ◌∷◌, ◌≡◌, ◌≢◌, ◌≤◌}
pub use Rattle.std.proofs.lemmas.Bool.{cond_both, false≢true}
pub use Rattle.std.proofs.lemmas.List.{length-map}
pub use Rattle.std.specs.List.{AllByRecursion as Each, AllZip}
pub use Rattle.tbr_tagged.specs.Outcome.{Outcome, done, refused}
pub use Rattle.tbr_tagged.specs.declared.CellAlign.{CellAlign}
pub use Rattle.tbr_decor.specs.Decoration.{Decoration, decoration_of}
pub use Rattle.tbr_rows.specs.Cells.{row_fits}
pub use Rattle.tbr_renderer.specs.Outcomes.{and_then, changed, gathered, taking}
pub use Rattle.tbr_stack.specs.Links.{after_end_with, link_number, open_links, shown_number, with_link, without_open_link}
pub use Rattle.tbr_stack.specs.Stack.{Level, Stack, first_renderer, in_first, top_of, with_top}
pub use Rattle.tbr_stack.specs.Top.{in_top}
pub use Rattle.tbr_renderer.specs.Acts.{Act, after_act, call, row as row_of_cells}
pub use Rattle.tbr_renderer.specs.Appended.{handed_out}
pub use Rattle.tbr_renderer.specs.Calls.{Call, add_inline_text, after, append_subrender, append_vert_row, begin, finish, new_line}
pub use Rattle.tbr_renderer.specs.Decorated.{sub_renderer}
pub use Rattle.tbr_kept_lines.specs.Line.{Line}
pub use Rattle.tbr_renderer.specs.Renderer.{Renderer}
pub use Rattle.tbr_renderer.specs.Rows.{GivenCell, cells_given, spots_of}
pub use Rattle.tbr_script.specs.Refusal.{IsOfScript}
pub use Rattle.tbr_script.specs.Script.{lines_of}
pub use Rattle.tbr_script.specs.declared.error.RunError.{RunError}
pub use Rattle.tbr_script.specs.declared.error.RunError.TheVariants.{NotACommand, NothingToEnd, OutOfMemory, RowDoesNotFit}
pub use Rattle.tbr_commands.specs.Begun.{counted, ends_nothing}
pub use Rattle.tbr_commands.specs.Command.{Command, append, ask, cell, end_cell, end_link, link, sub, vertical_row}
pub use Rattle.tbr_commands.specs.Read.{command_read, opening_read}
pub use Rattle.tbr_commands.specs.Syntax.{IsCommand}
pub use Rattle.tbr_commands.specs.declared.opening.Decorator.{Decorator}
pub use Rattle.tbr_commands.specs.declared.opening.Decorator.TheVariants.{Plain, Rich, Trivial}
pub use Rattle.tbr_commands.specs.declared.opening.Opening.{Opening}
pub use Rattle.tbr_program.specs.Closing.{closed_text}
pub use Rattle.tbr_program.specs.Commands.{Made, Place, after_command, after_line, after_read, answered, block_made, cells_waiting, ended, ended_as, if_some_are, joins, level_ended}
pub use Rattle.tbr_program.specs.Commands.{level_opened, on_top, request_made, waits, with_stack}
pub use Rattle.tbr_program.specs.Prefixes.{prefixes}
pub use Rattle.tbr_program.specs.Progress.{GoesOn, Opened, Pending, Progress, renderers_of, without_cells}
pub use Rattle.tbr_program.specs.declared.opened.Opener.{Opener}
pub use Rattle.tbr_program.specs.declared.opened.Opener.TheVariants.{Sub}
pub use Rattle.tbr_runner.specs.Renderers.{AllAre, CellsAre, EndsOne}
pub use Rattle.tbr_runner.specs.Scripts.{unless_refused}
