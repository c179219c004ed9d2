-- The names that most proofs here cite, passed on from one place. It declares nothing.
pub use Rattle.std.proofs.Common.{Bool, Err, IfErr, IfOk, List, None, Ok, Option, Result, Some, ap, arith, chars, drop, encode_utf8_all, false, flat_map, fold, if◌then◌else◌, inl, inr}
pub use Rattle.std.proofs.Common.{length, length-append, map, refl, replicate, reverse, rules, string_bytes, subst, suc, sym, take, true, zero, ℕ, [], ◌++◌, ◌+◌, ◌-◌, ◌<◌, ◌==◌, ◌∙◌, ◌∷◌}
pub use Rattle.std.proofs.Common.{◌≡◌, ◌≢◌, ◌⊎◌}
pub use Rattle.std.proofs.lemmas.Bool.{eqb-true, false≢true}
pub use Rattle.std.proofs.lemmas.Iterator.Consumers.{YieldsList-at, YieldsList-end, YieldsList-from_chain, YieldsList-so_far}
pub use Rattle.std.proofs.lemmas.List.{map-append, map-id, nil_from_length, reverse-append, take-map, take_all}
pub use Rattle.std.proofs.lemmas.Result.{err_from_is_err_and, on_ok_weaker}
pub use Rattle.std.proofs.lemmas.Str.{IsUtf8-string_bytes, encodes-chars}
pub use Rattle.std.specs.Cmp.Lexicographic.{pointwise}
pub use Rattle.std.specs.List.{AllByRecursion as Each, AllZip}
pub use Rattle.std.specs.Option.{option_map, option_to_list}
pub use Rattle.tbr_tagged.specs.Outcome.{Outcome, done, refused}
pub use Rattle.tbr_tagged.specs.View.{chars_of}
pub use Rattle.tbr_tagged.specs.declared.CellAlign.{CellAlign}
pub use Rattle.tbr_decor.specs.Decoration.{Decoration, decoration_of}
pub use Rattle.tbr_rows.specs.Cells.{row_fits, spots_from}
pub use Rattle.tbr_renderer.specs.Outcomes.{and_then, changed, gathered, taking}
pub use Rattle.tbr_stack.specs.Links.{after_end_with, after_link_end, after_link_start, link_number, open_in_first, open_links, opened, shown_number, with_link, without_open_link}
pub use Rattle.tbr_stack.specs.Stack.{Level, Stack, below, first_renderer, in_first, pushed, top_of, with_top}
pub use Rattle.tbr_stack.specs.Top.{in_top}
pub use Rattle.tbr_renderer.specs.Appended.{GivesFirst, handed_out, texts_of}
pub use Rattle.tbr_renderer.specs.Calls.{Call, Does, IsTooNarrow, add_image, add_inline_text, after, append_subrender, append_vert_row, end_strikeout, finish, new_line, pop_colour}
pub use Rattle.tbr_renderer.specs.Calls.{push_colour, start_block, start_strikeout}
pub use Rattle.tbr_renderer.specs.Decorated.{coloured, sub_renderer, uncoloured}
pub use Rattle.tbr_kept_lines.specs.Line.{Line, line_seen}
pub use Rattle.tbr_renderer.specs.Renderer.{Open, Renderer, Settings, settings_of, with_line}
pub use Rattle.tbr_renderer.specs.Rows.{GivenCell, after_row, cells_given, cells_handed_out, looks, spots_of}
pub use Rattle.tbr_kept_lines.specs.Text.{lines_text}
pub use Rattle.tbr_script.specs.declared.error.RunError.{RunError}
pub use Rattle.tbr_script.specs.declared.error.RunError.TheVariants.{NotACommand, NothingToEnd, OutOfMemory, RowDoesNotFit}
pub use Rattle.tbr_commands.specs.Begun.{counted, ends_nothing}
pub use Rattle.tbr_commands.specs.Command.{Command, append, ask, cell, command_of, end_cell, end_link, link, row, sub, vertical_row}
pub use Rattle.tbr_commands.specs.Request.{Request, border, call_of, colour, end, image, layout, request_of, text}
pub use Rattle.tbr_commands.specs.declared.begun.Begun.{Begun}
pub use Rattle.tbr_program.specs.Closing.{closed_text, finalised, footnotes_of, with_notes}
pub use Rattle.tbr_program.specs.Commands.{Made, Place, Runs, Top, after_command, after_line, after_read, answered, block_joined, block_made, cells_waiting, ended, ended_as, if_some_are}
pub use Rattle.tbr_program.specs.Commands.{joins, level_ended, level_opened, on_top, request_made, row_made, vertical_made, waits, with_stack}
pub use Rattle.tbr_program.specs.Prefixes.{prefixes}
pub use Rattle.tbr_program.specs.Progress.{AreLive, Closes, GoesOn, IsLive, Opened, Pending, Progress, begun_on_each, nothing_pending, opener, renderers_of, with_cell, without_cells}
pub use Rattle.tbr_program.specs.declared.opened.Opener.{Opener}
pub use Rattle.tbr_program.specs.declared.opened.Opener.TheVariants.{Cell, Sub}
