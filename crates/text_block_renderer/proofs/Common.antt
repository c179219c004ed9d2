-- The names that most proofs here cite, passed on from one place. It declares nothing.
pub use Rattle.std.proofs.Common.{Bool, IfSome, List, None, Option, Some, ap, append-nil, append_assoc, arith, drop, false, filter, flat_map, fold, if◌then◌else◌, inl, inr, is_none, length, map, not}
pub use Rattle.std.proofs.Common.{refl, replicate, rules, subst, suc, sym, take, true, unwrap_or, zero, ℕ, [], ◌++◌, ◌+◌, ◌-◌, ◌<◌, ◌∙◌, ◌∷◌, ◌≡◌, ◌≢◌, ◌≤◌, ◌⊎◌}
pub use Rattle.std.proofs.lemmas.Bool.{both_ways, cond_both, eqb-true, false_from_ne_true, leb-true, ltb-true, or_parts}
pub use Rattle.std.proofs.lemmas.Grind.{fold-append}
pub use Rattle.std.proofs.lemmas.List.{append_cancel_right, drop-map, length-append, length-map, length-replicate, map-append, take-append-drop, take-map}
pub use Rattle.std.proofs.lemmas.List.Concat.{flat_map-append}
pub use Rattle.std.proofs.lemmas.List.Elements.{filter-append}
pub use Rattle.std.proofs.lemmas.Simd.{map-map}
pub use Rattle.std.specs.Cmp.Lexicographic.{pointwise}
pub use Rattle.std.specs.List.{AllByRecursion as Each, AllZip, join_by, slice_get, zip}
pub use Rattle.std.specs.Option.{option_map}
pub use Rattle.std.specs.Prelude.{nat_lt, ⊤}
pub use Rattle.tbr_model.specs.Hard.{HasMode, IsShown, IsSpaces, glyphs_of, is_visible, is_visible_entry, visible_entries, visible_glyphs}
pub use Rattle.tbr_model.specs.Layout.{HasNoEmptyLine, Slot, rest_text, slot_of, slots_of, slots_within, word_slots}
pub use Rattle.tbr_model.specs.Markers.{marked_after, marker_items, marker_run, names_after, names_in_items, names_in_run}
pub use Rattle.tbr_model.specs.Rule.{Event, entry, is_space_item, run_of}
pub use Rattle.tbr_model.specs.Run.{Entry, Item, Word, character, glyph, has_character, is_kept, items_width, kept_items, marker, marker_entry, trailing, words_of}
pub use Rattle.tbr_model.specs.Shown.{ShowsEntry, is_entry_to_show, is_visible_or_marker, without_spaces}
pub use Rattle.tbr_tagged.specs.Elements.{Element, element_items, text_items}
pub use Rattle.tbr_tagged.specs.Outcome.{Outcome, done, if_live, refused}
pub use Rattle.tbr_tagged.specs.Padding.{columns_in_front, spaces}
pub use Rattle.tbr_tagged.specs.declared.CellAlign.{CellAlign}
pub use Rattle.tbr_border.specs.Border.{Border, Hole, shown, shown_from, without_holes}
pub use Rattle.tbr_border.specs.Cell.{Cell as BorderCell, Side, horizontal, slash}
pub use Rattle.tbr_border.specs.declared.RenderLine.{RenderLine}
pub use Rattle.tbr_wrap.specs.Runs.{AreLastOf, CharactersFit, EndsRun, IsNormal}
pub use Rattle.tbr_wrap.specs.Wrapped.{HasBestLines, padding_of}
pub use Rattle.tbr_kept_lines.specs.LastBorder.{before_border, last_border, without_last}
pub use Rattle.tbr_kept_lines.specs.Line.{Line, border, text}
pub use Rattle.tbr_decor.specs.Decoration.{Decoration}
pub use Rattle.tbr_rows.specs.Borders.{above_row, first_mergeable, joined_at_each, merged_below, merged_with, without_first_border}
pub use Rattle.tbr_rows.specs.Cells.{AreApart, cell_height, first_line, with_hanging}
pub use Rattle.tbr_rows.specs.CellsShown.{Fills, FollowOneAnother, HasFilledCells, IsFilled, ShowsTexts, StandsAmong}
pub use Rattle.tbr_rows.specs.Gaps.{gap_in, gap_of, with_gap}
pub use Rattle.tbr_rows.specs.Meant.{TellsApart}
pub use Rattle.tbr_rows.specs.Rows.{SeenRow, border_above, cells_left, left_in, next_begun, plain_border, row_under, separator_in, shown_in}
pub use Rattle.tbr_rows.specs.Shown.{DrawsInOne, Meeting, as_lines, later_of, meeting, merged_first, merged_last, met, part_of}
pub use Rattle.tbr_rows.specs.declared.LineSet.{LineSet as Overhanging}
pub use Rattle.tbr_renderer.specs.Appended.{as_text, border_line, border_of_cells, handed_out, prefixed, with_border, with_cell, with_cell_below, with_cells, with_divider}
pub use Rattle.tbr_renderer.specs.Calls.{Brings, Call, Does, Shows, Steps, add_border, add_empty_line, add_image, add_inline_text, after, append_subrender, append_vert_row, begin, brought}
pub use Rattle.tbr_renderer.specs.Calls.{brought as all_brought, end_strikeout, entries_brought, finish, image_brought, laid_entries, laid_entry, new_line, new_line_hard, pop_colour, pop_preformat}
pub use Rattle.tbr_renderer.specs.Calls.{push_colour, push_preformat, record_frag_start, start_block, start_strikeout, start_table, text_brought, text_of_lines}
pub use Rattle.tbr_renderer.specs.Decorated.{after_end, after_start, after_titled, annotated, asked_to_close, struck_from, struck_until, sub_renderer}
pub use Rattle.tbr_renderer.specs.Flush.{after_block, after_flush, block_lines, fits_at_end, fits_grown, flushed, lines_at_end, names_at_end}
pub use Rattle.tbr_renderer.specs.Footnotes.{footnote_lines, listed, with_footnotes}
pub use Rattle.tbr_renderer.specs.Image.{shown_title}
pub use Rattle.tbr_renderer.specs.Outcomes.{and_then, changed, run, told_by}
pub use Rattle.tbr_renderer.specs.Renderer.{IsSound, Open, Renderer, Settings, block_width, entries_of, ignores, last_mode, least, line_padding, may_overflow, new_renderer, open_block, open_run}
pub use Rattle.tbr_renderer.specs.Renderer.{settings_of, struck, text_annotations, with_events, with_line, with_more, without_annotation}
pub use Rattle.tbr_renderer.specs.Rows.{GivenCell, after_row, border_lines, cell_from, cells_from, filled, own_cells, row_seated, style_in, with_next, with_row}
pub use Rattle.tbr_renderer.specs.Steps.{after_block_start, after_first_text, after_joining, after_text, at_line_start, block_started, text_brings, with_empty_line}
pub use Rattle.tbr_renderer.specs.declared.options.RenderOptions.{RenderOptions}
pub use Rattle.text_block_renderer.specs.Acts.{Act, ActIsTooNarrow, Added, ComesInPieces, IsPiece, KeepsText, Piece, PutRow, StaysLine, act_adds, act_brought, act_comes, act_enters, acts_add}
pub use Rattle.text_block_renderer.specs.Acts.{acts_come, acts_enter, added_of_piece, after_act, before_run, border_lines_of, call, cells_in, entries_of_piece, finalise, fmt_links, lines_of_piece}
pub use Rattle.text_block_renderer.specs.Acts.{note_added, noted, notes_add, part, part_added, put, row, row_added, row_seen, row_shown, rows_in, rows_of, texts_of_row}
pub use Rattle.text_block_renderer.specs.Added.{Part, below_add, call_adds, calls_add, cell_adds, cells_add, divider_adds, empty_adds, ended, flush_adds, flush_ends, image_adds, laid, ruled}
pub use Rattle.text_block_renderer.specs.Added.{run_of_block, start_adds, start_lays, text_adds, texts_add, vert_row_adds}
pub use Rattle.text_block_renderer.specs.Drawn.{AreDrawnAmong, DrawNone, WithoutDrawnBorders, as_it_is, border_drawn, borders_added, borders_drawn, drawn, drawn_below, drawn_of_added, drawn_of_part}
pub use Rattle.text_block_renderer.specs.Drawn.{drawn_of_row, line_put, not_drawn, row_borders, text_drawn}
pub use Rattle.text_block_renderer.specs.Headline.{CellsFit, FitsCell, Headline, IsCellOf, LinesFit, NoLayoutIsAhead, StandsOnce, TakeTwoAtMost}
pub use Rattle.text_block_renderer.specs.MarkersStand.{BeginsWith, FlushStands, Stands, WaitForText, first_text, items_so_far}
pub use Rattle.text_block_renderer.specs.Nested.{BecomesLine, HandOn, HandsOn, Level, lines_left, markers_before, nested, visible_after}
pub use Rattle.text_block_renderer.specs.Stretches.{AppendsNothing, ComesInParts, EndsAsStretch, IsOwnPart, IsPart, NoneIsAhead, StandsAsStretch, StaysOpen, borders_of_part, entries_of_part, items_on}
pub use Rattle.text_block_renderer.specs.Stretches.{lines_laid, lines_of_part, padded_line, stretch}
pub use Rattle.text_block_renderer.specs.Taken.{AreTakenIn, AreWrittenIn, CallTakes, IsWrittenSoFar, NothingOverhangs, StandWithin, Takes, text_before, to_show, written}
