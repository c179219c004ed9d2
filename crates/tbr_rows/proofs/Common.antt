-- The names that most proofs here cite, passed on from one place. It declares nothing.
pub use Rattle.std.proofs.Common.{Bool, IfOk, List, None, Option, Some, [], ap, append-nil, append_assoc, arith, drop, drop-cons, false, flat_map, fold, get_or, if◌then◌else◌, inl, inr}
pub use Rattle.std.proofs.Common.{is_none, is_some, length, map, max, nat_lt, option_map, refl, replicate, rules, set, slice_range, subst, suc, sym, take, take_all, true, unwrap_or, zero, ℕ}
pub use Rattle.std.proofs.Common.{◌&&◌, ◌++◌, ◌+◌, ◌-◌, ◌<◌, ◌==◌, ◌||◌, ◌∙◌, ◌∷◌, ◌≡◌, ◌≤◌}
pub use Rattle.std.proofs.lemmas.Bool.{and_parts, cond_both, eqb-false, eqb-true, le-leb}
pub use Rattle.std.proofs.lemmas.Grind.{fold-append}
pub use Rattle.std.proofs.lemmas.List.{drop-drop, drop-map, get_or_at, length-map, length-replicate, length-take-le, map-append, map_push, nil_from_length}
pub use Rattle.std.proofs.lemmas.List.Concat.{flat_map-append}
pub use Rattle.std.proofs.lemmas.Option.{same_Some}
pub use Rattle.std.proofs.lemmas.Result.{IfOk-weaker, on_ok_weaker}
pub use Rattle.std.proofs.lemmas.Simd.{map-map}
pub use Rattle.std.specs.Cmp.{IsEquivalence}
pub use Rattle.std.specs.List.{AllByRecursion as Each, AllZip, list_all, list_any, slice_get}
pub use Rattle.tbr_border.proofs.JoinedCells.{length-stretched}
pub use Rattle.tbr_border.specs.Border.{Border, Hole, SameBorder, SameHole, drawn, has_holes, merged, opened, shown, shown_from, span_end, stretched}
pub use Rattle.tbr_border.specs.Cell.{Cell as Segment, Side, above, below, character}
pub use Rattle.tbr_border.specs.RenderLine.{items_under, line_items}
pub use Rattle.tbr_border.specs.declared.render_line.RenderLine.{RenderLine}
pub use Rattle.tbr_border.specs.declared.render_line.RenderLine.TheVariants.{Line, Text}
pub use Rattle.tbr_model.proofs.lists.Each.{each_append, each_back, each_front, each_map}
pub use Rattle.tbr_model.proofs.maps.Words.{items_width-map}
pub use Rattle.tbr_model.specs.Mapped.{map_items}
pub use Rattle.tbr_model.specs.Run.{Item, glyph, items_width, marker}
pub use Rattle.tbr_rows.specs.AlignedLines.{each_aligned}
pub use Rattle.tbr_rows.specs.Borders.{after_mergeable, before_mergeable, first_mergeable, joined, joined_at_each, last_mergeable, merged_above, merged_below, merged_with, whole_column}
pub use Rattle.tbr_rows.specs.Borders.{with_last_border_apart, without_first_border}
pub use Rattle.tbr_rows.specs.Cells.{AreApart, AreSideBySide, Seating, Spot, append_all, cell_height, empty_cell, end_of, ends_before, first_line, is_left_for, look, next_place, row_fits}
pub use Rattle.tbr_rows.specs.Cells.{row_width, seat, seated, separators, spot_of, spots_from, with_hanging}
pub use Rattle.tbr_rows.specs.CellsShown.{Fills, HasInColumns, IsFilled, MadeRow, StandsAmong}
pub use Rattle.tbr_rows.specs.Filled.{FillsLine, FillsText}
pub use Rattle.tbr_rows.specs.Fitting.{Fitting, fits_with, waiting_cells}
pub use Rattle.tbr_rows.specs.Gaps.{FillsGapIf, FillsGaps, IsGapText, cell_in, gap_in, gap_of, has_gap, overhang, overhang_of, with_element, with_elements, with_gap}
pub use Rattle.tbr_rows.specs.Meant.{TellsApart, map_border, map_cell, map_column, map_hole, map_line, row_meant}
pub use Rattle.tbr_rows.specs.Rows.{IsLaidOut, SameIfAny, SeenRow, border_below, cells_left, cells_under, columns_shown, left_in, next_begun, next_merged, next_under, plain_border}
pub use Rattle.tbr_rows.specs.Rows.{row_under, separator_in, shown_in}
pub use Rattle.tbr_rows.specs.Shown.{AreItsRows, DrawsInOne, FillsBelow, HolesFill, TakesCellColumns, TakesColumns, continued, goes_on, later_of, meeting, met}
pub use Rattle.tbr_rows.specs.Stretches.{character_before, longest}
pub use Rattle.tbr_rows.specs.Texts.{HaveTexts, cell_text, dropped, filler_above, line_text, line_texts, numbers_below, row_height, row_text, separator_before, text_of_lines}
pub use Rattle.tbr_rows.specs.declared.column.Column.{Column}
pub use Rattle.tbr_rows.specs.declared.line_set.LineSet.{LineSet as Cell}
pub use Rattle.tbr_rows.specs.declared.row.Row.{Row}
pub use Rattle.tbr_rows.specs.declared.row.RowStyle.{RowStyle}
pub use Rattle.tbr_tagged.proofs.MappedTags.{means_same_items}
pub use Rattle.tbr_tagged.proofs.SameItems.{all_zip_append, same_items, same_items_append, same_items_trans, same_texts, same_width}
pub use Rattle.tbr_tagged.proofs.Told.{told_items}
pub use Rattle.tbr_tagged.specs.Elements.{Element, IsMerged, SameElement, SameElements, SameItems, element_items, items_of, marker_element, piece, text_items}
pub use Rattle.tbr_tagged.specs.Mapped.{MeansEqual}
pub use Rattle.tbr_tagged.specs.Padding.{aligned_items, columns_missing, spaces}
pub use Rattle.tbr_tagged.specs.View.{element_of}
pub use Rattle.tbr_tagged.specs.declared.padding.CellAlign.{CellAlign}
pub use Rattle.tbr_wrap.proofs.runs.LinesLeft.{first_of}
