-- The names that most proofs here cite, passed on from one place. It declares nothing.
pub use Rattle.std.proofs.Common.{Bool, Err, IsTrue, List, None, Ok, Option, Result, Some, [], ap, append-nil, append_assoc, arith, chars, drop, false, fold, if◌then◌else◌, is_none, length}
pub use Rattle.std.proofs.Common.{map, map-id, not, refl, replicate, rules, subst, suc, sym, take, true, unwrap_or, ℕ, ◌++◌, ◌+◌, ◌-◌, ◌<◌, ◌↔◌, ◌∙◌, ◌∷◌, ◌≡◌}
pub use Rattle.std.proofs.lemmas.Bool.{cond_both}
pub use Rattle.std.proofs.lemmas.Grind.{fold-append}
pub use Rattle.std.proofs.lemmas.Iterator.Consumers.{YieldsList-end}
pub use Rattle.std.proofs.lemmas.List.{drop-drop, length-append, length-map, map-append, nil_from_length, replicate_more}
pub use Rattle.std.proofs.lemmas.Result.{IfOk-weaker, on_ok_weaker}
pub use Rattle.std.proofs.lemmas.Slice.Zip.{all_zipped_more}
pub use Rattle.std.proofs.lemmas.Str.{IsUtf8-string_bytes, chars-nil}
pub use Rattle.std.specs.Cmp.{IsEquivalence}
pub use Rattle.std.specs.Cmp.Lexicographic.{pointwise}
pub use Rattle.std.specs.Global.{Vec}
pub use Rattle.std.specs.List.{AllByRecursion as Each, AllZip}
pub use Rattle.std.specs.Option.{option_map}
pub use Rattle.std.specs.Prelude.{IfErr, OnOk}
pub use Rattle.std.specs.String.{string_bytes}
pub use Rattle.std.specs.Vec.Iter.{into_iter_items}
pub use Rattle.tbr_annotations.proofs.Told.{items_told}
pub use Rattle.tbr_annotations.specs.Annotations.{same_annotations}
pub use Rattle.tbr_annotations.specs.Written.{WritesOut}
pub use Rattle.tbr_border.specs.Border.{Border, shown}
pub use Rattle.tbr_border.specs.Cell.{slash}
pub use Rattle.tbr_border.specs.RenderLine.{IsMergedText}
pub use Rattle.tbr_border.specs.declared.RenderLine.{RenderLine}
pub use Rattle.tbr_border.specs.declared.RenderLine.TheVariants.{Line as Rule, Text}
pub use Rattle.tbr_decor.specs.Decoration.{Decoration, decoration_of}
pub use Rattle.tbr_decor.specs.End.{End}
pub use Rattle.tbr_kept_lines.proofs.ItemsLeft.{items_left, items_taken}
pub use Rattle.tbr_kept_lines.proofs.KeptParts.{each_append, each_at}
pub use Rattle.tbr_kept_lines.specs.LastBorder.{before_border}
pub use Rattle.tbr_kept_lines.specs.Line.{Line, SameSeen, border, line_seen, text, text_lines}
pub use Rattle.tbr_model.specs.Rule.{Event, entry, run_of}
pub use Rattle.tbr_model.specs.Run.{Item, items_width, marker_entry}
pub use Rattle.tbr_model.specs.declared.white_space.WhiteSpace.{WhiteSpace}
pub use Rattle.tbr_renderer.specs.Appended.{AreAlike, after_lines, alike, handed_out, prefixed, texts_of, with_border, with_cell, with_cell_below, with_divider, with_prefixed}
pub use Rattle.tbr_renderer.specs.Decorated.{after_end, after_titled, annotated, asked_to_close}
pub use Rattle.tbr_renderer.specs.Flush.{EndsBest, after_block, after_flush, block_lines, filled_line, fits_at_end, fits_grown, lines_at_end, names_at_end}
pub use Rattle.tbr_renderer.specs.Image.{shown_title, title_by_mode}
pub use Rattle.tbr_renderer.specs.Outcomes.{and_then, changed, gathered, taking}
pub use Rattle.tbr_renderer.specs.Renderer.{KeepsSettings, Open, Renderer, Settings, block_width, called, has_content, ignores, last_mode, may_overflow, open_block, settings_of, stroke}
pub use Rattle.tbr_renderer.specs.Renderer.{struck, text_annotations, with_events, with_line, without_annotation}
pub use Rattle.tbr_renderer.specs.Rows.{FillsKept, GivenCell, LeavesFree, cells_from, cells_handed_out, filled, is_blank, looks, next_align, placed, row_made, row_put, row_put_of, style_in}
pub use Rattle.tbr_renderer.specs.Rows.{with_row}
pub use Rattle.tbr_renderer.specs.Steps.{after_block_start, after_empty_line, after_first_text, after_joining, after_text, block_started, with_empty_line}
pub use Rattle.tbr_renderer.specs.View.{AreMarkers, IsFresh, Writes, block_seen, names_of, open_seen}
pub use Rattle.tbr_rows.specs.Cells.{AreSideBySide, row_fits, spots_from}
pub use Rattle.tbr_rows.specs.Filled.{cell_after}
pub use Rattle.tbr_rows.specs.Fitting.{fits_with}
pub use Rattle.tbr_rows.specs.Rows.{SeenRow}
pub use Rattle.tbr_tagged.proofs.Outcomes.{live_done, live_goes}
pub use Rattle.tbr_tagged.proofs.SameItems.{same_items, same_items_append, same_items_trans}
pub use Rattle.tbr_tagged.proofs.TextAfter.{chars_push}
pub use Rattle.tbr_tagged.specs.Elements.{Element, SameItems, items_of, marker_element, piece, text_items}
pub use Rattle.tbr_tagged.specs.Outcome.{Outcome, done, if_live, refused}
pub use Rattle.tbr_tagged.specs.Padding.{spaces}
pub use Rattle.tbr_tagged.specs.View.{chars_of, element_of}
pub use Rattle.tbr_tagged.specs.declared.CellAlign.{CellAlign}
pub use Rattle.tbr_tagged.specs.declared.CellAlign.TheVariants.{Left}
pub use Rattle.tbr_tagged.specs.declared.Error.{Error}
pub use Rattle.tbr_tagged.specs.declared.Error.TheVariants.{TooNarrow}
pub use Rattle.tbr_tagged.specs.declared.TaggedLineElement.{TaggedLineElement}
pub use Rattle.tbr_tags.specs.Lists.{equal_lists}
pub use Rattle.tbr_wrap.proofs.runs.BlockLaws.{HandsOne, flush_leaves, sound_text, text_in_two, text_leaves}
pub use Rattle.tbr_wrap.proofs.runs.LinesLeft.{left_after}
pub use Rattle.tbr_wrap.specs.Block.{Block, all_lines, allows, any_line, grown, left, lines, loose, takes_no_columns, text_events}
pub use Rattle.tbr_wrap.specs.Runs.{EndsRun}
pub use Rattle.tbr_wrap.specs.Wrapped.{padding_of}
