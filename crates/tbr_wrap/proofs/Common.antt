-- The names that most proofs here cite, passed on from one place. It declares nothing.
pub use Rattle.std.proofs.Common.{Bool, Err, IfSome, List, None, Ok, OnOk, Option, Result, Some, [], ap, append-nil, append_assoc, arith, chars, drop, false, fold, if◌then◌else◌, inl, inr, is_none}
pub use Rattle.std.proofs.Common.{is_some, le-leb, le-ltb, length, length-append, length-take-le, lt-ltb, map, nat_le, nat_lt, ne_eqb, not, refl, rules, subst, suc, sym, take, true, unwrap_or, zero}
pub use Rattle.std.proofs.Common.{ℕ, ◌%◌, ◌&&◌, ◌++◌, ◌+◌, ◌-◌, ◌<◌, ◌==◌, ◌||◌, ◌∙◌, ◌∷◌, ◌≡◌, ◌≢◌, ◌≤◌, ◌⊎◌}
pub use Rattle.std.proofs.Math.Bool.{or-false, or-true}
pub use Rattle.std.proofs.Math.Seq.{take-append_seam}
pub use Rattle.std.proofs.lemmas.Bool.{and_left, and_parts, and_right, cases_lt, cond_both, eqb-true, not-true}
pub use Rattle.std.proofs.lemmas.Bool.Decides.{nat_tests}
pub use Rattle.std.proofs.lemmas.List.{drop_at, length-map, map-append, nil_from_length, take-append-drop, take_at}
pub use Rattle.std.proofs.lemmas.List.Elements.{length_all_zip}
pub use Rattle.std.proofs.lemmas.List.Sums.{fold-append}
pub use Rattle.std.proofs.lemmas.Result.{err_from_is_err_and, on_ok_weaker}
pub use Rattle.std.proofs.lemmas.Str.{IsCharBoundary-from_take, IsUtf8-from_ascii, IsUtf8-string_bytes, chars-IsAscii, chars-append, chars-nil}
pub use Rattle.std.proofs.lemmas.Str.Ascii.{IsAscii-cons, IsAscii-nil}
pub use Rattle.std.specs.Char.{is_whitespace}
pub use Rattle.std.specs.Cmp.{IsEquivalence}
pub use Rattle.std.specs.List.{AllByRecursion as Each, AllZip, list_any}
pub use Rattle.std.specs.Str.{IsAscii}
pub use Rattle.std.specs.String.{string_bytes}
pub use Rattle.tbr_flat.proofs.MarkedItems.{markers-append, same_take}
pub use Rattle.tbr_model.proofs.lines.NormalItems.{normal_keeps}
pub use Rattle.tbr_model.proofs.lists.Each.{each_append, each_back, each_front}
pub use Rattle.tbr_model.proofs.lists.Joined.{joined-append}
pub use Rattle.tbr_model.proofs.normal.BestLines.{NormalBlank}
pub use Rattle.tbr_model.proofs.rule.DoneLines.{finished_adds}
pub use Rattle.tbr_model.proofs.rule.HardLines.{no_character_after_end, run_of-append}
pub use Rattle.tbr_model.proofs.rule.LaidText.{trailing_cases}
pub use Rattle.tbr_model.proofs.rule.Markers.{marker_items_alone, waiting_none}
pub use Rattle.tbr_model.proofs.rule.Walk.{extended_twice}
pub use Rattle.tbr_model.proofs.rule.WiderLines.{unfit_by}
pub use Rattle.tbr_model.proofs.words.Items.{has_character-append, items_width-append, no_character_no_width}
pub use Rattle.tbr_model.specs.Fits.{lines_fit}
pub use Rattle.tbr_model.specs.Greedy.{IsNarrow}
pub use Rattle.tbr_model.specs.Hard.{HasMode, IsNarrowEntry, IsShown, is_visible, visible_entries, visible_glyphs}
pub use Rattle.tbr_model.specs.Laid.{Laid, end_if_character, end_if_columns, end_line, extended, nothing_laid, put_items}
pub use Rattle.tbr_model.specs.Layout.{joined}
pub use Rattle.tbr_model.specs.Markers.{names_in_items}
pub use Rattle.tbr_model.specs.Rule.{Event, Progress, Space, at_start, break_word, call, collapse, enter, enter_normal, entry, finished, flush_word, is_pre, is_space_item, join, keep_character}
pub use Rattle.tbr_model.specs.Rule.{keep_space, lay_here, lines_of, newline, passes, pending_width, progress, put_pending, put_spaces, run_of, space_text, spaces, step, tab, tag_of, trimmed, waiting}
pub use Rattle.tbr_model.specs.Rule.{without_leading, without_trailing, wrap_space}
pub use Rattle.tbr_model.specs.Run.{Entry, Item, always_takes_space, character, glyph, has_character, is_blank, is_break, is_kept, item_width, items_width, marker, marker_entry, reading, trailing}
pub use Rattle.tbr_model.specs.Width.{width_of_text}
pub use Rattle.tbr_model.specs.declared.white_space.WhiteSpace.{WhiteSpace}
pub use Rattle.tbr_model.specs.declared.white_space.WhiteSpace.TheVariants.{Normal, Pre, PreWrap}
pub use Rattle.tbr_tagged.proofs.Outcomes.{answers_ok, live_goes}
pub use Rattle.tbr_tagged.proofs.SameItems.{all_zip_append, same_has, same_items_append, same_items_trans, same_texts, same_width}
pub use Rattle.tbr_tagged.proofs.TextColumns.{items_width-text}
pub use Rattle.tbr_tagged.specs.Elements.{Element, IsMerged, SameItem, SameItems, items_of, text_items}
pub use Rattle.tbr_tagged.specs.Outcome.{done, refused}
pub use Rattle.tbr_tagged.specs.View.{chars_of}
pub use Rattle.tbr_wrap.specs.Block.{Block, HandsOutFirst, HasGrown, Settings, after_flush, all_lines, allows, flushed, grown, has_no_character, left, line_handed_out, lines, loose, loose_names}
pub use Rattle.tbr_wrap.specs.Block.{new_block, progress_of, settings_of, settled, text_events, without_loose}
pub use Rattle.tbr_wrap.specs.EndedLines.{AreLines, cut, prefixed_characters}
pub use Rattle.tbr_wrap.specs.Held.{HoldsRun, block_of}
pub use Rattle.tbr_wrap.specs.LaidLines.{HoldsLaid, HoldsRule, HoldsRuleBefore, KeepsLimits, LaidLikeRule, LeavesAfterLine, RuleFitsWidth}
pub use Rattle.tbr_wrap.specs.Plain.{ArePlain, AreWords, JoinInTurn, JoinWord, is_narrow, joins, kept_width, reads}
pub use Rattle.tbr_wrap.specs.Runs.{CharactersFit, IsNormal, VisibleFit, is_some_list, text_entries}
pub use Rattle.tbr_wrap.specs.Story.{text_changes}
pub use Rattle.tbr_wrap.specs.Wrapped.{EndedWordsFit, FitsBlock, HasBestLines, ShowsText, WordsFit, padding_of}
pub use Rattle.tbr_wrap.specs.Wrapper.{IsAtProgress, RunIsFinished, SameSpace, held_width, join_all}
pub use Rattle.tbr_wrap.specs.declared.laid_lines.LaidLines.{LaidLines}
pub use Rattle.tbr_wrap.specs.declared.run_change.RunChange.{RunChange}
pub use Rattle.tbr_wrap.specs.declared.wrapper.Space.{Space as HeldSpace}
pub use Rattle.tbr_wrap.specs.declared.wrapper.Wrapper.{Wrapper}
