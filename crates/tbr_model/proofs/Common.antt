-- The names that most proofs here cite, passed on from one place. It declares nothing.
pub use Rattle.std.proofs.Common.{Bool, IsTrue, List, MatchOption, None, Option, Some, [], add-one, ap, append-nil, append_assoc, arith, drop, drop-drop, drop_of_length-le, false, filter, flat_map}
pub use Rattle.std.proofs.Common.{fold, get_or, if◌then◌else◌, inl, inr, is_none, is_some, le-leb, leb-false, leb-true, length, length-append, length-drop, length-take, lt-ltb, ltb-false, ltb-true}
pub use Rattle.std.proofs.Common.{map, nat_le, nat_lt, ne_eqb, not, option_copied, refl, replicate, slice_get, slice_range, subst, suc, sym, take, take-append-drop, take_at, true, zero, ℕ, ◌%◌, ◌&&◌}
pub use Rattle.std.proofs.Common.{◌++◌, ◌+◌, ◌-◌, ◌<◌, ◌==◌, ◌||◌, ◌↔◌, ◌∙◌, ◌∷◌, ◌≡◌, ◌≢◌, ◌≤◌, ◌⊎◌}
pub use Rattle.std.proofs.Math.Bool.{or-false}
pub use Rattle.std.proofs.Math.Seq.{take-add}
pub use Rattle.std.proofs.lemmas.Bool.{and_left, and_parts, and_right, both_ways, cases_Bool, cases_lt, cond_both, eqb-true, false_from_ne_true, le-ltb, not-true, not_from_false, not_from_true}
pub use Rattle.std.proofs.lemmas.Bool.{or_parts, or_right}
pub use Rattle.std.proofs.lemmas.Bool.Decides.{eqb_tells}
pub use Rattle.std.proofs.lemmas.List.{drop-map, drop_at, length-map, length-replicate, map-append, replicate-append-replicate, take-map, take_rest}
pub use Rattle.std.proofs.lemmas.List.Concat.{flat_map-append}
pub use Rattle.std.proofs.lemmas.List.Elements.{All-contains_itself, filter-append, recursion_from_All}
pub use Rattle.std.proofs.lemmas.List.Folds.{list_any-append}
pub use Rattle.std.proofs.lemmas.List.Sums.{fold-append}
pub use Rattle.std.proofs.lemmas.Option.{slice_get_within}
pub use Rattle.std.specs.Char.{is_whitespace}
pub use Rattle.std.specs.List.{AllByRecursion as Each, AllZip, Contains, list_any}
pub use Rattle.std.specs.Option.{option_map}
pub use Rattle.std.specs.Prelude.{slice_index_or}
pub use Rattle.tbr_model.specs.Cuts.{HasLegalLayout, IsBestLayout, IsLegalLayout, cuts_of, lines_after, lines_between}
pub use Rattle.tbr_model.specs.Entry.{entry_value, entry_values}
pub use Rattle.tbr_model.specs.Greedy.{IsNarrow, Lines, close, fill, no_lines, place_word, wrapped}
pub use Rattle.tbr_model.specs.Hard.{BeginsAfter, BeginsWithNonBlank, EndsWithNonBlank, HasContinuation, HasMain, HasMode, IsCutEvery, IsCutOf, IsPrintable, IsPrintableEntry, IsPrintableLine, IsShown}
pub use Rattle.tbr_model.specs.Hard.{IsSpaces, IsTabbedLine, IsWrapped, Parted, Preserves, ShowsHardLine, ShowsPre, ShowsPreWrap, ShowsTabs, ShowsVisible, StandUnder, blank_lines, entry_letters}
pub use Rattle.tbr_model.specs.Hard.{first_stretch, glyphs_of, hard_lines, is_visible, letters_of, onto_first, stretches, visible_entries}
pub use Rattle.tbr_model.specs.Laid.{Laid, end_if_character, end_if_columns, end_line, extended, nothing_laid, put_item, put_items}
pub use Rattle.tbr_model.specs.Layout.{FirstMayBegin, HasNoEmptyLine, IsAhead, IsBest, IsGreedy, IsLegal, IsLegalLine, IsLongest, MayFollow, OthersMayFollow, Slot, gap_text, gap_width, joined}
pub use Rattle.tbr_model.specs.Layout.{line_has_character, line_text, line_width, placed, rest_text, rest_width, slot_of, slots_of, slots_within, word_slots}
pub use Rattle.tbr_model.specs.Longest.{TellsRests}
pub use Rattle.tbr_model.specs.Mapped.{map_entry, map_event, map_item, map_items, map_lines, map_run, map_space, map_word}
pub use Rattle.tbr_model.specs.Markers.{marker_items, marker_run, names_in_items, names_in_run}
pub use Rattle.tbr_model.specs.Regions.{EndsAtWorkingBreak, HasColumns, IsFirstWorkingBreak, NoBreakWorks, first_blank, takes_columns, word_after}
pub use Rattle.tbr_model.specs.Rule.{Event, Progress, Space, at_start, break_word, call, collapse, enter, enter_normal, entry, finished, flush_word, is_pre, is_space_item, is_white_item, join}
pub use Rattle.tbr_model.specs.Rule.{keep_character, keep_space, lay, lay_fresh, lay_here, lines_of, newline, passes, pending_width, preserve, progress, put_pending, put_space, put_spaces, put_tab}
pub use Rattle.tbr_model.specs.Rule.{run_of, space_of, space_text, spaces, step, tab, tag_of, trimmed, waiting, without_leading, without_trailing, wrap_space, wrap_space_by}
pub use Rattle.tbr_model.specs.Run.{Entry, Item, Reading, Word, blank_of, character, first_of, glyph, has_character, is_blank, is_break, is_break_entry, is_kept, item_width, items_of, items_width}
pub use Rattle.tbr_model.specs.Run.{kept_items, marker, marker_entry, read, reading, start, trailing, word_of, words_of, works}
pub use Rattle.tbr_model.specs.Shown.{HasAnnotation}
pub use Rattle.tbr_model.specs.Slot.{slot_value, slot_values}
pub use Rattle.tbr_model.specs.declared.white_space.WhiteSpace.{WhiteSpace}
pub use Rattle.tbr_model.specs.declared.white_space.WhiteSpace.TheVariants.{Normal, Pre, PreWrap}
