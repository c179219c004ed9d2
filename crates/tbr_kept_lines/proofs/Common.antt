-- The names that most proofs here cite, passed on from one place. It declares nothing.
pub use Rattle.std.proofs.Common.{Bool, List, None, Option, Some, [], ap, append-nil, append_assoc, arith, drop, false, get_or, if◌then◌else◌, length, lt-ltb, map, not, refl, rules, subst, suc, sym}
pub use Rattle.std.proofs.Common.{take, true, zero, ℕ, ◌++◌, ◌+◌, ◌-◌, ◌<◌, ◌||◌, ◌∙◌, ◌∷◌, ◌≡◌, ◌≤◌}
pub use Rattle.std.proofs.lemmas.Bool.{eqb-true}
pub use Rattle.std.proofs.lemmas.List.{length-append, map-append, nil_from_length, take_more}
pub use Rattle.std.proofs.lemmas.List.Concat.{flat_map-append}
pub use Rattle.std.proofs.lemmas.Result.{on_ok_weaker}
pub use Rattle.std.proofs.lemmas.Str.{chars-nil}
pub use Rattle.std.specs.Cmp.{IsEquivalence}
pub use Rattle.std.specs.List.{AllByRecursion as Each, AllZip, list_any}
pub use Rattle.std.specs.Prelude.{chars, filter, nat_lt, ◌==◌}
pub use Rattle.tbr_border.specs.Border.{Border}
pub use Rattle.tbr_border.specs.RenderLine.{IsMergedText, items_under}
pub use Rattle.tbr_border.specs.declared.RenderLine.{RenderLine}
pub use Rattle.tbr_border.specs.declared.RenderLine.TheVariants.{Line as Rule, Text}
pub use Rattle.tbr_kept_lines.specs.KeptLines.{HoldsPart, part_seen, parts_seen}
pub use Rattle.tbr_kept_lines.specs.LastBorder.{last_border, without_last}
pub use Rattle.tbr_kept_lines.specs.Line.{Line, SameSeen, border, line_has_content, line_seen, text, text_lines}
pub use Rattle.tbr_kept_lines.specs.Prefixed.{Appends, Pushes, after_prefixes, as_text, prefixed_lines}
pub use Rattle.tbr_kept_lines.specs.Text.{lines_text}
pub use Rattle.tbr_kept_lines.specs.declared.kept_lines.Part.{Part}
pub use Rattle.tbr_model.specs.Run.{Item, has_character}
pub use Rattle.tbr_tagged.proofs.MappedTags.{merged_piece_has}
pub use Rattle.tbr_tagged.proofs.SameItems.{all_zip_append, same_items, same_items_append, same_items_trans}
pub use Rattle.tbr_tagged.specs.Elements.{IsMerged, SameItems, items_of, text_items}
pub use Rattle.tbr_tagged.specs.View.{chars_of}
pub use Rattle.tbr_wrap.specs.EndedLines.{line_characters, lines_characters, prefixed_characters}
pub use Rattle.tbr_wrap.specs.Runs.{is_some_list}
