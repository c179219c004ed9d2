-- The names that most proofs here cite, passed on from one place. It declares nothing.
pub use Rattle.std.proofs.Common.{Bool, IsTrue, List, None, Option, Some, [], add-one, ap, append-nil, append_assoc, arith, chars, drop, false, get_or, inl, inr, length, map, min, refl, replicate}
pub use Rattle.std.proofs.Common.{rules, set, subst, suc, sym, take, true, unwrap_or, zero, ℕ, ◌++◌, ◌+◌, ◌-◌, ◌<◌, ◌↔◌, ◌∙◌, ◌∷◌, ◌≡◌, ◌≤◌, ◌⊎◌}
pub use Rattle.std.proofs.Math.Seq.{drop-append_seam, take-add, take-append_seam}
pub use Rattle.std.proofs.lemmas.Bool.{cases_lt, eq-eqb, eqb-true, false≢true, or_parts, true≢false}
pub use Rattle.std.proofs.lemmas.List.{drop-append-le, drop-drop, drop_all, drop_at, get_or_read, length-append, length-drop, length-map, length-replicate, length-take, length-take-le}
pub use Rattle.std.proofs.lemmas.List.{nil_from_length, take-append-drop, take-append-le, take-take, take_all, take_at}
pub use Rattle.std.proofs.lemmas.Result.{on_ok_weaker}
pub use Rattle.std.proofs.lemmas.Str.{IsCharBoundary-from_drop, IsUtf8-from_ascii, IsUtf8-from_is_utf8, IsUtf8-past_char, chars-IsAscii, chars-append, chars-encodes, chars_past_char, encodes-IsAscii}
pub use Rattle.std.proofs.lemmas.Str.{encodes-append, encodes-chars, is_utf8-from_IsUtf8, scalars-chars}
pub use Rattle.std.specs.Char.{is_whitespace}
pub use Rattle.std.specs.Cmp.{IsEquivalence}
pub use Rattle.std.specs.List.{AllByRecursion as Each, AllZip, slice_get}
pub use Rattle.std.specs.Option.{MatchOption}
pub use Rattle.std.specs.Str.{IsCharBoundary, IsUtf8, is_utf8}
pub use Rattle.std.specs.Str.Iter.{chars_rest}
pub use Rattle.std.specs.String.{string_bytes}
pub use Rattle.std.specs.VecDeque.Iter.{deque_iter_rest}
pub use Rattle.tbr_flat.specs.Flat.{Flat, IsLeft, MarkerPlaces, before_first, before_last, covered, flat, followed, glyphs, marked, shortened}
pub use Rattle.tbr_flat.specs.Tags.{IsPlace, tags_of}
pub use Rattle.tbr_flat.specs.Walk.{given, given_width, places_left, places_of}
pub use Rattle.tbr_flat.specs.declared.markers.Marker.{Marker}
pub use Rattle.tbr_flat.specs.declared.tags.RepeatedTag.{RepeatedTag}
pub use Rattle.tbr_model.proofs.lists.Each.{each_back, each_front}
pub use Rattle.tbr_model.proofs.lists.Joined.{cut_twice}
pub use Rattle.tbr_model.proofs.words.Items.{has_character-append}
pub use Rattle.tbr_model.specs.Entry.{is_glyph}
pub use Rattle.tbr_model.specs.Markers.{names_in_items}
pub use Rattle.tbr_model.specs.Rule.{without_leading, without_trailing}
pub use Rattle.tbr_model.specs.Run.{Item, glyph, has_character, items_width, marker}
pub use Rattle.tbr_model.specs.Width.{width_of_text}
pub use Rattle.tbr_tagged.proofs.GrownLines.{grown_same}
pub use Rattle.tbr_tagged.proofs.SameItems.{same_items, same_items_append}
pub use Rattle.tbr_tagged.proofs.TextAfter.{chars_none, spaces_ascii}
pub use Rattle.tbr_tagged.specs.Elements.{IsMerged, SameItems, items_of, text_items}
pub use Rattle.tbr_tagged.specs.Grown.{HasGrown}
pub use Rattle.tbr_tagged.specs.View.{element_of}
pub use Rattle.tbr_tagged.specs.Walks.{item_characters}
