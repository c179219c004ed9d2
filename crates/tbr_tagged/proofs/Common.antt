-- The names that most proofs here cite, passed on from one place. It declares nothing.
pub use Rattle.std.proofs.Common.{Bool, IsTrue, List, Option, Result, Some, [], ap, append-nil, append_assoc, arith, chars, drop, drop-cons, encode_utf8, false, fold, get_or, length, map, map-id}
pub use Rattle.std.proofs.Common.{refl, replicate, rules, set, subst, suc, sym, take, true, unwrap_or, zero, ℕ, ◌++◌, ◌+◌, ◌-◌, ◌<◌, ◌∙◌, ◌∷◌, ◌≡◌, ◌≤◌}
pub use Rattle.std.proofs.Math.Seq.{map-set_same}
pub use Rattle.std.proofs.lemmas.Bool.{cond_both, eqb-true}
pub use Rattle.std.proofs.lemmas.Bool.Decides.{nat_tests}
pub use Rattle.std.proofs.lemmas.Iterator.Consumers.{YieldsList-end, YieldsList-turn}
pub use Rattle.std.proofs.lemmas.List.{length-map, map-append, map_push, take-append-drop}
pub use Rattle.std.proofs.lemmas.List.Concat.{flat_map-append}
pub use Rattle.std.proofs.lemmas.List.Elements.{AllZip-push}
pub use Rattle.std.proofs.lemmas.Result.{on_err_weaker, on_ok_weaker}
pub use Rattle.std.proofs.lemmas.Str.{IsUtf8-string_bytes, chars-IsAscii, chars-append, chars-encodes, chars-nil}
pub use Rattle.std.specs.Char.{IsScalar}
pub use Rattle.std.specs.Cmp.{IsEquivalence}
pub use Rattle.std.specs.List.{AllZip, slice_get}
pub use Rattle.std.specs.Str.{IsAscii, IsCharBoundary, IsUtf8}
pub use Rattle.std.specs.String.{string_bytes, string_len}
pub use Rattle.tbr_model.proofs.words.Items.{items_width-append}
pub use Rattle.tbr_model.specs.Run.{Item, glyph, has_character, items_width, marker}
pub use Rattle.tbr_model.specs.Width.{width_of_text}
pub use Rattle.tbr_tagged.specs.Elements.{AreParted, Element, HasText, IsMerged, IsPartedFrom, SameElement, SameElements, SameItem, SameItems, characters, element_characters, element_items}
pub use Rattle.tbr_tagged.specs.Elements.{extend_last, has_piece, insert_text, is_piece_under, items_of, last_of, marker_element, piece, push_element, push_text, text_before, text_items, with_text}
pub use Rattle.tbr_tagged.specs.Mapped.{MapsElements}
pub use Rattle.tbr_tagged.specs.Narrow.{AreNarrow}
pub use Rattle.tbr_tagged.specs.Padding.{columns_in_front, spaces}
pub use Rattle.tbr_tagged.specs.Stored.{stored}
pub use Rattle.tbr_tagged.specs.UnicodeColumns.{unicode_columns}
pub use Rattle.tbr_tagged.specs.View.{element_of}
pub use Rattle.tbr_tagged.specs.Walks.{characters_left, elements_left, piece_of, strings_of}
pub use Rattle.tbr_tagged.specs.declared.element.TaggedLineElement.{TaggedLineElement}
pub use Rattle.tbr_tagged.specs.declared.element.TaggedLineElement.TheVariants.{FragmentStart, Str}
pub use Rattle.unicode_width.specs.Width.{char_width}
