-- The names that most proofs here cite, passed on from one place. It declares nothing.
pub use Rattle.std.proofs.Common.{Bool, List, [], ap, append-nil, append_assoc, arith, chars, drop, drop-cons, false, get_or, length, map, map-id, refl, rules, suc, sym, take, true, zero, ℕ, ◌++◌}
pub use Rattle.std.proofs.Common.{◌+◌, ◌-◌, ◌<◌, ◌∙◌, ◌∷◌, ◌≡◌, ◌≤◌}
pub use Rattle.std.proofs.lemmas.Bool.{lt-ltb}
pub use Rattle.std.proofs.lemmas.Iterator.Adapters.{YieldsList-from_vec}
pub use Rattle.std.proofs.lemmas.Iterator.Consumers.{YieldsList-end}
pub use Rattle.std.proofs.lemmas.List.{length-map, map-append, map_push, take-append-drop, take_all}
pub use Rattle.std.proofs.lemmas.Result.{on_ok_weaker}
pub use Rattle.std.proofs.lemmas.Str.{IsUtf8-string_bytes, chars-append, chars-nil}
pub use Rattle.std.specs.List.{AllZip, slice_range}
pub use Rattle.std.specs.Prelude.{replicate}
pub use Rattle.std.specs.String.{string_bytes}
pub use Rattle.tbr_border.specs.Border.{AreInOrder, Hole, MapsHole, SameHole, drawn, joined_under, joins_end, shown_from, span_end}
pub use Rattle.tbr_border.specs.BorderView.{hole_of}
pub use Rattle.tbr_border.specs.Cell.{Cell, arms, cell_of, character, joined, line_above, side_of, slash}
pub use Rattle.tbr_border.specs.declared.border.cell.BorderSegHoriz.TheVariants.{Horiz}
pub use Rattle.tbr_tagged.proofs.ElementLoops.{one_more, one_more_at}
pub use Rattle.tbr_tagged.proofs.LineWalks.{items_have_characters}
pub use Rattle.tbr_tagged.proofs.SameItems.{same_items, same_items_append, same_items_trans}
pub use Rattle.tbr_tagged.proofs.TextAfter.{chars_push}
pub use Rattle.tbr_tagged.specs.Elements.{SameItems, element_characters, items_of}
pub use Rattle.tbr_tagged.specs.Walks.{item_characters}
