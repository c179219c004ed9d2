-- The names that most proofs here cite, passed on from one place. It declares nothing.
pub use Rattle.std.proofs.Common.{Bool, Err, List, Ok, Result, [], ap, append_assoc, chars, false, map, map-id, not, refl, rules, string_bytes, subst, sym, take, true, ℕ, ◌++◌, ◌∙◌, ◌∷◌, ◌≡◌}
pub use Rattle.std.proofs.lemmas.Bool.{false≢true}
pub use Rattle.std.proofs.lemmas.Iterator.{YieldsList-from_chars}
pub use Rattle.std.proofs.lemmas.Iterator.Consumers.{YieldsList-end}
pub use Rattle.std.proofs.lemmas.List.Elements.{filter-append}
pub use Rattle.std.proofs.lemmas.Str.{IsUtf8-string_bytes}
pub use Rattle.std.specs.Char.{is_control}
pub use Rattle.std.specs.Prelude.{codes, flat_map}
pub use Rattle.json.specs.Token.{begin_array, begin_object, end_array, end_object, key}
pub use Rattle.tbr_decor.proofs.Texts.{ascii_last}
pub use Rattle.tbr_model.specs.Codes.{newline_character}
pub use Rattle.tbr_show.specs.Ansi.{ends}
pub use Rattle.tbr_show.specs.Html.{begins, shown}
pub use Rattle.tbr_show.specs.Ndjson.{annotation_tokens, columns_tokens, element_tokens, escaped}
pub use Rattle.tbr_show.specs.Written.{printable}
pub use Rattle.tbr_tagged.specs.Elements.{Element, characters, piece}
pub use Rattle.tbr_tagged.specs.View.{chars_of, element_of}
pub use Rattle.tbr_tagged.specs.Walks.{elements_left}
