use Rattle.tbr_show.proofs.Common.{ap, ◌∙◌, ◌++◌, sym, string_bytes, IsUtf8-string_bytes, chars_of, piece}
use Rattle.std.specs.Prelude.{encode_utf8_all}
use Rattle.std.proofs.lemmas.Str.{encodes-chars}
use Rattle.tbr_tagged.specs.Elements.{element_width}
use Rattle.tbr_tagged.proofs.TextColumns.{items_width-text}
use Rattle.tbr_show.specs.Ndjson.{piece_tokens}
use Rattle.tbr_show.proofs.Appended.{on_ok_then}
use Rattle.tbr_show.proofs.ndjson.write_tagged.Goals as goal

pub returns-clause-tokens : goal.returns-clause-tokens
returns-clause-tokens g c =
    let s = c.args.piece.now.s in
    let tag = c.args.piece.now.tag in
    let columns = g.W.CharWidth.columns in
    let old = c.args.writer.now.tokens in
    let bytes = encode_utf8_all (chars_of s) in
    let text = c.as_str.ensures.value ∙ sym (encodes-chars (string_bytes s) (IsUtf8-string_bytes s)) in
    let width = c.in_ok-columns.ensures ∙ sym (items_width-text columns (chars_of s) tag) in
    on_ok_then c.write_piece.result
    (λ h. h ∙ ap (λ bs. old ++ piece_tokens bs c.in_ok-columns.columns c.as_slice.result.now) text
    ∙ ap (λ n. old ++ piece_tokens bytes n c.as_slice.result.now) width
    ∙ ap (λ tags. old ++ piece_tokens bytes (element_width columns (piece (chars_of s) tag)) tags) c.as_slice.ensures.value)
    c.write_piece.ensures.tokens
