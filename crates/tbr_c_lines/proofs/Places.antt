-- Pieces end to end.
use Rattle.std.proofs.Common.{◌≡◌, ℕ, ◌+◌, Bool, List, String, [], ◌∷◌, ◌++◌, map, length, encode_utf8_all, string_bytes, refl, ap, ◌∙◌, append-nil, arith, rules}
use Rattle.std.specs.Global.{Vec}
use Rattle.std.proofs.lemmas.List.{length-append}
use Rattle.std.proofs.lemmas.List.Concat.{flat_map-append}
use Rattle.std.proofs.lemmas.Str.{encodes-chars, encodes-append, IsUtf8-string_bytes}
use Rattle.tbr_tagged.specs.Elements.{Element, piece, marker_element, element_characters, characters, line_width}
use Rattle.tbr_tagged.specs.UnicodeColumns.{unicode_columns}
use Rattle.tbr_tagged.specs.View.{chars_of}
use Rattle.tbr_decor.specs.declared.annotation.RichAnnotation.{RichAnnotation}
use Rattle.tbr_c_lines.specs.Line.{Piece, under, piece_at, pieces_at, line_of}

-- a text's bytes from its characters
pub encodes_back : {Z : Type 0} (s : String Z) → encode_utf8_all (chars_of s) ≡ string_bytes s
encodes_back s = encodes-chars (string_bytes s) (IsUtf8-string_bytes s)

abbrev pub bytes_of : List ℕ → ℕ
bytes_of cs = length (encode_utf8_all cs)

pub bytes-append : (cs ds : List ℕ) → bytes_of (cs ++ ds) ≡ bytes_of cs + bytes_of ds
bytes-append cs ds = ap length (encodes-append cs ds) ∙ length-append (encode_utf8_all cs) (encode_utf8_all ds)

module _ {A : Type 0} (shown : A → RichAnnotation) where
  pub text_piece : {Z : Type 0} (at end : ℕ) (s : String Z) (tag : Vec A) (annotations : List RichAnnotation) → end ≡ at + length (string_bytes s) → annotations ≡ map shown tag.items →
      record { begin = at; end = end; what = under (string_bytes s) annotations } ≡ piece_at shown at (piece (chars_of s) tag)
  text_piece at end s tag annotations ends are = search (rules, ℕ, encodes_back)

  pub end_at : (at : ℕ) (e : Element (Vec A)) → (let p = piece_at shown at e in p.end) ≡ at + bytes_of (element_characters e)
  end_at at (piece cs tag) = refl
  end_at at (marker_element name) = omega arith

  one_more : (at : ℕ) (es : List (Element (Vec A))) (e : Element (Vec A)) → pieces_at shown at (es ++ e ∷ []) ≡ pieces_at shown at es ++ piece_at shown (at + bytes_of (characters es)) e ∷ []
  one_more at [] e = ap (λ (n : ℕ). piece_at shown n e ∷ []) (omega arith)
  one_more at (d ∷ es) e =
      let next = at + bytes_of (element_characters d) in
      let there : next + bytes_of (characters es) ≡ at + bytes_of (characters (d ∷ es)) = omega (arith, bytes-append (element_characters d) (characters es)) in
      ap (λ (ps : List Piece). piece_at shown at d ∷ ps) (one_more next es e ∙ ap (λ (n : ℕ). pieces_at shown next es ++ piece_at shown n e ∷ []) there)

  pub one_after : (es : List (Element (Vec A))) (e : Element (Vec A)) → pieces_at shown 0 (es ++ e ∷ []) ≡ pieces_at shown 0 es ++ piece_at shown (bytes_of (characters es)) e ∷ []
  one_after es e = one_more 0 es e ∙ ap (λ (n : ℕ). pieces_at shown 0 es ++ piece_at shown n e ∷ []) (omega arith)

  pub whole_line : {Z : Type 0} (text : String Z) (columns : ℕ) (is_border : Bool) (pieces : List Piece) (es : List (Element (Vec A))) →
      chars_of text ≡ characters es → columns ≡ line_width unicode_columns es → pieces ≡ pieces_at shown 0 es →
      record { text = string_bytes text; columns = columns; is_border = is_border; pieces = pieces } ≡ line_of shown is_border es
  whole_line text columns is_border pieces es same wide are = search (rules, encode_utf8_all, encodes_back, ℕ)

pub bytes_one_more : {A : Type 0} (es : List (Element A)) (e : Element A) → bytes_of (characters (es ++ e ∷ [])) ≡ bytes_of (characters es) + bytes_of (element_characters e)
bytes_one_more es e = search (rules, flat_map-append, ℕ, append-nil, bytes-append)
