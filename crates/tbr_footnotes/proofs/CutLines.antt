-- Footnotes that are cut into lines.
use Rattle.std.proofs.Common.{◌≡◌, ◌≢◌, ◌↔◌, IsTrue, ℕ, ◌+◌, ◌<◌, ◌≤◌, Bool, true, false, if◌then◌else◌, Option, Some, None, List, [], ◌∷◌, ◌++◌, map, length, get_or, encode_utf8, encode_utf8_all}
use Rattle.std.proofs.Common.{refl, subst, ap, sym, ◌∙◌, append_assoc, append-nil, arith, rules}
use Rattle.std.proofs.lemmas.Bool.{leb-true, le-leb, ne_eqb}
use Rattle.std.proofs.lemmas.List.{map-append, length-append, get_or-append-add}
use lib.Utf8.{encode}
use Rattle.std.proofs.lemmas.Grind.{fold-append}
use Rattle.tbr_model.specs.Codes.{newline_character}
use Rattle.tbr_model.specs.Run.{Item, glyph, item_width}
use Rattle.tbr_model.specs.Width.{width_of_text}
use Rattle.tbr_model.proofs.words.Items.{items_width-append}
use Rattle.tbr_annotations.specs.Annotations.{same_annotations}
use Rattle.tbr_tagged.specs.Elements.{Element, piece, marker_element, text_items, items_of, SameItems, IsMerged}
use Rattle.tbr_annotations.proofs.Told.{items_told}
use Rattle.tbr_tagged.proofs.TextColumns.{items_width-text}
use Rattle.tbr_tagged.specs.declared.TaggedLineElement.{TaggedLineElement}
use Rattle.tbr_tagged.specs.View.{element_of}
use Rattle.tbr_decor.specs.Meant.{meant as element_meant}
use Rattle.tbr_footnotes.specs.Cutting.{Cutting, nothing_cut, line_ended, appended, extended, with_item, with_items, cutting_of, HoldsCutting}
use Rattle.tbr_footnotes.specs.Footnote.{unbroken, footnote_items, fits_after, cut_lines}
use Rattle.tbr_footnotes.specs.declared.footnote_lines.FootnoteLines.TheInside.{Inside}

-- ---- the characters of a footnote

text_items-append : {A : Type 0} (cs ds : List ℕ) (a : A) → text_items (cs ++ ds) a ≡ text_items cs a ++ text_items ds a
text_items-append cs ds a = map-append (λ c. glyph c a) cs ds

footnote_items-append : {A : Type 0} (es fs : List (Element A)) → footnote_items (es ++ fs) ≡ footnote_items es ++ footnote_items fs
footnote_items-append [] fs = refl
footnote_items-append (piece cs a ∷ es) fs =
    ap (λ is. text_items (map unbroken cs) (a ∷ []) ++ is) (footnote_items-append es fs) ∙ sym (append_assoc (text_items (map unbroken cs) (a ∷ [])) (footnote_items es) (footnote_items fs))
footnote_items-append (marker_element name ∷ es) fs = footnote_items-append es fs

-- those of a text without the byte of a newline
pub unbroken_text : (cs : List ℕ) → ((i : ℕ) → i < length (encode_utf8_all cs) → get_or (encode_utf8_all cs) i 0 ≢ newline_character) → map unbroken cs ≡ cs
unfolding encode
unbroken_text [] other = refl
unbroken_text (c ∷ cs) other =
    let is_other : c ≢ newline_character =
    λ is. subst
    (λ d. (i : ℕ) → i < length (encode_utf8_all (d ∷ cs)) → get_or (encode_utf8_all (d ∷ cs)) i 0 ≢
    newline_character) is other 0 (omega arith) refl in
    let first = encode_utf8 c in
    let bytes = encode_utf8_all cs in
    let more = unbroken_text cs (λ i l is. other (length first + i) (omega (arith, length-append first bytes, l)) (get_or-append-add first bytes i 0 ∙ is)) in
    rw (ne_eqb c newline_character is_other) (ap (λ xs. c ∷ xs) more)

module _ {T : Type 0} (columns : ℕ → Option ℕ) where
  -- characters and then characters
  then_items : (c d e : Cutting T) (is js : List (Item T)) → d ≡ with_items columns c is → e ≡ with_items columns d js → e ≡ with_items columns c (is ++ js)
  then_items c d e is js first next = next ∙ ap (λ (x : Cutting T). with_items columns x js) first ∙ sym (fold-append (with_item columns) c is js)

  -- one character more of a text
  pub text_goes_on : (c d e : Cutting T) (tag : T) (cs : List ℕ) (x y : ℕ) → d ≡ with_items columns c (text_items (map unbroken cs) tag) → y ≡ unbroken x → e ≡ with_item columns d (glyph y tag) →
      e ≡ with_items columns c (text_items (map unbroken (cs ++ x ∷ [])) tag)
  text_goes_on c d e tag cs x y so_far is next =
      then_items c d e (text_items (map unbroken cs) tag) (glyph (unbroken x) tag ∷ []) so_far (next ∙ ap (λ z. with_item columns d (glyph z tag)) is)
      ∙ ap (with_items columns c) (sym (ap (λ zs. text_items zs tag) (map-append unbroken cs (x ∷ [])) ∙ text_items-append (map unbroken cs) (unbroken x ∷ []) tag))

  -- the whole text
  pub text_ends : (c d : Cutting T) (tag : T) (cs ds : List ℕ) → d ≡ with_items columns c (text_items (map unbroken cs) tag) → cs ≡ ds → d ≡ with_items columns c (text_items (map unbroken ds) tag)
  text_ends c d tag cs ds so_far all = so_far ∙ ap (λ xs. with_items columns c (text_items (map unbroken xs) tag)) all

  -- what fits after a line, where more does, and after a character of it
  fits_at_most : (width : Option ℕ) (held : List (Item T)) (more most : ℕ) → more ≤ most → fits_after columns width held most ≡ true → fits_after columns width held more ≡ true
  fits_at_most None held more most h fits = refl
  fits_at_most (Some width) held more most h fits = le-leb _ _ (omega (arith, h, leb-true _ _ fits))

  fits_less : (width : Option ℕ) (held : List (Item T)) (i : Item T) (more : ℕ) →
      fits_after columns width held (item_width columns i + more) ≡ true →
      fits_after columns width (held ++ i ∷ []) more ≡ true
  fits_less None held i more fits = refl
  fits_less (Some width) held i more fits = le-leb _ _ (omega (arith, items_width-append columns held (i ∷ []), leb-true _ _ fits))

  -- a text that fits as a whole
  with_text : (c : Cutting T) (tag : T) (cs : List ℕ) → fits_after columns c.width c.held (width_of_text columns cs) ≡ true → with_items columns c (text_items cs tag) ≡ extended c (text_items cs tag)
  with_text c tag [] fits = ap (λ (is : List (Item T)). record c { held = is }) (sym (append-nil c.held))
  with_text c tag (x ∷ cs) fits =
      let i = glyph x tag in
      let here = fits_at_most c.width c.held (item_width columns i) (width_of_text columns (x ∷ cs)) (omega arith) fits in
      ap (λ (b : Bool). with_items columns (appended (if b then c else line_ended c) i) (text_items cs tag)) here
      ∙ with_text (appended c i) tag cs (fits_less c.width c.held i (width_of_text columns cs) fits)
      ∙ ap (λ (is : List (Item T)). record c { held = is }) (append_assoc c.held (i ∷ []) (text_items cs tag))

  pub whole_text : (c d : Cutting T) (tag : T) (cs : List ℕ) → map unbroken cs ≡ cs →
      fits_after columns c.width c.held (width_of_text columns cs) ≡ true → d ≡ extended c (text_items cs tag) →
      d ≡ with_items columns c (text_items (map unbroken cs) tag)
  whole_text c d tag cs unbroken fits is = is ∙ sym (with_text c tag cs fits) ∙ ap (λ ds. with_items columns c (text_items ds tag)) (sym unbroken)

  -- one character, whether it fits or not
  module _ (c : Cutting T) (i : Item T) (is : List (Item T)) where
    abbrev cutting_after : Bool → Cutting T
    cutting_after b = with_items columns (appended (if b then c else line_ended c) i) is

    abbrev lines_after : Bool → List (List (Item T))
    lines_after b = if b then cut_lines columns c.width (c.held ++ i ∷ []) is else c.held ∷ cut_lines columns c.width (i ∷ []) is

    one_by_one : (b : Bool) → fits_after columns c.width c.held (item_width columns i) ≡ b → (line_ended (cutting_after b)).ended ≡ c.ended ++ lines_after b →
        (line_ended (with_items columns c (i ∷ is))).ended ≡ c.ended ++ cut_lines columns c.width c.held (i ∷ is)
    one_by_one b fits h = ap (λ (x : Bool). (line_ended (cutting_after x)).ended) fits ∙ h ∙ ap (λ (x : Bool). c.ended ++ lines_after x) (sym fits)

  -- the lines of all characters
  pub cut_by_items : (c : Cutting T) (is : List (Item T)) → (line_ended (with_items columns c is)).ended ≡ c.ended ++ cut_lines columns c.width c.held is
  cut_by_items c [] = refl
  cut_by_items c (i ∷ is) = go (fits_after columns c.width c.held (item_width columns i)) refl (cut_by_items (appended c i) is) (cut_by_items (appended (line_ended c) i) is)
    where
      go : (b : Bool) → fits_after columns c.width c.held (item_width columns i) ≡ b →
          (line_ended (with_items columns (appended c i) is)).ended ≡ c.ended ++ cut_lines columns c.width (c.held ++ i ∷ []) is →
          (line_ended (with_items columns (appended (line_ended c) i) is)).ended ≡ (c.ended ++ c.held ∷ []) ++ cut_lines columns c.width (i ∷ []) is →
          (line_ended (with_items columns c (i ∷ is))).ended ≡ c.ended ++ cut_lines columns c.width c.held (i ∷ is)
      go true fits here fresh = one_by_one c i is true fits here
      go false fits here fresh = one_by_one c i is false fits (fresh ∙ append_assoc c.ended (c.held ∷ []) (cut_lines columns c.width (i ∷ []) is))

-- one element more
module _ {A M : Type 0} (f : A → M) (columns : ℕ → Option ℕ) where
  pub elements_go_on : (c d e : Cutting (List M)) (es : List (TaggedLineElement A)) (x : TaggedLineElement A) → d ≡ with_items columns c (footnote_items (map (element_meant f) (map element_of es))) →
      e ≡ with_items columns d (footnote_items (element_meant f (element_of x) ∷ [])) → e ≡ with_items columns c (footnote_items (map (element_meant f) (map element_of (es ++ x ∷ []))))
  elements_go_on c d e es x so_far next = search (rules, then_items, map-append, footnote_items-append)

  -- the whole line
  pub elements_end : (c d : Cutting (List M)) (es : List (TaggedLineElement A)) (line : List (Element A)) →
      d ≡ with_items columns c (footnote_items (map (element_meant f) (map element_of es))) → map element_of es ≡ line →
      d ≡ with_items columns c (footnote_items (map (element_meant f) line))
  elements_end c d es line so_far all = so_far ∙ ap (λ xs. with_items columns c (footnote_items (map (element_meant f) xs))) all

  -- the lines of a footnote, from the first character to the last
  pub cut_whole : (width : Option ℕ) (c d : Cutting (List M)) (es : List (Element M)) (lines : List (List (Item (List M)))) → c ≡ nothing_cut width → d ≡ with_items columns c (footnote_items es) →
      lines ≡ (line_ended d).ended → lines ≡ cut_lines columns width [] (footnote_items es)
  cut_whole width c d es lines begun all last =
      last ∙ ap (λ (x : Cutting (List M)). (line_ended x).ended) (all ∙ ap (λ (x : Cutting (List M)). with_items columns x (footnote_items es)) begun)
      ∙ cut_by_items columns (nothing_cut width) (footnote_items es)

-- ---- what is in the fields

-- a text more in the open line
module _ {M : Type 0} (widths : ℕ → Option ℕ) (same : M → M → Bool) (tells : (a b : M) → IsTrue (same a b) ↔ (a ≡ b))
    {D W A : Type 0} (c : Inside D W A M) (new : List (Element (List M))) (cs : List ℕ) (tag : List M)
    (is : SameItems (same_annotations same) (items_of new) (items_of c.held ++ text_items cs tag)) where
  held_more : items_of new ≡ items_of c.held ++ text_items cs tag
  held_more = items_told same tells (items_of new) (items_of c.held ++ text_items cs tag) is

  pub line_extended : (p : Cutting (List M)) → cutting_of c ≡ p → record (cutting_of c) { held = items_of new } ≡ extended p (text_items cs tag)
  line_extended p are = ap (λ (held : List (Item (List M))). record (cutting_of c) { held = held }) held_more ∙ ap (λ (q : Cutting (List M)). extended q (text_items cs tag)) are

  pub holds_extended : (columns : ℕ) → HoldsCutting widths same c → columns ≡ c.columns + width_of_text widths cs →
      IsMerged (same_annotations same) new → HoldsCutting widths same (record c { held = new; columns = columns })
  holds_extended columns h sum merged = search (rules, items_width-append, items_width-text, held_more)
