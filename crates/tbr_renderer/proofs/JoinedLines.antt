-- Lines that join those of a renderer.
use Rattle.tbr_renderer.proofs.Common.{◌≡◌, ◌↔◌, IsTrue, arith, ℕ, ◌-◌, suc, length, Bool, true, false, if◌then◌else◌, Option, None, Some, List, [], ◌∷◌, ◌++◌, map, refl, ap, sym, ◌∙◌, fold}
use Rattle.tbr_renderer.proofs.Common.{append_assoc, append-nil, AllZip, Border, shown, Item, items_width, Element, marker_element, items_of, text_items, piece, SameItems, spaces}
use Rattle.tbr_renderer.proofs.Common.{WhiteSpace, Block, Line, text, border, SameSeen, line_seen, text_lines, Renderer, has_content, with_line, last_mode, with_empty_line, block_started}
use Rattle.tbr_renderer.proofs.Common.{names_of, AreMarkers, same_annotations, WritesOut, items_told, Vec, RenderLine, Text, Rule, with_border, padding_of, filled_line}
use Rattle.std.proofs.Common.{slice_get}
use Rattle.tbr_border.specs.Border.{Hole, MapsHole, MapsBorder}
use Rattle.tbr_model.specs.Run.{marker}
use Rattle.tbr_model.specs.Markers.{marker_items}
use Rattle.tbr_renderer.specs.Renderer.{line_padding, with_filled}
use Rattle.tbr_rows.specs.Meant.{map_hole, map_border}
use Rattle.tbr_renderer.specs.Mapped.{map_line}
use Rattle.tbr_annotations.specs.Written.{vector_meant, Holds}
use Rattle.tbr_tagged.specs.Mapped.{MapsElement, map_element}

-- ---- padding

module _ {D A : Type 0} (columns : ℕ → Option ℕ) (r : Renderer D A (List A)) where
  -- a line that is filled
  pub filled : (v : List A) (width : ℕ) (is : List (Item (List A))) → r.options.pad_block_width ≡ true → v ≡ r.annotations → width ≡ r.width →
      is ++ text_items (spaces (width - items_width columns is)) v ≡ is ++ line_padding columns r is
  filled v width is pads under wide =
      ap (λ js. is ++ js) ((λ i. padding_of columns (Some (under i)) (wide i) is)
      ∙ ap (λ (b : Bool). padding_of columns (if b then Some r.annotations else None) r.width is) (sym pads))

-- ---- lines after markers

marker_elements : (T : Type 0) (names : List (List ℕ)) → items_of (map (λ n. let e : Element T = marker_element n in e) names) ≡ marker_items names
marker_elements T [] = refl
marker_elements T (name ∷ names) = ap (λ (is : List (Item T)). marker name ∷ is) (marker_elements T names)

module _ {T : Type 0} where
  marked : (es : List (Element T)) (names : List (List ℕ)) (line : List (Item T)) → AreMarkers es → names_of es ≡ names → items_of es ++ line ≡ marker_items names ++ line
  marked es names line are is = ap (λ js. js ++ line) (ap (λ xs. items_of xs) (sym are) ∙ marker_elements T (names_of es) ∙ ap marker_items is)

module _ {D A : Type 0} (columns : ℕ → Option ℕ) where
  -- a line that is filled
  pub filled_added : (r b : Renderer D A (List A)) (full line : List (Item (List A))) →
      full ≡ line ++ line_padding columns r line → b ≡ record r { lines = r.lines ++ text full ∷ [] } → b ≡ with_filled columns r line
  filled_added r b full line fills pushed = pushed ∙ ap (λ (is : List (Item (List A))). record r { lines = r.lines ++ text is ∷ [] }) fills

  -- after the markers that waited
  pub line_after : (r a b : Renderer D A (List A)) (es : List (Element (List A))) (whole line : List (Item (List A)))
      → AreMarkers es → names_of es ≡ r.waiting → a ≡ record r { waiting = [] } → whole ≡ items_of es ++ line →
      b ≡ with_filled columns a whole → b ≡ with_line columns r line
  line_after r a b es whole line are names emptied same added = added ∙ (λ i. with_filled columns (emptied i) ((same ∙ marked es r.waiting line are names) i))

-- ---- content

module _ {D A : Type 0} (columns : ℕ → Option ℕ) (r : Renderer D A (List A)) where
  -- a block begins
  pub block_begun : (b : Bool) → b ≡ has_content r → (if b then with_empty_line columns r else record r { block_ended = false }) ≡ block_started columns r
  block_begun b e = λ i. if e i then with_empty_line columns r else record r { block_ended = false }

-- ---- modes

pub last_mode_is : (modes : List WhiteSpace) (mode : WhiteSpace) → Some mode ≡ slice_get modes (length modes - 1) → mode ≡ last_mode modes
last_mode_is [] mode e = cc
last_mode_is (m ∷ []) mode e =
    let zeroth : length (m ∷ []) - 1 ≡ 0 = omega (arith) in
    let here : Some mode ≡ Some m = e ∙ ap (slice_get (m ∷ [])) zeroth in
    cc
last_mode_is (m ∷ n ∷ modes) mode e =
    let next : length (m ∷ n ∷ modes) - 1 ≡ suc (length (n ∷ modes) - 1) = omega (arith) in
    last_mode_is (n ∷ modes) mode (e ∙ ap (slice_get (m ∷ n ∷ modes)) next)

-- ---- lines that are the same

module _ {A : Type 0} (same : A → A → Bool) (tells : (a b : A) → IsTrue (same a b) ↔ (a ≡ b)) where
  seen_told : (l m : Line (List A)) → SameSeen (same_annotations same) l m → l ≡ m
  seen_told (text is) (text js) h = ap (λ ks. text ks) (items_told same tells is js h)
  seen_told (border b) (border d) h = ap border h
  seen_told (text is) (border b) h = absurd h
  seen_told (border b) (text is) h = absurd h

  pub lines_told : (ls ms : List (Line (List A))) → AllZip (SameSeen (same_annotations same)) ls ms → ls ≡ ms
  lines_told [] [] h = refl
  lines_told [] (m ∷ ms) h = absurd h
  lines_told (l ∷ ls) [] h = absurd h
  lines_told (l ∷ ls) (m ∷ ms) h = λ i. seen_told l m h.0 i ∷ lines_told ls ms h.1 i

-- ---- lines that are written out

module _ {A M : Type 0} (f : A → M) where
  element_means : (e : Element (List M)) (d : Element (Vec A)) → MapsElement (Holds f) e d → map_element (vector_meant f) d ≡ e
  element_means (piece cs a) (piece ds b) h = λ i. piece (h.0 i) (h.1 i)
  element_means (marker_element m) (marker_element n) h = ap (λ (name : List _). marker_element name) h
  element_means (piece cs a) (marker_element n) h = absurd h
  element_means (marker_element m) (piece ds b) h = absurd h

  holes_mean : (hs : List (Hole (List M))) (ks : List (Hole (Vec A))) → AllZip (MapsHole (Holds f)) hs ks → map (map_hole (vector_meant f)) ks ≡ hs
  holes_mean [] [] all = refl
  holes_mean [] (k ∷ ks) all = absurd all
  holes_mean (h ∷ hs) [] all = absurd all
  holes_mean (h ∷ hs) (k ∷ ks) all = grind (arith, element_means, holes_mean hs ks all.1)

  border_means : (b : Border (List M)) (c : Border (Vec A)) → MapsBorder (Holds f) b c → map_border (vector_meant f) c ≡ b
  border_means b c h = grind (arith, holes_mean)

  line_means : (l : RenderLine (List M)) (k : RenderLine (Vec A)) → WritesOut f l k → map_line (vector_meant f) (line_seen k) ≡ line_seen l
  line_means (Text es) (Text fs) h = ap (λ (is : List (Item (List M))). text is) h
  line_means (Rule b) (Rule c) h = ap (λ (d : Border (List M)). border d) (border_means b c h)
  line_means (Text es) (Rule c) h = absurd h
  line_means (Rule b) (Text fs) h = absurd h

  pub written_mean : (ls : List (RenderLine (List M))) (ks : List (RenderLine (Vec A))) → AllZip (WritesOut f) ls ks → map (map_line (vector_meant f)) (map line_seen ks) ≡ map line_seen ls
  written_mean [] [] all = refl
  written_mean [] (k ∷ ks) all = absurd all
  written_mean (l ∷ ls) [] all = absurd all
  written_mean (l ∷ ls) (k ∷ ks) all = λ i. line_means l k all.0 i ∷ written_mean ls ks all.1 i

-- ---- borders

module _ {D A : Type 0} (columns : ℕ → Option ℕ) (r s : Renderer D A (List A)) (b : Border (List A)) where
  -- a border joins the lines as text that is filled
  pub border_drawn : (is full : List (Item (List A))) → r.options.pad_block_width ≡ true → is ≡ shown b.tag b →
      full ≡ is ++ line_padding columns r is → s ≡ record r { lines = r.lines ++ text full ∷ [] } → s ≡ with_border columns r b
  border_drawn is full pads same fills pushed =
      filled_added columns r s full is fills pushed ∙ ap (with_filled columns r) same ∙ sym (ap (λ (l : Line (List A)). record r { lines = r.lines ++ l ∷ [] }) (rw pads refl))

-- ---- lines that come as they are: neither padded, nor after markers that wait

module _ {D M : Type 0} (columns : ℕ → Option ℕ) where
  one_as_is : (r : Renderer D M (List M)) → r.options.pad_block_width ≡ false → r.waiting ≡ [] → (is : List (Item (List M))) →
      with_line columns r is ≡ record r { lines = r.lines ++ text is ∷ [] }
  one_as_is r unpadded none is = grind (arith, append-nil)

  all_as_is : (r : Renderer D M (List M)) → r.options.pad_block_width ≡ false → r.waiting ≡ [] → (texts : List (List (Item (List M)))) →
      fold (with_line columns) r texts ≡ record r { lines = r.lines ++ map text texts }
  all_as_is r unpadded none [] = ap (λ ls. record r { lines = ls }) (sym (append-nil r.lines))
  all_as_is r unpadded none (is ∷ texts) = grind (arith, one_as_is, append_assoc, all_as_is (record r { lines = r.lines ++ text is ∷ [] }) unpadded none texts)

  -- lines are added at once
  pub added_at_once : (r s : Renderer D M (List M)) (lines : List (Line (List M))) (texts : List (List (Item (List M)))) → lines ≡ map text texts → r.options.pad_block_width ≡ false → r.waiting ≡ [] →
      s ≡ record r { lines = r.lines ++ lines } → s ≡ fold (with_line columns) r texts
  added_at_once r s lines texts are unpadded none is = is ∙ ap (λ (ls : List (Line (List M))). record r { lines = r.lines ++ ls }) are ∙ sym (all_as_is r unpadded none texts)

-- lines in a block's text are what the block's are
module _ {M : Type 0} (same : M → M → Bool) (tells : (a b : M) → IsTrue (same a b) ↔ (a ≡ b)) (columns : ℕ → Option ℕ) where
  pub texts_told : (b : Block (List M)) → b.padding ≡ None → (texts others : List (List (Item (List M)))) →
      AllZip (SameItems (same_annotations same)) texts others → text_lines texts ≡ map text (map (filled_line columns b) others)
  texts_told b bare [] [] h = refl
  texts_told b bare [] (js ∷ others) h = absurd h
  texts_told b bare (is ∷ texts) [] h = absurd h
  texts_told b bare (is ∷ texts) (js ∷ others) h =
      let one : is ≡ filled_line columns b js = items_told same tells is js h.0 ∙ sym (append-nil js) ∙ ap (λ (o : Option (List M)). js ++ padding_of columns o b.width js) (sym bare) in
      λ i. text (one i) ∷ texts_told b bare texts others h.1 i
