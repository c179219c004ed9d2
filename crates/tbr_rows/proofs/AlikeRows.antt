-- A row that is laid out is the computed one, up to equal tags.
use Rattle.tbr_rows.proofs.Common.{◌≡◌, ℕ, ◌+◌, max, Bool, true, false, if◌then◌else◌, Option, None, Some, List, [], ◌∷◌, map, fold, refl, ap, ◌∙◌, IsEquivalence, AllZip, Segment, above}
use Rattle.tbr_rows.proofs.Common.{Hole, Border, SameHole, SameBorder, span_end, merged, opened, stretched, shown, RenderLine, Text, Line, Element, piece, marker_element, element_items}
use Rattle.tbr_rows.proofs.Common.{items_of, SameElement, SameElements, all_zip_append, same_texts, same_width, Cell, Row, RowStyle, first_line, separators, row_width, joined}
use Rattle.tbr_rows.proofs.Common.{last_mergeable, merged_with, merged_above, has_gap, with_element, with_elements, gap_of, with_gap, IsGapText, FillsGapIf, FillsGaps, cells_under}
use Rattle.tbr_rows.proofs.Common.{next_under, next_merged, next_begun, left_in, plain_border, border_below, SeenRow, SameIfAny, IsLaidOut, HaveTexts, TellsApart, Item, told_items}
use Rattle.tbr_border.specs.Border.{with_cells, joined_at}
use Rattle.tbr_tagged.specs.Elements.{element_width}
use Rattle.tbr_rows.specs.Rows.{drawn_in, row_seen}
use Rattle.tbr_rows.proofs.Stretches.{longest_once}

module _ {A : Type 0} (eq : A → A → Bool) (laws : IsEquivalence eq) where
  -- ---- as it begins

  recelled : (change : List Segment → List Segment) (b c : Border A) → SameBorder eq b c → SameBorder eq (with_cells (change b.cells) b) (with_cells (change c.cells) c)
  recelled change b c h = record { cells = ap change h.cells; tag = h.tag; holes = h.holes }

  all_alike : {X : Type 0} (step : Border A → X → Border A) → ((b c : Border A) (x : X) → SameBorder eq b c → SameBorder eq (step b x) (step c x)) → (b c : Border A) (xs : List X) →
      SameBorder eq b c → SameBorder eq (fold step b xs) (fold step c xs)
  all_alike step one b c [] h = h
  all_alike step one b c (x ∷ xs) h = all_alike step one (step b x) (step c x) xs (one b c x h)

  merged_alike : (place : ℕ) (o : Option (Border A)) (b c : Border A) → SameBorder eq b c → SameBorder eq (merged_with above place b o) (merged_with above place c o)
  merged_alike place None b c h = h
  merged_alike place (Some o) b c h = recelled (λ cells. merged above cells place o.cells) b c h

  begun_alike : (style : RowStyle) (top : Option (Border A)) (cs : List (Cell A)) (b c : Border A) → SameBorder eq b c → SameBorder eq (next_begun style top cs b) (next_begun style top cs c)
  begun_alike style top cs b c h = go style.collapses (joins top)
    where
      joins : (o : Option (Border A)) → SameBorder eq (next_under o cs b) (next_under o cs c)
      joins None = h
      joins (Some t) = all_alike (joined above) (λ d e x. recelled (joined_at above x) d e) b c (separators cs) h

      go : (x : Bool) → SameBorder eq (next_under top cs b) (next_under top cs c) →
          SameBorder eq (next_merged x (cells_under x top cs) (next_under top cs b)) (next_merged x (cells_under x top cs) (next_under top cs c))
      go true one = all_alike merged_above (λ d e k. merged_alike k.place (last_mergeable k.lines) d e) (next_under top cs b) (next_under top cs c) (cells_under true top cs) one
      go false one = one

  -- ---- with the lines of spanning cells

  ends_alike : (hs ks : List (Hole A)) → AllZip (SameHole eq) hs ks → span_end hs ≡ span_end ks
  ends_alike [] [] h = refl
  ends_alike (x ∷ []) (y ∷ []) h = λ i. h.0.0 i + h.0.1 i
  ends_alike (x ∷ u ∷ hs) (y ∷ v ∷ ks) h = ends_alike (u ∷ hs) (v ∷ ks) h.1
  ends_alike [] (y ∷ ks) h = absurd h
  ends_alike (x ∷ hs) [] h = absurd h
  ends_alike (x ∷ []) (y ∷ v ∷ ks) h = absurd h.1
  ends_alike (x ∷ u ∷ hs) (y ∷ []) h = absurd h.1

  module _ (columns : ℕ → Option ℕ) where
    width_alike : (d e : Element A) → SameElement eq d e → element_width columns d ≡ element_width columns e
    width_alike (piece cs a) (piece ds b) h = ap (λ xs. element_width columns (piece xs a)) h.0 ∙ same_width columns eq _ _ (same_texts eq laws ds a b h.1)
    width_alike (marker_element m) (marker_element n) h = refl
    width_alike (piece cs a) (marker_element n) h = absurd h
    width_alike (marker_element m) (piece ds b) h = absurd h

    put_alike : (place : ℕ) (b c : Border A) (d e : Element A) → SameBorder eq b c → SameElement eq d e → SameBorder eq (with_element columns place b d) (with_element columns place c e)
    put_alike place b c d e h k =
        let from : max place (span_end b.holes) ≡ max place (span_end c.holes) = ap (max place) (ends_alike b.holes c.holes h.holes) in
        let wide = width_alike d e k in
        record {
          cells = λ i. opened (from i) (from i + wide i) (stretched (from i + wide i) (h.cells i));
          tag = h.tag;
          holes = all_zip_append (SameHole eq) b.holes _ c.holes _ h.holes ((from, wide, k), tt);
        }

    all_put : (place : ℕ) (b c : Border A) (ds es : List (Element A)) → SameBorder eq b c → SameElements eq ds es → SameBorder eq (with_elements columns place b ds) (with_elements columns place c es)
    all_put place b c [] [] h k = h
    all_put place b c (d ∷ ds) (e ∷ es) h k = all_put place (with_element columns place b d) (with_element columns place c e) ds es (put_alike place b c d e h k.0) k.1
    all_put place b c [] (e ∷ es) h k = absurd k
    all_put place b c (d ∷ ds) [] h k = absurd k

    gap_alike : (a : A) (width : ℕ) (o : Option (RenderLine A)) (es : List (Element A)) → IsGapText eq a width o es → SameElements eq es (gap_of eq a width o)
    gap_alike a width None es h = h
    gap_alike a width (Some (Text line)) es h = h
    gap_alike a width (Some (Line b)) es h = longest_once eq laws es (shown b.tag b) h.0 h.1

    gap_filled : (gap : Bool) (a : A) (d : Cell A) (b c m : Border A) → SameBorder eq b c → FillsGapIf gap columns eq a d b m →
        SameBorder eq m (with_elements columns d.place c (if gap then gap_of eq a d.width (first_line d.lines) else []))
    gap_filled false a d b c m h k = rw k h
    gap_filled true a d b c m h (es, is, put) = rw put (all_put d.place b c es _ h (gap_alike a d.width (first_line d.lines) es is))

    gaps_filled : (draws : Bool) (a : A) (cs : List (Cell A)) (b c full : Border A) → SameBorder eq b c →
        FillsGaps draws columns eq a cs b full → SameBorder eq full (fold (with_gap eq columns draws a) c cs)
    gaps_filled draws a [] b c full h k = rw k h
    gaps_filled draws a (d ∷ cs) b c full h (m, here, past) = gaps_filled draws a cs m (with_gap eq columns draws a c d) full (gap_filled (has_gap draws d) a d b c m h here) past

    -- if it is drawn
    drawn_alike : (draws : Bool) (b c : Border A) → SameBorder eq b c → SameIfAny eq (if draws then Some b else None) (if draws then Some c else None)
    drawn_alike true b c h = h
    drawn_alike false b c h = tt

    pub below_alike : (style : RowStyle) (a : A) (top : Option (Border A)) (cells : List (Cell A)) (plain full : Border A) → SameBorder eq plain (plain_border (row_width cells) a) →
        FillsGaps style.draws_borders columns eq a (left_in style top cells) (next_begun style top cells plain) full →
        SameIfAny eq (drawn_in style full) (drawn_in style (border_below eq columns style a top cells))
    below_alike style a top cells plain full same fills =
        drawn_alike style.draws_borders full _ (gaps_filled style.draws_borders a (left_in style top cells) (next_begun style top cells plain) _ full (begun_alike style top cells plain _ same) fills)

-- ---- where tags are told apart

module _ {A : Type 0} (same : A → A → Bool) (tells : TellsApart same) where
  told_element : (e d : Element A) → SameElement same e d → e ≡ d
  told_element (piece cs a) (piece ds b) h = let e = (tells a b).0 h.1 in λ i. piece (h.0 i) (e i)
  told_element (marker_element m) (marker_element n) h = ap marker_element h
  told_element (piece cs a) (marker_element n) h = absurd h
  told_element (marker_element m) (piece ds b) h = absurd h

  told_holes : (hs ks : List (Hole A)) → AllZip (SameHole same) hs ks → hs ≡ ks
  told_holes [] [] h = refl
  told_holes (x ∷ hs) (y ∷ ks) h =
      let rest = told_holes hs ks h.1 in
      λ i. record { place = h.0.0 i; width = h.0.1 i; element = told_element x.element y.element h.0.2 i } ∷ rest i
  told_holes [] (y ∷ ks) h = absurd h
  told_holes (x ∷ hs) [] h = absurd h

  told_next : (o p : Option (Border A)) → SameIfAny same o p → o ≡ p
  told_next None None h = refl
  told_next (Some b) (Some c) h = λ i. Some (record { cells = h.cells i; tag = (tells b.tag c.tag).0 h.tag i; holes = told_holes b.holes c.holes h.holes i })
  told_next None (Some c) h = absurd h
  told_next (Some b) None h = absurd h

  told_texts : (lines : List (List (Element A))) (texts : List (List (Item A))) → HaveTexts same lines texts → map items_of lines ≡ texts
  told_texts [] [] h = refl
  told_texts (es ∷ lines) (is ∷ texts) h = let rest = told_texts lines texts h.1 in λ i. told_items same tells (items_of es) is h.0 i ∷ rest i
  told_texts [] (is ∷ texts) h = absurd h
  told_texts (es ∷ lines) [] h = absurd h

  pub laid_is_seen : (row : Row A) (seen : SeenRow A) → IsLaidOut same row seen → row_seen row ≡ seen
  laid_is_seen row seen h =
      λ i. record { above = h.upper i; lines = told_texts row.lines.items seen.lines h.texts i; next = told_next row.next seen.next h.lower i; overhang = h.rest i }
