-- Cells, their places, borders and rows by what tags mean.
use Rattle.tbr_rows.proofs.Common.{◌≡◌, ℕ, Bool, Option, None, Some, List, [], ◌∷◌, ◌&&◌, map, ap, sym, ◌∙◌, refl, ◌-◌, true, false, take, drop, length, option_map, replicate, is_some}
use Rattle.tbr_rows.proofs.Common.{is_none, Item, map_items, Border, Hole, has_holes, Side, above, below, MeansEqual, CellAlign, items_of, SameItems, aligned_items, columns_missing}
use Rattle.tbr_rows.proofs.Common.{means_same_items, items_width-map, map-append, length-map, drop-map, AllZip, RenderLine, Text, Line, Cell, Row, RowStyle, Column, row_width, Spot, spot_of}
use Rattle.tbr_rows.proofs.Common.{row_fits, separators, first_line, with_hanging, FillsLine, row_height, with_gap, cells_under, next_under, next_begun, shown_in, left_in, separator_in}
use Rattle.tbr_rows.proofs.Common.{plain_border, next_merged, columns_shown, SeenRow, border_below, row_under, IsLaidOut, map_border, map_cell, map_column, map_line, TellsApart, row_meant}
use Rattle.tbr_rows.proofs.Common.{map_hole, map-map, same_Some, joined, joined_at_each, first_mergeable, last_mergeable, after_mergeable, before_mergeable, merged_with, merged_below}
use Rattle.tbr_rows.proofs.Common.{merged_above, without_first_border, with_last_border_apart, whole_column}
use Rattle.tbr_tags.specs.Tells.{equal_as_told}
use Rattle.std.proofs.lemmas.List.{take-map}
use Rattle.tbr_rows.proofs.Fits.{finds, some_mapped, mapped_from}
use Rattle.tbr_rows.specs.Rows.{border_above, row_of}
use Rattle.tbr_rows.specs.Meant.{EqualIfMeant, MeansFilled}
use Rattle.tbr_rows.proofs.MeantTexts.{text-map, items-map, line_texts-map, row_height-map, cells_left-map, overhang-map, with_gap-map, seen_meant, laid_means}
use Rattle.tbr_model.proofs.lists.Each.{zip-map}
use Rattle.tbr_rows.proofs.Squares.{if_both, map_both, fold_both}
use Rattle.tbr_rows.specs.Borders.{above_row}
use Rattle.tbr_rows.proofs.Seats.{Seats, rest, apart, next, takes, waits, seats}

module _ {A B : Type 0} (f : A → B) where
  separators-map : (cs : List (Cell A)) → separators (map (map_cell f) cs) ≡ separators cs
  separators-map cs = simp (length-map, take-map, map-map)

  row_width-map : (cs : List (Cell A)) → row_width (map (map_cell f) cs) ≡ row_width cs
  row_width-map [] = refl
  row_width-map (c ∷ []) = refl
  row_width-map (c ∷ d ∷ cs) = row_width-map (d ∷ cs)

  -- ---- places

  blank-map : (ls : List (RenderLine A)) → is_none (first_line (map (map_line f) ls)) ≡ is_none (first_line ls)
  blank-map [] = refl
  blank-map (l ∷ ls) = refl

  none_hangs : (at : ℕ) (cs : List (Cell B)) → with_hanging at [] cs ≡ Some cs
  none_hangs at [] = refl
  none_hangs at (c ∷ cs) = refl

  seats-map : {at : ℕ} {hs cs r : List (Cell A)} → Seats A at hs cs r → with_hanging at (map (map_cell f) hs) (map (map_cell f) cs) ≡ Some (map (map_cell f) r)
  seats-map (rest {at = at} {cs = cs}) = none_hangs at (map (map_cell f) cs)
  seats-map (apart e w) = rw (e, same_Some _ _ (seats-map w)) refl
  seats-map (next e w) = rw (e, same_Some _ _ (seats-map w)) refl
  seats-map (takes {c = c} left w) = rw (blank-map c.lines, left, seats-map w) refl
  seats-map (waits {c = c} left ends w) = rw (blank-map c.lines, left, ends, seats-map w) refl

  -- ---- borders

  joined-map : (side : Side) (b : Border A) (xs : List ℕ) → joined_at_each side (map_border f b) xs ≡ map_border f (joined_at_each side b xs)
  joined-map side b [] = refl
  joined-map side b (x ∷ xs) = joined-map side (joined side b x) xs

  above_row-map : (cs : List (Cell A)) (b : Border A) → above_row (map (map_cell f) cs) (map_border f b) ≡ map_border f (above_row cs b)
  above_row-map cs b = rw (separators-map cs, row_width-map cs, joined-map below b (separators cs)) refl

  holes-map : (hs : List (Hole A)) → has_holes (map (map_hole f) hs) ≡ has_holes hs
  holes-map [] = refl
  holes-map (h ∷ hs) = refl

  first-map : (ls : List (RenderLine A)) → first_mergeable (map (map_line f) ls) ≡ option_map (map_border f) (first_mergeable ls)
  first-map [] = refl
  first-map (Text es ∷ ls) = refl
  first-map (Line b ∷ ls) = rw holes-map (if_both (option_map (map_border f)) (has_holes b.holes) None (Some b))

  last-map : (ls : List (RenderLine A)) → last_mergeable (map (map_line f) ls) ≡ option_map (map_border f) (last_mergeable ls)
  last-map ls = rw (length-map, drop-map) (first-map (drop (length ls - 1) ls))

  after-map : (ls : List (RenderLine A)) → after_mergeable (map (map_line f) ls) ≡ map (map_line f) (after_mergeable ls)
  after-map ls = rw (first-map ls, some_mapped, drop-map) (if_both (map (map_line f)) (is_some (first_mergeable ls)) (drop 1 ls) ls)

  before-map : (ls : List (RenderLine A)) → before_mergeable (map (map_line f) ls) ≡ map (map_line f) (before_mergeable ls)
  before-map ls = rw (last-map ls, some_mapped, length-map, take-map) (if_both (map (map_line f)) (is_some (last_mergeable ls)) (take (length ls - 1) ls) ls)

  merged-map : (side : Side) (place : ℕ) (b : Border A) (o : Option (Border A)) → merged_with side place (map_border f b) (option_map (map_border f) o) ≡ map_border f (merged_with side place b o)
  merged-map side place b None = refl
  merged-map side place b (Some o) = refl

  -- ---- the steps of a row

  border_above-map : (collapses : Bool) (cs : List (Cell A)) (top : Option (Border A)) →
      border_above collapses (map (map_cell f) cs) (option_map (map_border f) top) ≡ option_map (map_border f) (border_above collapses cs top)
  border_above-map collapses cs None = refl
  border_above-map true cs (Some b) =
      rw (above_row-map cs b) (ap Some (fold_both (map_cell f) (map_border f) merged_below merged_below
      (λ x c. rw (first-map c.lines) (merged-map below c.place x (first_mergeable c.lines))) (above_row cs b) cs))
  border_above-map false cs (Some b) = rw (above_row-map cs b) refl

  cells_under-map : (collapses : Bool) (top : Option (Border A)) (cs : List (Cell A)) →
      cells_under collapses (option_map (map_border f) top) (map (map_cell f) cs) ≡ map (map_cell f) (cells_under collapses top cs)
  cells_under-map collapses None cs = refl
  cells_under-map true (Some b) cs = map_both (map_cell f) without_first_border without_first_border (map_cell f) (λ c. rw (after-map c.lines) refl) cs
  cells_under-map false (Some b) cs = refl

  next_under-map : (top : Option (Border A)) (cs : List (Cell A)) (b : Border A) →
      next_under (option_map (map_border f) top) (map (map_cell f) cs) (map_border f b) ≡ map_border f (next_under top cs b)
  next_under-map None cs b = refl
  next_under-map (Some d) cs b = rw (separators-map cs) (joined-map above b (separators cs))

  next_merged-map : (collapses : Bool) (cs : List (Cell A)) (b : Border A) →
      next_merged collapses (map (map_cell f) cs) (map_border f b) ≡ map_border f (next_merged collapses cs b)
  next_merged-map true cs b =
      fold_both (map_cell f) (map_border f) merged_above merged_above (λ x c. rw (last-map c.lines) (merged-map above c.place x (last_mergeable c.lines))) b cs
  next_merged-map false cs b = refl

  columns_shown-map : (collapses : Bool) (cs : List (Cell A)) → columns_shown collapses (map (map_cell f) cs) ≡ map (map_column f) (columns_shown collapses cs)
  columns_shown-map true cs =
      map_both (map_cell f) with_last_border_apart with_last_border_apart (map_column f) (λ c. rw (before-map c.lines, last-map c.lines) refl) cs
  columns_shown-map false cs = map_both (map_cell f) whole_column whole_column (map_column f) (λ c. refl) cs

  begun-map : (style : RowStyle) (top : Option (Border A)) (cs : List (Cell A)) (b : Border A) →
      next_begun style (option_map (map_border f) top) (map (map_cell f) cs) (map_border f b) ≡ map_border f (next_begun style top cs b)
  begun-map style top cs b =
      rw (next_under-map top cs b, cells_under-map style.collapses top cs) (next_merged-map style.collapses (cells_under style.collapses top cs) (next_under top cs b))

  shown_in-map : (style : RowStyle) (top : Option (Border A)) (cs : List (Cell A)) →
      shown_in style (option_map (map_border f) top) (map (map_cell f) cs) ≡ map (map_column f) (shown_in style top cs)
  shown_in-map style top cs = rw (cells_under-map style.collapses top cs) (columns_shown-map style.collapses (cells_under style.collapses top cs))

  left_in-map : (style : RowStyle) (top : Option (Border A)) (cs : List (Cell A)) →
      left_in style (option_map (map_border f) top) (map (map_cell f) cs) ≡ map (map_cell f) (left_in style top cs)
  left_in-map style top cs =
      rw (shown_in-map style top cs, row_height-map f (shown_in style top cs)) (cells_left-map f (row_height (shown_in style top cs)) (shown_in style top cs))

  -- ---- the row

  module _ (eq : A → A → Bool) (same : B → B → Bool) (alike : (a b : A) → same (f a) (f b) ≡ eq a b) (columns : ℕ → Option ℕ) (style : RowStyle) (a : A)
      (top : Option (Border A)) where
    below-map : (cs : List (Cell A)) → border_below same columns style (f a) (option_map (map_border f) top) (map (map_cell f) cs) ≡ map_border f (border_below eq columns style a top cs)
    below-map cs =
        let plain : Border A = plain_border (row_width cs) a in
        rw (row_width-map cs, begun-map style top cs plain, left_in-map style top cs)
        (fold_both (map_cell f) (map_border f) (with_gap eq columns style.draws_borders a) (with_gap same columns style.draws_borders (f a))
        (with_gap-map f eq same alike columns style.draws_borders a) (next_begun style top cs plain) (left_in style top cs))

    abbrev here : List (Cell A) → SeenRow A
    here cs = row_under eq columns style a top cs

    abbrev there : List (Cell A) → SeenRow B
    there cs = row_under same columns style (f a) (option_map (map_border f) top) (map (map_cell f) cs)

    under-map : (cs : List (Cell A)) → there cs ≡ seen_meant f (here cs)
    under-map cs =
        let shown : List (Column A) = shown_in style top cs in
        let texts : (there cs).lines ≡ map (map_items f) (here cs).lines =
        rw (shown_in-map style top cs, row_height-map f shown) (line_texts-map f (separator_in style) a shown (row_height shown)) in
        let lower : (there cs).next ≡ option_map (map_border f) (here cs).next =
        rw (below-map cs) (if_both (option_map (map_border f)) style.draws_borders (Some (border_below eq columns style a top cs)) None) in
        let rest : (there cs).overhang ≡ map (map_cell f) (here cs).overhang = rw (left_in-map style top cs) (overhang-map f style.draws_borders (left_in style top cs)) in
        λ i. record { above = border_above-map style.collapses cs top i; lines = texts i; next = lower i; overhang = rest i }

    pub row-map : (hanging own : List (Cell A)) (seen : SeenRow A) → row_of eq columns style a hanging own top ≡ Some seen →
        row_of same columns style (f a) (map (map_cell f) hanging) (map (map_cell f) own) (option_map (map_border f) top) ≡ Some (seen_meant f seen)
    row-map hanging own seen is =
        let (cs, seated, row) = mapped_from (row_under eq columns style a top) (with_hanging 0 hanging own) seen is in
        ap (option_map (row_under same columns style (f a) (option_map (map_border f) top))) (seats-map (seats 0 hanging own cs seated))
        ∙ ap Some (under-map cs ∙ ap (seen_meant f) row)

-- ---- rows

-- a row that is laid out
pub row_means : {A B : Type 0} (f : A → B) (eq : A → A → Bool) (same : B → B → Bool) → MeansEqual f eq → EqualIfMeant f eq → TellsApart same →
    (columns : ℕ → Option ℕ) (style : RowStyle) (a : A) (hanging own : List (Cell A)) (top : Option (Border A)) (row : Row A) (seen : SeenRow A) →
    row_of eq columns style a hanging own top ≡ Some seen → IsLaidOut eq row seen →
    row_of same columns style (f a) (map (map_cell f) hanging) (map (map_cell f) own) (option_map (map_border f) top) ≡ Some (row_meant f row)
row_means f eq same means told tells columns style a hanging own top row seen is laid =
    let alike : (b c : _) → same (f b) (f c) ≡ eq b c = λ b c. sym (equal_as_told same tells (eq b c) (f b) (f c) (means b c, told b c)) in
    row-map f eq same alike columns style a top hanging own seen is ∙ ap Some (sym (laid_means f eq means row seen laid))

module _ {A B : Type 0} (f : A → B) (eq : A → A → Bool) (means : MeansEqual f eq) where
  -- ---- what comes into a row

  pub aligned_means : (align : CellAlign) (missing : ℕ) (a : A) (is js : List (Item A)) →
      SameItems eq js (aligned_items align is missing a) → map_items f js ≡ aligned_items align (map_items f is) missing (f a)
  aligned_means align missing a is js h = rw (means_same_items f eq means js (aligned_items align is missing a) h) (simp (map-append, text-map f))

  pub filled_means : (columns : ℕ → Option ℕ) (align : CellAlign) (width : ℕ) (a : A) (l done : RenderLine A) →
      FillsLine columns eq align width a l done → MeansFilled columns align width (f a) (map_line f l) (map_line f done)
  filled_means columns align width a (Text es) (Text done) h =
      rw (items-map f done, items-map f es, items_width-map f columns (items_of es)) (aligned_means align (columns_missing columns width es) a (items_of es) (items_of done) h.0)
  filled_means columns align width a (Line b) (Line done) h = ap (map_border f) h
  filled_means columns align width a (Text es) (Line done) h = absurd h
  filled_means columns align width a (Line b) (Text done) h = absurd h

  pub lines_mean : (columns : ℕ → Option ℕ) (align : CellAlign) (width : ℕ) (a : A) (ls done : List (RenderLine A)) → AllZip (FillsLine columns eq align width a) ls done →
      AllZip (MeansFilled columns align width (f a)) (map (map_line f) ls) (map (map_line f) done)
  lines_mean columns align width a ls done h =
      zip-map (FillsLine columns eq align width a) _ (map_line f) (map_line f) (filled_means columns align width a) ls done h

module _ {A B : Type 0} (f : A → B) where
  pub spots_mean : (cs : List (Cell A)) → map spot_of (map (map_cell f) cs) ≡ map spot_of cs
  spots_mean [] = refl
  spots_mean (c ∷ cs) = rw (blank-map f c.lines, spots_mean cs) refl

  pub fits_mean : (hs : List (Cell A)) (spots : List Spot) → row_fits (map (map_cell f) hs) spots ≡ row_fits hs spots
  fits_mean [] spots = refl
  fits_mean (h ∷ hs) spots = ap (λ b. finds spots h && b) (fits_mean hs spots)
