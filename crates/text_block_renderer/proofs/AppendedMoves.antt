-- Lines of other renderers, and borders, as moves.
use Rattle.text_block_renderer.proofs.Common.{◌≡◌, ℕ, Bool, true, false, if◌then◌else◌, Option, None, List, [], ◌∷◌, ◌++◌, map, flat_map, fold, length, replicate, refl, ap, sym, ◌∙◌, subst, arith}
use Rattle.text_block_renderer.proofs.Common.{append-nil, cond_both, map-append, Entry, Item, without_holes, horizontal, slash, row_borders, Line, Renderer, with_line, with_border, border_of_cells}
use Rattle.text_block_renderer.proofs.Common.{as_text, prefixed, with_divider, with_cell, with_cell_below, with_cells, laid_entry, laid_entries, Part, ruled, flush_adds, divider_adds, cell_adds}
use Rattle.text_block_renderer.proofs.Common.{below_add, cells_add, texts_add, vert_row_adds}
use Rattle.tbr_model.specs.Layout.{joined}
use Rattle.tbr_model.proofs.lists.Joined.{joined-append}
use Rattle.tbr_border.specs.Cell.{Cell}
use Rattle.tbr_renderer.proofs.CallParts.{FlushesThen}
use Rattle.tbr_renderer.proofs.FlushedBlocks.{beside, lines_beside, flush_beside, flushed_none}
use Rattle.text_block_renderer.proofs.Moves.{line, rule, Kind, MayLay, MayRule, Course, onward, one, same_course, flushed_first, stays}

-- ---- borders of rows

-- a border of this cell, where borders are drawn
abbrev one_border : Bool → ℕ → Cell → List (List Cell)
one_border draws width cell = if draws then replicate width cell ∷ [] else []

-- one for each cell of a row, and one for each but the first
abbrev slashes : {X : Type 0} → Bool → ℕ → List X → List (List Cell)
slashes draws width cells = if draws then replicate (length cells) (replicate width slash) else []

abbrev slashes_between : {X : Type 0} → Bool → ℕ → List X → List (List Cell)
slashes_between draws width [] = []
slashes_between draws width (c ∷ cells) = slashes draws width cells

if_both : (draws : Bool) (bs cs : List (List Cell)) → (if draws then bs else []) ++ (if draws then cs else []) ≡ (if draws then bs ++ cs else [])
if_both draws bs cs = grind arith

row_is : {X : Type 0} (draws : Bool) (width : ℕ) (cells : List X) → slashes_between draws width cells ++ one_border draws width horizontal ≡ (if draws then row_borders width (length cells) else [])
row_is draws width cells = grind (arith, if_both)

-- what cells bring under these annotations
abbrev cells_bring : {T : Type 0} → T → List (List (Line T)) → List (Entry T)
cells_bring tag cells = laid_entries (joined (flat_map (map (as_text tag)) cells))

-- ---- paths

module _ {D A : Type 0} (columns : ℕ → Option ℕ) (kind : Kind) where
  lines_put : (ts : List (List (Item (List A)))) (q : Renderer D A (List A)) →
      ((is : List (Item (List A))) → MayLay kind is) → q.block ≡ None →
      Course columns kind q (fold (with_line columns) q ts) (laid_entries (joined ts)) [] (texts_add columns ts q)
  lines_put [] q may none = stays columns kind q q refl
  lines_put (t ∷ ts) q may none =
      let r : Renderer D A (List A) = with_line columns q t in
      same_course columns kind q (fold (with_line columns) r ts) (sym (map-append laid_entry t (joined ts))) refl refl
      (onward columns kind q r (fold (with_line columns) r ts) (laid_entries t) (laid_entries (joined ts)) (one columns kind (line q t) q r (may t, none, refl, refl)) (lines_put ts r may none))

  pub lines_appended : (prefixes : List (List ℕ)) (lines : List (Line (List A))) (r s : Renderer D A (List A)) →
      ((is : List (Item (List A))) → MayLay kind is) →
      FlushesThen columns (λ m. fold (with_line columns) m (prefixed r.annotations prefixes lines)) r s →
      Course columns kind r s (laid_entries (joined (prefixed r.annotations prefixes lines))) [] (flush_adds columns (texts_add columns (prefixed r.annotations prefixes lines)) r)
  lines_appended prefixes lines r s may h =
      let texts = prefixed r.annotations prefixes lines in
      flushed_first columns kind (λ m. fold (with_line columns) m texts) (texts_add columns texts) r s (laid_entries (joined texts)) h (lines_put texts h.0 may (flushed_none columns r h.0 h.1))

  pub border_added : (width : ℕ) (r s : Renderer D A (List A)) → MayRule kind → FlushesThen columns (λ m. with_border columns m (border_of_cells horizontal width r)) r s →
      Course columns kind r s [] (replicate width horizontal ∷ []) (flush_adds columns (λ m. ruled m (replicate width horizontal) ∷ []) r)
  border_added width r s may h =
      let cells = replicate width horizontal in
      let joins = sym (flush_beside columns r h.0 r.block refl h.1) in
      let put = ap (λ (p : Renderer D A (List A)). with_border columns h.0 (without_holes cells p.annotations)) joins in
      flushed_first columns kind (λ m. with_border columns m (border_of_cells horizontal width r)) (λ m. ruled m cells ∷ []) r s [] h
      (one columns kind (rule h.0 cells) h.0 _ (may, flushed_none columns r h.0 h.1, put, refl))

  -- ---- cells below one another

  divider_beside : (cell : Cell) (q : Renderer D A (List A)) → beside (with_divider columns cell q) ≡ beside q
  divider_beside cell q = cond_both q.options.draw_borders (with_border columns q (border_of_cells cell q.width q)) q (λ (p : Renderer D A (List A)). beside p ≡ beside q) (λ e. refl) (λ e. refl)

  below_beside : (lines : List (Line (List A))) (q : Renderer D A (List A)) → beside (with_cell_below columns q lines) ≡ beside q
  below_beside lines q = lines_beside columns (map (as_text (with_divider columns slash q).annotations) lines) (with_divider columns slash q) ∙ divider_beside slash q

  all_beside : (cells : List (List (Line (List A)))) (q : Renderer D A (List A)) → beside (fold (with_cell_below columns) q cells) ≡ beside q
  all_beside [] q = refl
  all_beside (lines ∷ cells) q = all_beside cells (with_cell_below columns q lines) ∙ below_beside lines q

  pub cells_beside : (cells : List (List (Line (List A)))) (q : Renderer D A (List A)) → beside (with_cells columns q cells) ≡ beside q
  cells_beside cells q = grind (arith, all_beside, lines_beside)

  -- a border may be put
  abbrev Ready : Renderer D A (List A) → Type 0
  Ready q = MayRule kind × (q.block ≡ None)

  divided : (cell : Cell) (q : Renderer D A (List A)) → Ready q → Course columns kind q (with_divider columns cell q) [] (one_border q.options.draw_borders q.width cell) (divider_adds cell q)
  divided cell q ready =
      let cells = replicate q.width cell in
      let s = with_border columns q (border_of_cells cell q.width q) in
      elim q.options.draw_borders as (λ (draws : Bool). Course columns kind q (if draws then s else q) [] (if draws then cells ∷ [] else []) (if draws then ruled q cells ∷ [] else [])) [
        | true ↦ one columns kind (rule q cells) q _ (ready.0, ready.1, refl, refl)
        | false ↦ stays columns kind q q refl
      ]

  module _ (may : (is : List (Item (List A))) → MayLay kind is) where
    below_put : (lines : List (Line (List A))) (q : Renderer D A (List A)) → Ready q →
        Course columns kind q (with_cell_below columns q lines)
        (laid_entries (joined (map (as_text q.annotations) lines)))
        (one_border q.options.draw_borders q.width slash)
        (divider_adds slash q ++ cell_adds columns lines (with_divider columns slash q))
    below_put lines q ready =
        let p : Renderer D A (List A) = with_divider columns slash q in
        let same = divider_beside slash q in
        let put = lines_put (map (as_text p.annotations) lines) p may (ap (λ (t : Renderer D A (List A)). t.block) same ∙ ready.1) in
        same_course columns kind q (with_cell columns p lines) refl (append-nil (one_border q.options.draw_borders q.width slash)) refl
        (onward columns kind q p (with_cell columns p lines) [] (laid_entries (joined (map (as_text q.annotations) lines))) (divided slash q ready)
        (subst (λ (t : Renderer D A (List A)). Course columns kind p (with_cell columns p lines) (laid_entries (joined (map (as_text t.annotations) lines))) [] (cell_adds columns lines p)) same put))

    -- the cells below others, under annotations and with borders of a renderer
    abbrev Below : Renderer D A (List A) → List (List (Line (List A))) → Renderer D A (List A) → Type 0
    Below t cells q = Course columns kind q (fold (with_cell_below columns) q cells) (cells_bring t.annotations cells) (slashes t.options.draw_borders t.width cells) (below_add columns cells q)

    -- a cell, and then those below it
    then_below : (lines : List (Line (List A))) (cells : List (List (Line (List A)))) (q n : Renderer D A (List A)) {bs : List (List Cell)} {xs : List (Part D A)} → beside n ≡ beside q →
        Course columns kind q n (laid_entries (joined (map (as_text q.annotations) lines))) bs xs → Below n cells n →
        Course columns kind q (fold (with_cell_below columns) n cells) (cells_bring q.annotations (lines ∷ cells))
        (bs ++ slashes q.options.draw_borders q.width cells) (xs ++ below_add columns cells n)
    then_below lines cells q n {bs} {xs} same first others =
        let s : Renderer D A (List A) = fold (with_cell_below columns) n cells in
        let texts = map (as_text q.annotations) lines in
        let rest = flat_map (map (as_text q.annotations)) cells in
        same_course columns kind q s (sym (ap laid_entries (joined-append texts rest) ∙ map-append laid_entry (joined texts) (joined rest))) refl refl
        (onward columns kind q n s (laid_entries (joined texts)) (laid_entries (joined rest)) first (subst (λ (t : Renderer D A (List A)). Below t cells n) same others))

    cells_below : (cells : List (List (Line (List A)))) (q : Renderer D A (List A)) → Ready q → Below q cells q
    cells_below [] q ready = grind (arith, stays)
    cells_below (lines ∷ cells) q ready =
        let n : Renderer D A (List A) = with_cell_below columns q lines in
        let same = below_beside lines q in
        same_course columns kind q (fold (with_cell_below columns) n cells) refl
        (if_both q.options.draw_borders (replicate q.width slash ∷ [])
        (replicate (length cells) (replicate q.width slash))) refl
        (then_below lines cells q n same (below_put lines q ready) (cells_below cells n (subst Ready (sym same) ready)))

    cells_put : (cells : List (List (Line (List A)))) (r q : Renderer D A (List A)) → beside q ≡ record (beside r) { block = None } → Ready q →
        Course columns kind q (with_cells columns q cells) (cells_bring r.annotations cells) (slashes_between r.options.draw_borders r.width cells) (cells_add columns cells q)
    cells_put [] r q joins ready = stays columns kind q q refl
    cells_put (lines ∷ cells) r q joins ready =
        let texts = map (as_text q.annotations) lines in
        let n : Renderer D A (List A) = with_cell columns q lines in
        let same = lines_beside columns texts q in
        subst
        (λ (t : Renderer D A (List A)). Course columns kind q (fold (with_cell_below columns) n cells)
        (cells_bring t.annotations (lines ∷ cells)) (slashes t.options.draw_borders t.width cells)
        (cells_add columns (lines ∷ cells) q)) joins
        (then_below lines cells q n same (lines_put texts q may ready.1) (cells_below cells n (subst Ready (sym same) ready)))

  pub cells_appended : ((is : List (Item (List A))) → MayLay kind is) →
      (cells : List (List (Line (List A)))) (r s : Renderer D A (List A)) → MayRule kind →
      FlushesThen columns (λ m. with_divider columns horizontal (with_cells columns m cells)) r s →
      Course columns kind r s (cells_bring r.annotations cells) (if r.options.draw_borders then row_borders r.width (length cells) else []) (flush_adds columns (vert_row_adds columns cells) r)
  cells_appended may cells r s may_rule h =
      let es = cells_bring r.annotations cells in
      let p : Renderer D A (List A) = with_cells columns h.0 cells in
      let joins = flush_beside columns r h.0 r.block refl h.1 in
      let same = cells_beside cells h.0 ∙ joins in
      let last = subst (λ (t : Renderer D A (List A)). Course columns kind p (with_divider columns horizontal p) []
      (one_border t.options.draw_borders t.width horizontal) (divider_adds horizontal p)) same
      (divided horizontal p (subst Ready (sym same) (may_rule, refl))) in
      let put = onward columns kind h.0 p (with_divider columns horizontal p) es [] (cells_put may cells r h.0 joins (subst Ready (sym joins) (may_rule, refl))) last in
      flushed_first columns kind (λ m. with_divider columns horizontal (with_cells columns m cells)) (vert_row_adds columns cells) r s es h
      (same_course columns kind h.0 (with_divider columns horizontal p) (append-nil es) (row_is r.options.draw_borders r.width cells) refl put)
