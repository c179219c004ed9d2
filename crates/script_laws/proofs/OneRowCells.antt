-- Nothing overhangs where cells span one row.
use Rattle.script_laws.proofs.Common.{◌≡◌, ◌+◌, ◌-◌, ◌⊎◌, inl, inr, ℕ, Bool, if◌then◌else◌, Option, List, [], ◌∷◌, drop, map, refl, ap, sym, ◌∙◌, subst, nat_lt, cond_both, AllZip, Each, done}
use Rattle.script_laws.proofs.Common.{Decoration, after_flush, Line, Renderer, Call, after, NothingOverhangs, GivenCell, Act, call, row_of_cells, after_act, Opening, Opened, Progress, Level}
use Rattle.script_laws.proofs.Common.{started, EndsWhole, IsOfOneRow, OverhangsNowhere, LineAsksForOneRow, KeepsAll, LinesDo}
use Rattle.tbr_model.proofs.lists.Each.{each_append, each_map, each_unmap}
use Rattle.tbr_tagged.proofs.Outcomes.{live_done}
use Rattle.tbr_rows.specs.declared.LineSet.{LineSet as Cell}
use Rattle.tbr_rows.specs.Texts.{row_height, dropped}
use Rattle.tbr_rows.specs.Gaps.{cell_in, overhang_of, overhang}
use Rattle.tbr_rows.specs.Rows.{cells_under, columns_shown, cells_left}
use Rattle.tbr_rows.proofs.ColumnsOfRows.{column_of, columns_are, span_stays, lines_stay}
use Rattle.tbr_rows.proofs.Among.{each_gives, each_drop}
use Rattle.tbr_rows.proofs.CellsSeated.{each_seated}
use Rattle.tbr_renderer.proofs.PutRows.{flush_hangs}
use Rattle.text_block_renderer.specs.LastBorder.{last_border}
use Rattle.text_block_renderer.proofs.Moves.{any, path_hanging}
use Rattle.tbr_renderer.specs.Rows.{own_cells}
use Rattle.tbr_renderer.proofs.RowsOfCells.{row_beside, each_own}
use Rattle.text_block_renderer.proofs.CallMoves.{calls_move}
use Rattle.text_block_renderer.proofs.ActParts.{alone}
use Rattle.text_block_renderer.specs.Acts.{row_shown}
use Rattle.text_block_renderer.proofs.ActSteps.{row_to_put, act_step}
use Rattle.tbr_runner.proofs.ScriptLevels.{any_ready, first_led, Fits, fits_walk}
use Rattle.tbr_runner.proofs.Walks.{At, GivesCell, TakesCells, line_makes}

-- ---- a row of such cells

no_lines : {X : Type 0} (ls : List X) → Each (λ l. ⊥) ls → ls ≡ []
no_lines [] h = refl
no_lines (l ∷ ls) h = absurd h.0

module _ {X Y : Type 0} (P : X → Type 0) (R : X → Y → Type 0) (Q : Y → Type 0) (gives : (x : X) (y : Y) → R x y → P x → Q y) where
  pub zip_gives : (xs : List X) (ys : List Y) → AllZip R xs ys → Each P xs → Each Q ys
  zip_gives [] [] zip h = tt
  zip_gives [] (y ∷ ys) zip h = absurd zip
  zip_gives (x ∷ xs) [] zip h = absurd zip
  zip_gives (x ∷ xs) (y ∷ ys) zip h = (gives x y zip.0 h.0, zip_gives xs ys zip.1 h.1)

each_both : {X : Type 0} (P Q : X → Type 0) (xs : List X) → Each P xs → Each Q xs → Each (λ x. P x × Q x) xs
each_both P Q [] h k = tt
each_both P Q (x ∷ xs) h k = ((h.0, k.0), each_both P Q xs h.1 k.1)

module _ {T : Type 0} where
  abbrev HasNone : Cell T → Type 0
  HasNone c = c.lines ≡ []

  -- nothing of it overhangs after a row
  abbrev LeavesNone : Cell T → Type 0
  LeavesNone c = (c.span ≡ 1) ⊎ HasNone c

  module _ (draws : Bool) (height : ℕ) (collapses : Bool) (above : List (Line T)) where
    abbrev left : Cell T → Cell T
    left c = cell_in (dropped height (column_of collapses (last_border above) c))

    none_of : (c : Cell T) → LeavesNone c → Each HasNone (overhang_of draws (left c))
    none_of c (inl one) =
        subst
        (λ n. Each HasNone
        (if nat_lt 1 n then record (left c) { span = (left c).span - 1; lines = drop (if draws then 1 else 0) (left c).lines } ∷ [] else []))
        (sym (span_stays collapses (last_border above) height c ∙ one)) tt
    none_of c (inr none) =
        let lines = lines_stay (λ l. ⊥) collapses (last_border above) c (subst (Each (λ l. ⊥)) (sym none) tt) in
        cond_both (nat_lt 1 (left c).span) _ [] (Each HasNone) (λ more. (no_lines _ (each_drop (λ l. ⊥) (if draws then 1 else 0) (left c).lines (each_drop (λ l. ⊥) height _ lines)), tt)) (λ last. tt)

    none_overhang : (cs : List (Cell T)) → Each LeavesNone cs → Each HasNone (overhang draws (cells_left height (columns_shown collapses (cells_under collapses (last_border above) cs))))
    none_overhang cs none = subst (λ columns. Each HasNone (overhang draws (cells_left height columns))) (sym (columns_are collapses (last_border above) cs)) (go cs none)
      where
        go : (cs : List (Cell T)) → Each LeavesNone cs → Each HasNone (overhang draws (cells_left height (map (column_of collapses (last_border above)) cs)))
        go [] none = tt
        go (c ∷ cs) none = each_append HasNone (overhang_of draws (left c)) (overhang draws (cells_left height (map (column_of collapses (last_border above)) cs))) (none_of c none.0) (go cs none.1)

module _ {D M : Type 0} (columns : ℕ → Option ℕ) (decoration : Decoration D M) where
  abbrev Top : Type 0
  Top = Renderer D M (List M)

  abbrev IsOne : GivenCell (List M) → Type 0
  IsOne c = c.span ≡ 1

  -- ---- what calls and rows leave

  call_none : (c : Call (List M)) (r s : Top) → after columns decoration c r ≡ done s → NothingOverhangs r → NothingOverhangs s
  call_none c r s does none =
      subst (Each HasNone) (sym (path_hanging columns any r s _ _ (calls_move columns any decoration (c ∷ []) r s _ tt (alone columns decoration c r s does)))) none

  row_none : (collapse : Bool) (cells : List (GivenCell (List M))) → Each IsOne cells → (r s : Top) →
      after_act columns decoration (row_of_cells collapse cells) r ≡ done s → NothingOverhangs r → NothingOverhangs s
  row_none collapse cells one r s does none =
      let (m, flushed, seated, are, is, brings) = act_step columns decoration (row_of_cells collapse cells) r s does in
      let p = row_to_put columns decoration collapse cells m seated are in
      let before = each_gives HasNone LeavesNone (λ c e. inr e) m.hanging (subst (Each HasNone) (sym (flush_hangs columns r m (live_done r.failure (after_flush columns r) m flushed).1)) none) in
      let own = each_own p.same columns m.annotations IsOne LeavesNone (λ g at span. inl span) 0 cells one in
      let seats = each_seated LeavesNone (λ place width. inl refl) 0 m.hanging (own_cells p.same columns cells m) seated before own are in
      let height = row_height (columns_shown collapse (cells_under collapse (last_border m.lines) seated)) in
      subst (Each HasNone) (sym (ap (λ (q : Top). q.hanging) is ∙ ap (λ (q : Top). q.hanging) (row_beside columns m (row_shown p))))
      (none_overhang m.options.draw_borders height collapse m.lines seated seats)

  -- ---- lines

  -- a cell that waits: nothing overhangs in it, and it spans one row
  abbrev Waits : Top × ℕ → Type 0
  Waits c = NothingOverhangs c.0 × (c.1 ≡ 1)

  abbrev Stays : Progress D M (List M) → Type 0
  Stays p = At columns decoration (Fits columns decoration NothingOverhangs IsOfOneRow Waits) p

  takes_none : (act : Act M) (r s : Top) (cells : List (Top × ℕ)) → TakesCells columns decoration cells act → Each Waits cells →
      after_act columns decoration act r ≡ done s → NothingOverhangs r → NothingOverhangs s
  takes_none (call c) r s cells into wait does none = call_none c r s does none
  takes_none (row_of_cells collapse given) r s cells into wait does none =
      row_none collapse given (zip_gives Waits (GivesCell columns decoration) IsOne (λ c g gives waits. gives.0 ∙ waits.1) cells given into wait) r s does none
  takes_none other r s cells into wait does none = absurd into

  lines_keep : (number : ℕ) (lines : List (List ℕ)) (p q : Progress D M (List M)) → Stays p → Each LineAsksForOneRow lines → LinesDo columns decoration p number lines q → Stays q
  lines_keep number [] p q h one same = subst Stays (sym same) h
  lines_keep number (line ∷ lines) p q h one (next, does, lead) =
      let walk = fits_walk columns decoration (Unit {0}) (λ by width. IsOfOneRow by) (λ r. Unit {0}) NothingOverhangs
      IsOfOneRow Waits (λ r is. any_ready columns decoration r) (λ c is. any_ready columns decoration c.0) call_none takes_none
      (λ by width r one none. (tt, one)) (λ span align r ends none one. (none, one)) in
      lines_keep (number + 1) lines next q
      (line_makes columns decoration (λ by width. IsOfOneRow by) (λ command r. Unit {0}) _ _ walk p next number line
      (λ command is. (one.0 command is, λ ends r top. tt)) h does) one.1 lead

  pub lines_none : (p there : Progress D M (List M)) (number : ℕ) (front back : List (List ℕ)) → KeepsAll columns decoration p → OverhangsNowhere p →
      Each LineAsksForOneRow front → LinesDo columns decoration p number front there → OverhangsNowhere there × EndsWhole back there
  lines_none p there number front back keeps none one lead =
      let all = none.renderers in
      let below = each_gives _ _
      (λ (o : Opened D M (List M)) both. each_both (λ c. NothingOverhangs c.0) (λ c. c.1 ≡ 1)
      (let w = o.below in w.cells) both.0 both.1) p.opened (each_both _ _ p.opened all.below none.below) in
      let here : Stays p =
      record {
        on_stack = each_map (λ l. l.renderer) _ NothingOverhangs (λ l is. is) p.stack.levels all.on_stack;
        waiting = each_both _ _ p.pending.cells all.waiting none.waiting;
        opened = none.opened;
        below = below;
      } in
      let after = lines_keep number front p there here one lead in
      let on_stack = each_unmap (λ (l : Level Top). l.renderer) (λ l. NothingOverhangs l.renderer) NothingOverhangs (λ l is. is) there.stack.levels after.on_stack in (
        record {
          renderers =
              record {
                on_stack = on_stack;
                waiting =
                    each_gives Waits _ (λ c is. is.0) there.pending.cells after.waiting;
                below =
                    each_gives _ _ (λ (o : Opened D M (List M)) wait. each_gives Waits _ (λ c is. is.0)
                    (let w = o.below in w.cells) wait) there.opened after.below;
              };
          waiting = each_gives Waits _ (λ c is. is.1) there.pending.cells after.waiting;
          opened = after.opened;
          below = each_gives _ _ (λ (o : Opened D M (List M)) wait. each_gives Waits _ (λ c is. is.1) (let w = o.below in w.cells) wait) there.opened after.below;
        },
        λ ends r top. first_led columns decoration NothingOverhangs there.stack.levels r top on_stack,
      )

pub started_none : {D M : Type 0} (opening : Opening) (decorator : D) → OverhangsNowhere {T = List M} (started opening decorator)
started_none opening decorator = record { renderers = record { on_stack = (tt, tt); waiting = tt; below = tt }; waiting = tt; opened = tt; below = tt }
