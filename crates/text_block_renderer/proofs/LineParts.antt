-- All lines that come are parts: stretches of runs, laid texts, and borders.
use Rattle.text_block_renderer.proofs.Common.{◌≡◌, ℕ, Option, Some, None, List, [], ◌∷◌, ◌++◌, flat_map, refl, ap, sym, ◌∙◌, subst, append_assoc, append-nil, arith, flat_map-append, run_of, Entry}
use Rattle.text_block_renderer.proofs.Common.{without_holes, Decoration, Open, Renderer, with_line, open_run, IsSound, lines_at_end, with_border, Call, laid_entries, Brings, Steps}
use Rattle.text_block_renderer.proofs.Common.{brought as all_brought, borders_added, Part, ended, laid, ruled, run_of_block, flush_ends, calls_add, stretch, entries_of_part, borders_of_part}
use Rattle.text_block_renderer.proofs.Common.{lines_of_part, IsPart, ComesInParts, AppendsNothing, IsOwnPart, ⊤, Each}
use Rattle.tbr_model.proofs.lists.Each.{each_append}
use Rattle.tbr_border.specs.Cell.{Cell}
use Rattle.tbr_renderer.proofs.FlushedBlocks.{FlushesBlock}
use Rattle.text_block_renderer.proofs.Moves as moves
use Rattle.tbr_renderer.proofs.FlushedBlocks.{flush_beside}
use Rattle.text_block_renderer.proofs.Moves.{Move, flush, line, rule, join, turn, brought_by, brought, ruled_by, added_by, Kind, any, own, MayLay, MayRule, Makes, MakesAll, Course, Frame, frame}
use Rattle.text_block_renderer.proofs.Moves.{move_frame, sound_moved}
use Rattle.text_block_renderer.proofs.CallMoves.{calls_move}
use Rattle.tbr_renderer.proofs.JoinedTexts.{run_joined}
use Rattle.tbr_rows.proofs.Among.{each_gives}
use Rattle.text_block_renderer.proofs.RunStretches.{flush_adds}

-- parts of moves of a kind
abbrev IsOfKind : {D A : Type 0} → Kind → Part D A → Type 0
IsOfKind kind (ended r b) = ⊤
IsOfKind kind (laid r is) = MayLay kind is
IsOfKind kind (ruled r cells) = MayRule kind

own_is : {D A : Type 0} (part : Part D A) → IsOfKind own part → IsOwnPart part
own_is part h = grind arith

module _ {D A : Type 0} (columns : ℕ → Option ℕ) where
  pub part_of_other : (r q : Renderer D A (List A)) → q.width ≡ r.width → q.options ≡ r.options → (p : Part D A) → IsPart columns q p → IsPart columns r p
  part_of_other r q width options p h = grind arith

module _ {D A : Type 0} (columns : ℕ → Option ℕ) (kind : Kind) where
  -- What came in these parts, and the borders that they are.
  pub record CameInParts (r s : Renderer D A (List A)) (es : List (Entry (List A))) (bs : List (List Cell)) (xs : List (Part D A)) : Type 0 where
    pub came : ComesInParts columns xs r es s
    pub kinds : Each (IsOfKind kind) xs
    pub borders : flat_map borders_of_part xs ≡ bs

  -- and then others, to a renderer of which width and options are the same
  parts_on : (r q s : Renderer D A (List A)) (es fs : List (Entry (List A))) (bs cs : List (List Cell))
      (xs ys : List (Part D A)) → frame q ≡ frame r → CameInParts r q es bs xs → CameInParts q s fs cs ys →
      CameInParts r s (es ++ fs) (bs ++ cs) (xs ++ ys)
  parts_on r q s es fs bs cs xs ys same h k =
      let others = each_gives (IsPart columns q) (IsPart columns r) (part_of_other columns r q (ap (λ (f : Frame A). f.width) same) (ap (λ (f : Frame A). f.options) same)) ys k.came.are in record {
        came = record {
          are = each_append (IsPart columns r) xs ys h.came.are others;
          lines = simp (k.came.lines, h.came.lines, flat_map-append (lines_of_part {D = D} {A = A} columns), append_assoc);
          entries = grind (arith, append_assoc, flat_map-append);
        };
        kinds = each_append (IsOfKind kind) xs ys h.kinds k.kinds;
        borders = flat_map-append borders_of_part xs ys ∙ ap (λ ds. ds ++ flat_map borders_of_part ys) h.borders ∙ ap (λ ds. bs ++ ds) k.borders;
      }

  -- these parts
  these : (r s : Renderer D A (List A)) (es : List (Entry (List A))) (ps : List (Part D A)) →
      Each (IsPart columns r) ps → Each (IsOfKind kind) ps → s.lines ≡ r.lines ++ flat_map (lines_of_part columns) ps →
      open_run r.block ++ es ≡ flat_map entries_of_part ps ++ open_run s.block → CameInParts r s es (flat_map borders_of_part ps) ps
  these r s es ps are kinds lines entries = record { came = record { are = are; lines = lines; entries = entries }; kinds = kinds; borders = refl }

  no_part : (r s : Renderer D A (List A)) (es : List (Entry (List A))) → s.lines ≡ r.lines → open_run s.block ≡ open_run r.block ++ es → CameInParts r s es [] []
  no_part r s es lines run = these r s es [] tt tt (lines ∙ sym (append-nil r.lines)) (sym run)

  same_parts : (r s : Renderer D A (List A)) → s ≡ r → CameInParts r s [] [] []
  same_parts r s h = subst (λ (q : Renderer D A (List A)). CameInParts r q [] [] []) (sym h) (no_part r r [] refl (sym (append-nil (open_run r.block))))

  flush_parts : (r s : Renderer D A (List A)) (o : Option (Open (List A))) → o ≡ r.block → FlushesBlock columns r o s → IsSound columns r → CameInParts r s [] [] (run_of_block r o)
  flush_parts r s None e h sound = same_parts r s h
  flush_parts r s (Some b) e h sound =
      let none = ap (λ (q : Renderer D A (List A)). open_run q.block) (flush_beside columns r s (Some b) e h) in
      these r s [] (ended r b ∷ []) (record { width = refl; options = refl; block = sym e; ends = h.ends sound }, tt) (tt, tt)
      (flush_adds columns r s b h ∙ ap (λ ls. r.lines ++ ls) (sym (append-nil (stretch columns r b (lines_at_end columns r b)))))
      (append-nil (open_run r.block) ∙ ap open_run (sym e) ∙ sym (append-nil (run_of b.events)) ∙ sym (append-nil (run_of b.events ++ [])) ∙ ap (λ fs. (run_of b.events ++ []) ++ fs) (sym none))

  -- where no block is open, the open run is none
  none_open : (q : Renderer D A (List A)) (es : List (Entry (List A))) → q.block ≡ None → open_run q.block ++ es ≡ (es ++ []) ++ open_run q.block
  none_open q es none = ap (λ o. open_run o ++ es) none ∙ sym (append-nil es) ∙ sym (append-nil (es ++ [])) ∙ ap (λ o. (es ++ []) ++ open_run o) (sym none)

  move_parts : (m : Move D A) (r s : Renderer D A (List A)) → Makes columns kind m r s → IsSound columns r → CameInParts r s (brought_by m) (ruled_by m) (added_by m)
  move_parts (flush q) r s h sound = subst (λ (p : Renderer D A (List A)). CameInParts r s [] [] (flush_ends p)) (sym h.0) (flush_parts r s r.block refl h.1 sound)
  move_parts (line p is) r s h sound =
      subst (λ (t : Renderer D A (List A)). CameInParts r s (laid_entries is) [] (laid t is ∷ [])) (sym h.3)
      (subst (λ (q : Renderer D A (List A)). CameInParts r q (laid_entries is) [] (laid r is ∷ [])) (sym h.2)
      (these r (with_line columns r is) (laid_entries is) (laid r is ∷ []) (record { width = refl; options = refl; block = h.1 }, tt) (h.0, tt) refl (none_open r (laid_entries is) h.1)))
  move_parts (rule p cells) r s h sound =
      subst (λ (t : Renderer D A (List A)). CameInParts r s [] (cells ∷ []) (ruled t cells ∷ [])) (sym h.3)
      (subst (λ (q : Renderer D A (List A)). CameInParts r q [] (cells ∷ []) (ruled r cells ∷ [])) (sym h.2)
      (these r (with_border columns r (without_holes cells r.annotations)) [] (ruled r cells ∷ []) (record { width = refl; options = refl; block = h.1 }, tt) (h.0, tt) refl (none_open r [] h.1)))
  move_parts (join more) r s h sound = no_part r s (run_of more) (ap (λ (q : Renderer D A (List A)). q.lines) h) (ap (λ (q : Renderer D A (List A)). open_run q.block) h ∙ run_joined r more)
  move_parts turn r s h sound = no_part r s [] h.lines (ap open_run h.block ∙ sym (append-nil (open_run r.block)))

  moves_parts : (ms : List (Move D A)) (r s : Renderer D A (List A)) → MakesAll columns kind ms r s → IsSound columns r → CameInParts r s (brought ms) (moves.borders ms) (moves.added ms)
  moves_parts [] r s h sound = same_parts r s h
  moves_parts (m ∷ ms) r s h sound =
      parts_on r h.0 s (brought_by m) (brought ms) (ruled_by m) (moves.borders ms) (added_by m) (moves.added ms) (move_frame columns kind m r h.0 h.1)
      (move_parts m r h.0 h.1 sound) (moves_parts ms h.0 s h.2 (sound_moved columns kind m r h.0 h.1 sound))

  pub course_parts : (r s : Renderer D A (List A)) (es : List (Entry (List A))) (bs : List (List Cell))
      {xs : List (Part D A)} → Course columns kind r s es bs xs → IsSound columns r → CameInParts r s es bs xs
  course_parts r s es bs {xs} path sound =
      subst (λ zs. CameInParts r s es bs zs) path.adds
      (subst (λ ds. CameInParts r s es ds (moves.added path.moves)) path.rules
      (subst (λ fs. CameInParts r s fs (moves.borders path.moves) (moves.added path.moves)) path.brings (moves_parts path.moves r s path.makes sound)))

module _ {D A : Type 0} (columns : ℕ → Option ℕ) (decoration : Decoration D A) where
  pub brings_parts : (calls : List (Call (List A))) (r s : Renderer D A (List A)) (es : List (Entry (List A))) →
      IsSound columns r → Brings columns decoration calls r es s → (let parts = calls_add columns decoration calls r in
      ComesInParts columns parts r es s × (flat_map borders_of_part parts ≡ flat_map (borders_added r.width r.options) calls))
  brings_parts calls r s es sound h = let came = course_parts columns any r s es _ (calls_move columns any decoration calls r s es tt h) sound in (came.came, came.borders)

  pub adds_own_parts : (calls : List (Call (List A))) (r s : Renderer D A (List A)) → IsSound columns r →
      Each AppendsNothing calls → Steps columns decoration calls r s →
      Each IsOwnPart (calls_add columns decoration calls r)
  adds_own_parts calls r s sound own_calls h =
      let es = all_brought columns decoration calls r in
      let came = course_parts columns own r s es _ (calls_move columns own decoration calls r s es own_calls (h, refl)) sound in
      each_gives (IsOfKind own) IsOwnPart own_is (calls_add columns decoration calls r) came.kinds
