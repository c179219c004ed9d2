-- Lines of a block that join those of a renderer.
use Rattle.tbr_renderer.proofs.Common.{◌≡◌, ◌↔◌, IsTrue, ℕ, Bool, Option, None, Some, List, [], ◌∷◌, ◌++◌, map, fold, drop, refl, ap, sym, ◌∙◌, subst, append_assoc, arith, map-append}
use Rattle.tbr_renderer.proofs.Common.{fold-append, run_of, Item, Element, marker_element, items_of, Block, all_lines, left, loose, done, refused, padding_of, left_after, HandsOne}
use Rattle.tbr_renderer.proofs.Common.{flush_leaves, KeepsSettings, settings_of, Open, Renderer, with_line, block_width, may_overflow, block_seen, open_seen, names_of, AreMarkers, IsFresh}
use Rattle.tbr_renderer.proofs.Common.{EndsBest, filled_line, block_lines, lines_at_end, fits_at_end, after_block, same_annotations, items_told}
use Rattle.tbr_wrap.specs.Block.{Settings, WrapsNormally, settings_of as block_settings, flushed, without_loose, after_flush, after_taking}
use Rattle.tbr_wrap.specs.Wrapped.{HasBestLines}
use Rattle.tbr_tagged.specs.declared.Error.TheVariants as E
use Rattle.tbr_wrap.proofs.runs.LinesLeft.{handed_keeps}
use Rattle.tbr_wrap.proofs.runs.BlockLaws.{flush_allowed, taking_leaves, left_taken, left_flushed, waiting_loose}
use Rattle.tbr_renderer.specs.Flush as flush
use Rattle.tbr_renderer.proofs.OpenBlocks.{lines_seen, names_seen, fits_seen, flush_narrow}
use Rattle.tbr_renderer.proofs.OutcomeParts.{fitting, not_fitting}

-- The lines of a block that a renderer has: given ones, and the block has the others left.
pub record HasLines {D A : Type 0} (columns : ℕ → Option ℕ) (first old : Block (List A)) (r q : Renderer D A (List A)) : Type 0 where
  pub unfailed : q.failure ≡ None
  pub live : old.failure ≡ None
  pub same : block_settings old ≡ block_settings first
  pub given : List (List (Item (List A)))
  pub parts : left columns first ≡ given ++ left columns old
  pub added : q ≡ fold (with_line columns) r (map (filled_line columns first) given)
  pub settings : KeepsSettings r q

module _ {D A : Type 0} (same : A → A → Bool) (tells : (a b : A) → IsTrue (same a b) ↔ (a ≡ b)) (columns : ℕ → Option ℕ) where
  pub one_line_more : (first old new : Block (List A)) (r q s : Renderer D A (List A))
      (line : List (Element (List A))) → HasLines columns first old r q → HandsOne columns (same_annotations same) old line new →
      s ≡ with_line columns q (items_of line) → HasLines columns first new r s
  one_line_more first old new r q s line h one added =
      let shown : items_of line ≡ filled_line columns first one.text =
      items_told same tells (items_of line) (one.text ++ padding_of columns old.padding old.width one.text) one.shows.items
      ∙ ap (λ (k : Settings (List A)). one.text ++ padding_of columns k.padding k.width one.text) h.same in
      let last : left columns new ≡ one.rest = ap (left columns) one.leaves ∙ left_after old columns ∙ ap (drop 1) one.left_is in
      record {
        unfailed = ap (λ (m : Renderer D A (List A)). m.failure) added ∙ h.unfailed;
        live = ap (λ (b : Block (List A)). b.failure) one.leaves ∙ (handed_keeps old).0 ∙ h.live;
        same = ap (λ (b : Block (List A)). block_settings b) one.leaves ∙ (handed_keeps old).1 ∙ h.same;
        given = h.given ++ one.text ∷ [];
        settings = ap settings_of added ∙ h.settings;
        parts = h.parts ∙ ap (λ ls. h.given ++ ls) one.left_is ∙ ap (λ ls. h.given ++ one.text ∷ ls) (sym last) ∙ sym (append_assoc h.given (one.text ∷ []) (left columns new));
        added = added ∙ ap (with_line columns q) shown ∙ ap (λ (m : Renderer D A (List A)). with_line columns m (filled_line columns first one.text)) h.added
            ∙ sym (fold-append (with_line columns) r (map (filled_line columns first) h.given) (filled_line columns first one.text ∷ []))
            ∙ ap (fold (with_line columns) r) (sym (map-append (filled_line columns first) h.given (one.text ∷ [])));
      }

-- ---- the end of a run

names_of_markers : (T : Type 0) (names : List (List ℕ)) → names_of (map (λ n. let e : Element T = marker_element n in e) names) ≡ names
names_of_markers T [] = refl
names_of_markers T (name ∷ names) = ap (λ ns. name ∷ ns) (names_of_markers T names)

pub markers_named : {T : Type 0} (es : List (Element T)) (names : List (List ℕ)) → es ≡ map marker_element names → names_of es ≡ names
markers_named {T} es names e = ap names_of e ∙ names_of_markers T names

pub are_markers : {T : Type 0} (es : List (Element T)) (names : List (List ℕ)) → es ≡ map marker_element names → AreMarkers es
are_markers {T} es names e = ap (map (λ n. let x : Element T = marker_element n in x)) (markers_named es names e) ∙ sym e

module _ {D A : Type 0} (columns : ℕ → Option ℕ) (r : Renderer D A (List A)) (b : Block (List A))
    (seen : block_seen (Some b) ≡ r.block) (fresh : IsFresh columns (block_width r) (may_overflow r) b) where
  -- what a block that was flushed, and that handed its markers out, has left
  module _ (after taken_from : Block (List A)) (e : after_flush columns b ≡ done after) (taken : after_taking columns after ≡ done taken_from) where
    after_is : taken_from ≡ without_loose columns (flushed columns b)
    after_is = taking_leaves columns after taken_from taken ∙ ap (without_loose columns) (flush_leaves columns b after e)

    all_left : left columns taken_from ≡ all_lines columns b
    all_left = grind (arith, after_is, left_taken, left_flushed)

    -- a flush where a block is open
    pub block_flushed : (waiting : List (List ℕ)) (s0 s1 s2 : Renderer D A (List A)) → s0 ≡ record r { block = None } →
        s1 ≡ fold (with_line columns) s0 (map (filled_line columns taken_from) (left columns taken_from)) →
        waiting ≡ loose columns after → s2 ≡ record s1 { waiting = s1.waiting ++ waiting } → flush.after_flush columns r ≡ done s2
    block_flushed waiting s0 s1 s2 emptied lines names_are waits =
        let opened : Open (List A) = open_seen b in
        let kept = ap (λ (s : Block (List A)). block_settings s) after_is ∙ ap (λ (s : Block (List A)). block_settings s) fresh.is in
        let here : map (filled_line columns taken_from) (left columns taken_from) ≡ block_lines columns r opened (lines_at_end columns r opened) =
        ap (map (filled_line columns taken_from)) all_left
        ∙ (λ i. map (λ is. is ++ padding_of columns (kept i).padding (kept i).width is) (sym (lines_seen columns r b fresh) i)) in
        let after_lines : s1 ≡ fold (with_line columns) (record r { block = None }) (block_lines columns r opened (lines_at_end columns r opened)) =
        lines ∙ (λ i. fold (with_line columns) (emptied i) (here i)) in
        let names = names_are ∙ waiting_loose columns b after e ∙ sym (names_seen columns r b fresh) in
        subst (λ (o : Option (Open (List A))). after_block columns r o ≡ done s2) seen
        (fitting (fits_at_end columns r opened) _ (fits_seen columns r b fresh ∙ flush_allowed columns b after e)
        ∙ sym (ap (λ m. done m) (waits ∙ (λ i. record (after_lines i) { waiting = (after_lines i).waiting ++ names i }))))

  -- its lines are the best ones, where a block's are
  pub block_best : (WrapsNormally b → HasBestLines columns b.width (run_of b.events) (all_lines columns b)) → EndsBest columns r
  block_best best =
      let of = subst (λ (s : Block (List A)). WrapsNormally s → HasBestLines columns s.width (run_of s.events) (all_lines columns s)) fresh.is best in
      subst (λ (o : Option (Open (List A))). EndsBest columns (record r { block = o })) seen (λ narrow normal. of (refl, narrow, normal))

  -- and where it is refused
  pub block_refused : after_flush columns b ≡ refused E.TooNarrow → flush.after_flush columns r ≡ refused E.TooNarrow
  block_refused e =
      subst (λ (o : Option (Open (List A))). after_block columns r o ≡ refused E.TooNarrow) seen
      (not_fitting (fits_at_end columns r (open_seen b)) _ (fits_seen columns r b fresh ∙ flush_narrow columns b (ap (λ (s : Block (List A)). s.failure) fresh.is) e))
