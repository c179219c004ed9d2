-- Markers that are walked over, and lines that are taken one by one.
use Rattle.callers.proofs.Common.{◌≡◌, ℕ, ◌<◌, Bool, true, Option, drop, subst, List, [], ◌∷◌, ◌++◌, map, length, refl, ap, sym, ◌∙◌, arith, AllZip, map-append, Item, marker_entry, entry, Element}
use Rattle.callers.proofs.Common.{marker_element, Block, all_lines, left, grown, after_flush, done, live_goes, ShowsText, HandsOne, flush_leaves, element_of}
use Rattle.std.proofs.Common.{zero, suc, ◌||◌, get_or, append_assoc, append-nil}
use Rattle.tbr_model.specs.Fits.{lines_fit}
use Rattle.tbr_model.specs.Rule.{Event, progress, finished}
use Rattle.tbr_model.proofs.rule.DoneLines.{finished_adds}
use Rattle.tbr_wrap.specs.Block.{Settings, settings_of, progress_of, lines, allows, after_marker, flushed, line_handed_out, lines_handed_out}
use Rattle.tbr_tagged.proofs.Outcomes.{live_done}
use Rattle.tbr_wrap.proofs.runs.Blocks.{if_allowed}
use Rattle.tbr_wrap.proofs.runs.BlockLaws.{flush_allowed}
use Rattle.tbr_wrap.proofs.runs.LinesLeft.{many_keep, handed_one_more}
use Rattle.tbr_tagged.proofs.SameItems.{all_zip_append}
use Rattle.tbr_tagged.specs.declared.TaggedLineElement.{TaggedLineElement}

-- what is at a place is a marker
pub marker_at : {T : Type 0} (all : List (TaggedLineElement T)) (names : List (List ℕ)) (k : ℕ)
    (x : TaggedLineElement T) → map element_of all ≡ map marker_element names → k < length all →
    x ≡ get_or all k x → (name : List ℕ) × (element_of x ≡ marker_element name)
marker_at [] names k x e below is = absurd (let none : ⊥ = omega (arith, below) in none)
marker_at (y ∷ all) [] k x e below is = cc
marker_at (y ∷ all) (name ∷ names) zero x e below is = (name, (let first : element_of y ≡ marker_element name = cc in ap element_of is ∙ first))
marker_at (y ∷ all) (name ∷ names) (suc k) x e below is =
    let less : k < length all = omega (arith, below) in
    let rest : map element_of all ≡ map marker_element names = cc in
    marker_at all names k x rest less is

-- markers have their names
pub same_names : (T : Type 0) (ms ns : List (List ℕ)) → (let es : List (Element T) = map marker_element ms in es) ≡ map marker_element ns → ms ≡ ns
same_names T [] [] e = refl
same_names T [] (n ∷ ns) e = cc
same_names T (m ∷ ms) [] e = cc
same_names T (m ∷ ms) (n ∷ ns) e = let rest = same_names T ms ns cc in let first : m ≡ n = cc in cc

-- a run with markers, and one more
pub no_marker_yet : {T : Type 0} (s : Block T) → s ≡ grown s []
no_marker_yet {T} s = ap (λ (es : List (Event T)). record s { events = es }) (sym (append-nil s.events))

pub one_marker_more : {T : Type 0} (first old new : Block T) (names : List (List ℕ)) (name : List ℕ) →
    old ≡ grown first (map (λ n. entry (marker_entry n)) names) → after_marker name old ≡ done new →
    new ≡ grown first (map (λ n. entry (marker_entry n)) (names ++ name ∷ []))
one_marker_more {T} first old new names name is after =
    let joined : grown old (entry (marker_entry name) ∷ []) ≡ new = let e = (live_done old.failure _ new after).1 in cc in
    sym joined ∙ ap (λ (s : Block T). grown s (entry (marker_entry name) ∷ [])) is
    ∙ ap (λ (es : List (Event T)). record first { events = es })
    (append_assoc first.events (map (λ n. entry (marker_entry n)) names) (entry (marker_entry name) ∷ [])
    ∙ ap (λ (es : List (Event T)). first.events ++ es) (sym (map-append (λ n. let e : Event T = entry (marker_entry n) in e) names (name ∷ []))))

-- ---- lines that are taken one by one

more_dropped : {X : Type 0} (n : ℕ) (xs ys : List X) (x : X) (rest : List X) → drop n xs ≡ x ∷ rest → drop n (xs ++ ys) ≡ x ∷ drop (suc n) (xs ++ ys)
more_dropped zero [] ys x rest e = cc
more_dropped zero (z ∷ xs) ys x rest e = let first : z ≡ x = cc in ap (λ w. w ∷ xs ++ ys) first
more_dropped (suc n) [] ys x rest e = cc
more_dropped (suc n) (z ∷ xs) ys x rest e = more_dropped n xs ys x rest e

-- Lines were taken from a block, which show the first of those that a flush leaves.
pub record HasTaken {T : Type 0} (columns : ℕ → Option ℕ) (eq : T → T → Bool) (first block : Block T) (lines : List (List (Element T))) : Type 0 where
  pub count : ℕ
  pub block_is : block ≡ lines_handed_out count first
  pub given : List (List (Item T))
  pub parts : (flushed columns first).ended ≡ given ++ (flushed columns block).ended
  pub shown : AllZip (ShowsText columns eq first.padding first.width) lines given

module _ {T : Type 0} (columns : ℕ → Option ℕ) (eq : T → T → Bool) where
  -- a line that is handed out is the first of those that a flush leaves
  one_less : (s : Block T) (text : List (Item T)) (rest : List (List (Item T))) → left columns s ≡ text ∷ rest → (flushed columns s).ended ≡ text ∷ (flushed columns (line_handed_out s)).ended
  one_less s text rest e = go s.ended refl
    where
      adds : (more : List (List (Item T))) × (all_lines columns s ≡ lines columns s ++ more)
      adds = finished_adds columns s.width (progress_of columns s)

      go : (es : List (List (Item T))) → s.ended ≡ es → (flushed columns s).ended ≡ text ∷ (flushed columns (line_handed_out s)).ended
      go [] is =
          let here : drop s.handed (lines columns s) ≡ text ∷ rest = ap (λ ls. ls ++ drop s.handed (lines columns s)) (sym is) ∙ e in
          let more = more_dropped s.handed (lines columns s) adds.0 text rest here in
          rw is (ap (drop s.handed) adds.1 ∙ more ∙ ap (λ ls. text ∷ drop (suc s.handed) ls) (sym adds.1))
      go (l ∷ es) is =
          let same : l ≡ text = (let whole = ap (λ ls. ls ++ drop s.handed (lines columns s)) (sym is) ∙ e in cc) in
          rw is (ap (λ x. x ∷ es ++ drop s.handed (all_lines columns s)) same)

  pub none_taken : (block : Block T) → HasTaken columns eq block block []
  none_taken block = record { count = 0; block_is = refl; given = []; parts = refl; shown = tt }

  -- one line more
  pub one_taken : (first old new : Block T) (lines more : List (List (Element T))) (line : List (Element T)) →
      HasTaken columns eq first old lines → HandsOne columns eq old line new → more ≡ lines ++ line ∷ [] →
      HasTaken columns eq first new more
  one_taken first old new lines more line h one pushed =
      let settings : settings_of old ≡ settings_of first = ap settings_of h.block_is ∙ (many_keep h.count first).1 in
      let padding : old.padding ≡ first.padding = ap (λ (k : Settings T). k.padding) settings in
      let width : old.width ≡ first.width = ap (λ (k : Settings T). k.width) settings in
      let shows : ShowsText columns eq first.padding first.width line one.text = rw (← padding) (rw (← width) one.shows) in
      record {
        count = suc h.count;
        block_is = one.leaves ∙ ap line_handed_out h.block_is ∙ handed_one_more h.count first;
        given = h.given ++ one.text ∷ [];
        parts = h.parts ∙ ap (λ ls. h.given ++ ls) (one_less old one.text one.rest one.left_is ∙ ap (λ (s : Block T). one.text ∷ (flushed columns s).ended) (sym one.leaves))
            ∙ sym (append_assoc h.given (one.text ∷ []) (flushed columns new).ended);
        shown = rw pushed (all_zip_append (ShowsText columns eq first.padding first.width) lines (line ∷ []) h.given (one.text ∷ []) h.shown (shows, tt));
      }

  -- those that were taken, and the rest
  pub all_taken : (first block : Block T) (lines rest all : List (List (Element T))) → HasTaken columns eq first block lines → all ≡ lines ++ rest →
      ((end : Block T) × (after_flush columns block ≡ done end) × AllZip (ShowsText columns eq block.padding block.width) rest end.ended) →
      (end : Block T) × (after_flush columns first ≡ done end) × AllZip (ShowsText columns eq first.padding first.width) all end.ended
  all_taken first block lines rest all h whole (end, ends, shown) =
      let settings : settings_of block ≡ settings_of first = ap settings_of h.block_is ∙ (many_keep h.count first).1 in
      let padding : block.padding ≡ first.padding = ap (λ (k : Settings T). k.padding) settings in
      let width : block.width ≡ first.width = ap (λ (k : Settings T). k.width) settings in
      let may : block.may_overflow ≡ first.may_overflow = ap (λ (k : Settings T). k.may_overflow) settings in
      let failure : block.failure ≡ first.failure = ap (λ (s : Block T). s.failure) h.block_is ∙ (many_keep h.count first).0 in
      let events : block.events ≡ first.events = ap (λ (s : Block T). s.events) h.block_is ∙ (many_keep h.count first).2 in
      let allowed : allows columns first (all_lines columns first) ≡ true =
      sym (λ i. may i || lines_fit columns (width i) (finished columns (width i) (progress columns (width i) (events i))).done) ∙ flush_allowed columns block end ends in
      let last : AllZip (ShowsText columns eq first.padding first.width) rest (flushed columns block).ended =
      rw (← padding) (rw (← width) (subst (λ (s : Block T). AllZip (ShowsText columns eq block.padding block.width) rest s.ended) (flush_leaves columns block end ends) shown)) in (
        flushed columns first,
        live_goes first.failure _ (sym failure ∙ (live_done block.failure _ end ends).0) ∙ if_allowed columns (allows columns first (all_lines columns first)) (flushed columns first) allowed,
        rw (whole, h.parts) (all_zip_append (ShowsText columns eq first.padding first.width) lines rest h.given (flushed columns block).ended h.shown last),
      )
