-- What the fields of a block hold, and what each change leaves of that.
use Rattle.tbr_wrap.proofs.Common.{◌≡◌, ℕ, suc, ◌+◌, ◌<◌, ◌||◌, Bool, true, false, Option, List, [], ◌∷◌, ◌++◌, fold, map, length, take, drop, refl, ap, sym, ◌∙◌, subst, arith, append_assoc}
use Rattle.tbr_wrap.proofs.Common.{length-append, lt-ltb, nat_lt, or-false, or-true, take_at, drop_at, length-map, length_all_zip, and_parts, not-true, AllZip, Item, glyph, marker, has_character}
use Rattle.tbr_wrap.proofs.Common.{names_in_items, Laid, joined, Event, Progress, at_start, step, finished, waiting, finished_adds, SameItems, all_zip_append, same_has, is_some_list, Block, new_block}
use Rattle.tbr_wrap.proofs.Common.{progress_of, all_lines, left, loose, has_no_character, grown, without_loose, flushed, line_handed_out, AreLines, HoldsRun, HoldsLaid, LaidLikeRule, LeavesAfterLine}
use Rattle.tbr_wrap.proofs.Common.{KeepsLimits, IsAtProgress, RunIsFinished, LaidLines, Wrapper}
use Rattle.std.proofs.Math.Bool.{or_assoc}
use Rattle.std.proofs.lemmas.List.{length-take-le}
use Rattle.tbr_model.proofs.words.Regions.{lt-zero-add}
use Rattle.tbr_wrap.specs.Held.{HoldsAt}
use Rattle.tbr_wrap.proofs.runs.LinesLeft.{first_of, some_count}
use Rattle.tbr_wrap.proofs.runs.Blocks.{steps_add, progress_grown, progress_taken, progress_flushed}

-- ---- whether there are lines

-- as many lines come to both
begun_lists : {X Y : Type 0} (f g : Bool) (xs xs' : List X) (ys ys' : List Y) (n : ℕ) → length xs' ≡ length xs + n → length ys' ≡ length ys + n → f || is_some_list xs ≡ g || is_some_list ys →
    f || is_some_list xs' ≡ g || is_some_list ys'
begun_lists f g xs xs' ys ys' n more_x more_y h = grind (arith, ℕ, lt-zero-add, or_assoc, some_count)

pub first_shown : {X Y : Type 0} (R : X → Y → Type 0) (xs : List X) (ys : List Y) (y : Y) (rest : List Y) →
    ys ≡ y ∷ rest → AllZip R xs ys → (x : X) × (others : List X) × (xs ≡ x ∷ others) × R x y × AllZip R others rest
first_shown R [] ys y rest e h = absurd (subst (λ zs. AllZip R [] zs) e h)
first_shown R (x ∷ xs) ys y rest e h = let k = subst (λ zs. AllZip R (x ∷ xs) zs) e h in (x, xs, refl, k.0, k.1)

pub no_lines : {X : Type 0} (xs : List X) → (0 < length xs → ⊥) → xs ≡ []
no_lines [] h = refl
no_lines (x ∷ xs) h = absurd (h (omega arith))

first_showing : {X Y : Type 0} (R : X → Y → Type 0) (xs : List X) (ys : List Y) (x : X) (others : List X) →
    xs ≡ x ∷ others → AllZip R xs ys → (y : Y) × (rest : List Y) × (ys ≡ y ∷ rest) × AllZip R others rest
first_showing R xs [] x others e h = absurd (subst (λ zs. AllZip R zs []) e h)
first_showing R xs (y ∷ ys) x others e h = let k = subst (λ zs. AllZip R zs (y ∷ ys)) e h in (y, ys, refl, k.1)

module _ {A : Type 0} (columns : ℕ → Option ℕ) (eq : A → A → Bool) where
  lines_count : (b : Wrapper A) (before given : List (List (Item A))) (p : Progress A) →
      IsAtProgress columns eq b before given p →
      length b.lines.ended.items + length given ≡ length before + length p.laid.done
  lines_count b before given p s = grind (arith, length-map, length-append, length_all_zip)

  pub holds_new : (b : Wrapper A) (width : ℕ) (may : Bool) (padding : Option A) → IsAtProgress columns eq b [] [] at_start → HoldsRun columns eq b false (new_block width may padding)
  holds_new b width may padding s = record {
    before = [];
    earlier = tt;
    within = omega arith;
    stands = s;
    has_begun = some_count b.lines.ended.items ∙ (let zero : length b.lines.ended.items ≡ 0 = omega (arith, lines_count b [] [] at_start s) in ap (nat_lt 0) zero);
  }

  module _ (b : Wrapper A) (begun : Bool) (s : Block A) (h : HoldsRun columns eq b begun s) where
    abbrev p : Progress A
    p = progress_of columns s

    abbrev pub given : List (List (Item A))
    given = take s.handed p.laid.done

    given_count : length given ≡ s.handed
    given_count = length-take-le s.handed p.laid.done h.within

    old_count : length b.lines.ended.items + s.handed ≡ length h.before + length p.laid.done
    old_count = omega (arith, lines_count b h.before given p h.stands, given_count)

    -- events come
    pub holds_grown : (d : Wrapper A) (es : List (Event A)) → IsAtProgress columns eq d h.before given (fold (step columns s.width) p es) → HoldsRun columns eq d begun (grown s es)
    holds_grown d es stood =
        let q : Progress A = fold (step columns s.width) p es in
        let more = steps_add columns s.width es p in
        let same : take s.handed q.laid.done ≡ given = ap (take s.handed) stood.lays.shows.split ∙ take_at given stood.lays.shows.rest s.handed given_count in
        let longer : length q.laid.done ≡ length p.laid.done + length more.0 = ap length more.1 ∙ length-append p.laid.done more.0 in
        subst (λ (x : Progress A). HoldsAt columns eq d begun (grown s es) x) (sym (progress_grown columns s es))
        (record {
          before = h.before;
          earlier = h.earlier;
          within = omega (arith, h.within, longer);
          stands = subst (λ (ls : List (List (Item A))). IsAtProgress columns eq d h.before ls q) (sym same) stood;
          has_begun = begun_lists begun s.begun b.lines.ended.items d.lines.ended.items p.laid.done q.laid.done (length more.0)
              (omega (arith, old_count, lines_count d h.before given q stood, given_count, longer)) longer h.has_begun;
        })

    -- the word's markers are taken out
    pub holds_taken : (d : Wrapper A) → has_character p.word ≡ false → IsAtProgress columns eq d h.before given (record p { word = [] }) → HoldsRun columns eq d begun (without_loose columns s)
    holds_taken d none stood =
        subst (λ (x : Progress A). HoldsAt columns eq d begun (without_loose columns s) x) (sym (progress_taken columns s none))
        (record {
          before = h.before;
          earlier = h.earlier;
          within = h.within;
          stands = stood;
          has_begun = begun_lists begun s.begun b.lines.ended.items d.lines.ended.items p.laid.done p.laid.done 0
              (omega (arith, old_count, lines_count d h.before given (record p { word = [] }) stood, given_count)) (omega arith) h.has_begun;
        })

    -- the word that is held has the loose markers
    pub word_names_held : has_character p.word ≡ false → names_in_items b.lines.flat.word ≡ loose columns s
    word_names_held none = let names : loose columns s ≡ names_in_items p.word = rw none refl in same_marker_names b.lines.flat.word p.word h.stands.word ∙ sym names
      where
        same_marker_names : (is js : List (Item A)) → SameItems eq is js → names_in_items is ≡ names_in_items js
        same_marker_names [] [] z = refl
        same_marker_names [] (j ∷ js) z = absurd z
        same_marker_names (i ∷ is) [] z = absurd z
        same_marker_names (glyph d a ∷ is) (glyph e x ∷ js) z = same_marker_names is js z.1
        same_marker_names (marker m ∷ is) (marker n ∷ js) z = (λ i. z.0 i ∷ same_marker_names is js z.1 i)
        same_marker_names (glyph d a ∷ is) (marker n ∷ js) z = absurd z.0
        same_marker_names (marker m ∷ is) (glyph e x ∷ js) z = absurd z.0

    -- the run ends
    pub holds_flushed : s.width ≡ b.lines.width → (d : Wrapper A) → RunIsFinished columns eq b d h.before given p → HoldsRun columns eq d begun (flushed columns s)
    holds_flushed wide d e =
        let all : List (List (Item A)) = all_lines columns s in
        let split : all ≡ given ++ e.rest = ap (λ w. (finished columns w p).done) wide ∙ e.split in
        let rest : drop s.handed all ≡ e.rest = ap (drop s.handed) split ∙ drop_at given e.rest s.handed given_count in
        let many : length e.now ≡ length e.rest = length_all_zip (SameItems eq) e.now e.rest e.same in
        let parts : length all ≡ s.handed + length e.rest = ap length split ∙ length-append given e.rest ∙ ap (λ n. n + length e.rest) given_count in
        let adds = finished_adds columns s.width p in
        let longer : length all ≡ length p.laid.done + length adds.0 = ap length adds.1 ∙ length-append p.laid.done adds.0 in
        let left : Progress A = record at_start { word = waiting columns s.width p } in
        let stood : IsAtProgress columns eq d (h.before ++ e.now) [] left =
        subst
        (λ w. IsAtProgress columns eq d (h.before ++ e.now) [] (record at_start { word = waiting columns w p }))
        (sym wide) e.stands in
        subst (λ (x : Progress A). HoldsAt columns eq d begun (flushed columns s) x) (sym (progress_flushed columns s))
        (record {
          before = h.before ++ e.now;
          earlier = all_zip_append (SameItems eq) h.before e.now s.ended (drop s.handed all) h.earlier (subst (AllZip (SameItems eq) e.now) (sym rest) e.same);
          within = omega arith;
          stands = stood;
          has_begun = begun_lists begun s.begun b.lines.ended.items d.lines.ended.items p.laid.done all (length adds.0)
              (omega (arith, old_count, longer, many, parts, length-append h.before e.now, lines_count d (h.before ++ e.now) [] left stood)) longer h.has_begun
              ∙ sym (or-false (s.begun || is_some_list all));
        })

    -- ---- a line is handed out

    abbrev pub laid : Laid A
    laid = h.stands.lays.laid

    abbrev rest : List (List (Item A))
    rest = h.stands.lays.shows.rest

    rest_is : drop s.handed p.laid.done ≡ rest
    rest_is = ap (drop s.handed) h.stands.lays.shows.split ∙ drop_at given rest s.handed given_count

    -- what is held shows what is left
    pub left_shown : AllZip (SameItems eq) (h.before ++ laid.done) (left columns s)
    left_shown = all_zip_append (SameItems eq) h.before laid.done s.ended (drop s.handed p.laid.done) h.earlier (subst (AllZip (SameItems eq) laid.done) (sym rest_is) h.stands.lays.shows.done)

    -- as many as the fields count
    held_count : length b.lines.ended.items ≡ length (left columns s)
    held_count = ap length h.stands.lays.holds.lens ∙ length-map (h.before ++ laid.done) length ∙ length_all_zip (SameItems eq) (h.before ++ laid.done) _ left_shown

    pub none_held : left columns s ≡ [] → 0 < length b.lines.ended.items → ⊥
    none_held e some = omega (arith, some, held_count, ap length e)

    pub none_left : left columns s ≡ [] → b.lines.ended.items ≡ []
    none_left e = no_lines b.lines.ended.items (none_held e)

    pub some_held : b.lines.ended.items ≡ [] → (text : List (Item A)) (others : List (List (Item A))) → left columns s ≡ text ∷ others → ⊥
    some_held none text others e = omega (arith, held_count, ap length none, ap length e)

    pub some_left : 0 < length b.lines.ended.items → (is : List (Item A)) × (more : List (List (Item A))) × (h.before ++ laid.done ≡ is ∷ more)
    some_left some = first_of (h.before ++ laid.done) (λ none. omega (arith, some, held_count, length_all_zip (SameItems eq) (h.before ++ laid.done) _ left_shown, ap length none))

    -- a line has ended where one is left
    ended_one : 0 < length b.lines.ended.items → s.begun || is_some_list p.laid.done ≡ true
    ended_one some = sym h.has_begun ∙ ap (λ e. begun || e) (some_count b.lines.ended.items ∙ lt-ltb 0 (length b.lines.ended.items) some) ∙ or-true begun

    -- of the lines alone
    module _ (ls : LaidLines A) (same : KeepsLimits b.lines ls) where
      abbrev d : Wrapper A
      d = record b { lines = ls }

      stands_left : (before' given' : List (List (Item A))) (l : Laid A) → HoldsLaid ls before' l →
          ls.flat.word ≡ b.lines.flat.word → LaidLikeRule eq given' l p.laid →
          IsAtProgress columns eq d before' given' p
      stands_left before' given' l holds word shows = grind arith

      pub holds_handed : (is : List (Item A)) (more : List (List (Item A))) → h.before ++ laid.done ≡ is ∷ more →
          LeavesAfterLine b.lines ls more laid → 0 < length b.lines.ended.items →
          HoldsRun columns eq d true (line_handed_out s)
      holds_handed is more first v some = go h.before s.ended refl refl h.earlier
        where
          go : (bs es : List (List (Item A))) → h.before ≡ bs → s.ended ≡ es → AllZip (SameItems eq) bs es → HoldsRun columns eq d true (line_handed_out s)
          go [] (e ∷ es) q r z = absurd z
          go (x ∷ bs) [] q r z = absurd z
          go [] [] q r z =
              let none : ◌≡◌ {A = Block A} (record s { handed = suc s.handed }) (line_handed_out s) = rw r refl in
              let done : laid.done ≡ is ∷ more = ap (λ ls. ls ++ laid.done) (sym q) ∙ first in
              let f = first_showing (SameItems eq) laid.done rest is more done h.stands.lays.shows.done in
              let next : List (List (Item A)) = given ++ f.0 ∷ [] in
              let split : p.laid.done ≡ next ++ f.1 = h.stands.lays.shows.split ∙ ap (λ ls. given ++ ls) f.2 ∙ sym (append_assoc given (f.0 ∷ []) f.1) in
              let count : length next ≡ suc s.handed = length-append given (f.0 ∷ []) ∙ omega (arith, given_count) in
              let taken : take (suc s.handed) p.laid.done ≡ next = ap (take (suc s.handed)) split ∙ take_at next f.1 (suc s.handed) count in
              let l : Laid A = record { done = more; line = laid.line; width = laid.width } in
              let holds : HoldsLaid ls [] l =
              record { placed = v.placed; lens = v.lens; len = v.len ∙ h.stands.lays.holds.len; markers = v.markers ∙ h.stands.lays.holds.markers; width = v.width ∙ h.stands.lays.holds.width } in
              let shows : LaidLikeRule eq next l p.laid = record { rest = f.1; split = split; done = f.3; last = h.stands.lays.shows.last; width = h.stands.lays.shows.width } in
              subst (HoldsRun columns eq d true) none
              (record {
                before = [];
                earlier = subst (AllZip (SameItems eq) []) (sym r) tt;
                within = omega (arith, ap length split, length-append next f.1, count);
                stands = subst (λ ls. IsAtProgress columns eq d [] ls p) (sym taken) (stands_left [] next l holds v.word shows);
                has_begun = sym (ended_one some);
              })
          go (x ∷ bs) (e ∷ es) q r z =
              let earlier : ◌≡◌ {A = Block A} (record s { ended = es }) (line_handed_out s) = rw r refl in
              let rests : more ≡ bs ++ laid.done = sym (ap (drop 1) (ap (λ ls. ls ++ laid.done) (sym q) ∙ first)) in
              let holds : HoldsLaid ls bs laid = record {
                placed = v.placed ∙ ap (λ ls. joined ls ++ laid.line) rests;
                lens = v.lens ∙ ap (map length) rests;
                len = v.len ∙ h.stands.lays.holds.len;
                markers = v.markers ∙ h.stands.lays.holds.markers;
                width = v.width ∙ h.stands.lays.holds.width;
              } in
              subst (HoldsRun columns eq d true) earlier
              (record {
                before = bs;
                earlier = z.1;
                within = h.within;
                stands = stands_left bs given laid holds v.word h.stands.lays.shows;
                has_begun = sym (ended_one some);
              })

    -- ---- what is open

    pub line_held : has_character laid.line ≡ has_character p.laid.line
    line_held = same_has eq laid.line p.laid.line h.stands.lays.shows.last

    pub word_held : has_character b.lines.flat.word ≡ has_character p.word
    word_held = same_has eq b.lines.flat.word p.word h.stands.word

    -- where nothing open has a character the fields hold ended lines
    pub ended_held : has_no_character columns s ≡ true → AreLines b.lines.ended.items b.lines.flat.placed (h.before ++ laid.done)
    ended_held none = grind (arith, line_held, not-true, and_parts)
