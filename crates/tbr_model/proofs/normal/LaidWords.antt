-- Laying a word of items by the rule of Normal mode is placing its slots.
use Rattle.tbr_model.proofs.Common.{◌≡◌, ℕ, ◌+◌, ◌<◌, ◌≤◌, Bool, true, false, nat_lt, nat_le, if◌then◌else◌, Option, None, Some, List, [], ◌∷◌, ◌++◌, map, refl, ap, sym, ◌∙◌, arith, append_assoc}
use Rattle.tbr_model.proofs.Common.{append-nil, leb-true, leb-false, ltb-false, le-leb, inl, inr, Each, cond_both, cases_Bool, map-append, Normal, Item, glyph, marker, item_width, items_width}
use Rattle.tbr_model.proofs.Common.{has_character, Slot, slot_of, slots_within, line_text, rest_text, gap_text, line_width, rest_width, gap_width, line_has_character, Lines, close, fill, place_word}
use Rattle.tbr_model.proofs.Common.{IsNarrow, Laid, extended, end_if_character, put_item, put_items, Progress, Space, lay}
use Rattle.tbr_model.proofs.lists.Each.{if_same}
use Rattle.tbr_model.proofs.words.SpacedGaps.{rest_text-append, inner_text}
use Rattle.tbr_model.proofs.layouts.Ahead.{rest_width-append, line_width_back}
use Rattle.tbr_model.proofs.layouts.Greedy.{line_width_front}
use Rattle.tbr_model.proofs.words.BestLayout.{rest_width_within}
use Rattle.tbr_model.proofs.words.LinesHaveCharacters.{LastHas, Inner, inner_slots, items_within, line_width-one}

-- the gap after what a line has; in front of it none counts
abbrev pub gap_after : {A : Type 0} → List (Slot A) → Option A → Option A
gap_after [] gap = None
gap_after (s ∷ ss) gap = gap

-- what is laid where the lines are
abbrev pub text_of : {A : Type 0} → Lines A → Laid A
text_of lines = record { done = map line_text lines.done; line = line_text lines.last; width = line_width lines.last }

-- the space that waits at a gap
abbrev pub normal_space : {A : Type 0} → Option A → Option (Space A)
normal_space None = None
normal_space (Some a) = Some (record { width = 1; tag = a; mode = Normal })

-- a state of a run in Normal mode
abbrev pub normal_at : {A : Type 0} → Laid A → Option A → List (Item A) → Progress A
normal_at l gap items = record { laid = l; space = normal_space gap; word = items; mode = Normal; continuation_flag = false; in_continuation = false }

-- a word after a gap: on the open line where both fit, else on a fresh one
abbrev pub laid_word : {A : Type 0} → (ℕ → Option ℕ) → ℕ → Laid A → Option A → List (Item A) → Laid A
laid_word columns width l gap items =
    if nat_le (l.width + (gap_width gap + items_width columns items)) width
    then extended l (gap_text gap ++ items) (gap_width gap + items_width columns items)
    else put_items columns width (end_if_character l) items

-- ---- texts of slots

-- slots of a word after those of a line
word_text : {A : Type 0} (columns : ℕ → Option ℕ) (wider : Bool) (l : List (Slot A)) (s : Slot A) (is : List (Item A)) →
    line_text (l ++ (s ∷ map (slot_of columns wider None false) is)) ≡ line_text l ++ (gap_text (gap_after l s.gap) ++ (s.item ∷ is))
word_text columns wider [] s is = ap (λ js. s.item ∷ js) (inner_text columns wider is)
word_text columns wider (t ∷ l) s is =
    ap (λ js. t.item ∷ js)
    (rest_text-append l (s ∷ map (slot_of columns wider None false) is)
    ∙ ap (λ js. rest_text l ++ js)
    (append_assoc (gap_text s.gap) (s.item ∷ []) (rest_text (map (slot_of columns wider None false) is))
    ∙ ap (λ js. gap_text s.gap ++ (s.item ∷ js)) (inner_text columns wider is)))

word_width : {A : Type 0} (l : List (Slot A)) (s : Slot A) (ss : List (Slot A)) → line_width (l ++ (s ∷ ss)) ≡ line_width l + (gap_width (gap_after l s.gap) + line_width (s ∷ ss))
word_width [] s ss = omega arith
word_width (t ∷ l) s ss = omega (arith, rest_width-append l (s ∷ ss))

slots_width : {A : Type 0} (columns : ℕ → Option ℕ) (wider : Bool) (gap : Option A) (i : Item A) (is : List (Item A)) →
    line_width (slots_within columns wider gap (i ∷ is)) ≡ items_width columns (i ∷ is)
slots_width columns wider gap i is = ap (λ n. item_width columns i + n) (rest_width_within columns wider is)

-- where a line has characters, its text has
pub text_has : {A : Type 0} (l : List (Slot A)) → line_has_character l ≡ true → has_character (line_text l) ≡ true
text_has [] h = h
text_has {A} (s ∷ ss) h = gap_has None s.item (map (λ t. t.item) ss) (rest_text ss) h (rest_has ss)
  where
    gap_has : (gap : Option A) (i : Item A) (is more : List (Item A)) → has_character (i ∷ is) ≡ true →
        (has_character is ≡ true → has_character more ≡ true) → has_character ((gap_text gap ++ i ∷ []) ++ more) ≡ true
    gap_has (Some a) i is more h k = refl
    gap_has None (glyph c a) is more h k = refl
    gap_has None (marker m) is more h k = k h

    rest_has : (ts : List (Slot A)) → line_has_character ts ≡ true → has_character (rest_text ts) ≡ true
    rest_has [] h = h
    rest_has (t ∷ ts) h = gap_has t.gap t.item (map (λ u. u.item) ts) (rest_text ts) h (rest_has ts)

-- ---- a word that fits

laid_same : {A : Type 0} (d e : List (List (Item A))) (is js : List (Item A)) (m n : ℕ) → d ≡ e → is ≡ js → m ≡ n →
    (let l : Laid A = record { done = d; line = is; width = m } in let k : Laid A = record { done = e; line = js; width = n } in l ≡ k)
laid_same d e is js m n p q r = rw (p, q, r) refl

-- the open line, ended if it has anything
pub end_if_character_text : {A : Type 0} (lines : Lines A) → LastHas lines.last → end_if_character (text_of lines) ≡ text_of (record { done = close lines.done lines.last; last = [] })
end_if_character_text {A} lines h = go lines.last h
  where
    go : (last : List (Slot A)) → LastHas last → end_if_character (text_of (record { done = lines.done; last = last })) ≡ text_of (record { done = close lines.done last; last = [] })
    go [] k = refl
    go (s ∷ last) k =
        rw (text_has (s ∷ last) k) (ap (λ (d : List (List (Item A))). let l : Laid A = record { done = d; line = []; width = 0 } in l) (sym (map-append line_text lines.done ((s ∷ last) ∷ []))))

module _ {A : Type 0} (columns : ℕ → Option ℕ) (width : ℕ) where
  -- ---- item by item

  put_all : (done : List (List (Slot A))) (last ss : List (Slot A)) → Each (Inner columns width) ss →
      put_items columns width (text_of (record { done = done; last = last })) (map (λ s. s.item) ss) ≡ text_of (fill width done last ss)
  put_all done last [] h = refl
  put_all done last (s ∷ ss) h = elim (cases_Bool (nat_le (line_width (last ++ s ∷ [])) width)) [
    | inl e ↦
        let test : nat_le (line_width last + item_width columns s.item) width ≡ true = ap (λ n. nat_le n width) (sym long) ∙ e in
        rw e (on (text_of (record { done = done; last = last ++ s ∷ [] })) (rw test (laid_same _ _ _ _ _ _ refl (sym text) (sym long))) ∙ put_all done (last ++ s ∷ []) ss h.1)
    | inr e ↦
        let test : nat_le (line_width last + item_width columns s.item) width ≡ false = ap (λ n. nat_le n width) (sym long) ∙ e in
        let narrow : nat_le (item_width columns s.item) width ≡ true = le-leb _ _ (omega (arith, h.0.1, h.0.2)) in
        rw e (on (text_of (record { done = done ++ last ∷ []; last = s ∷ [] })) (rw (test, narrow) (laid_same _ _ _ _ _ _ (sym (map-append line_text done (last ∷ []))) refl (omega (arith, h.0.1))))
        ∙ put_all (done ++ last ∷ []) (s ∷ []) ss h.1)
  ]
    where
      on : (k : Laid A) → put_item columns width (text_of (record { done = done; last = last })) s.item ≡ k →
          put_items columns width (text_of (record { done = done; last = last })) (map (λ t. t.item) (s ∷ ss)) ≡ put_items columns width k (map (λ t. t.item) ss)
      on k same = ap (λ (l : Laid A). put_items columns width l (map (λ t. t.item) ss)) same

      long : line_width (last ++ s ∷ []) ≡ line_width last + item_width columns s.item
      long = omega (arith, line_width-one last s h.0.0, h.0.1)

      hidden : (l : List (Slot A)) → gap_after l s.gap ≡ None
      hidden [] = refl
      hidden (t ∷ l) = h.0.0

      text : line_text (last ++ s ∷ []) ≡ line_text last ++ s.item ∷ []
      text = word_text columns false last s [] ∙ ap (λ o. line_text last ++ (gap_text o ++ s.item ∷ [])) (hidden last)

  -- slots that fit the line
  fill_whole : (done : List (List (Slot A))) (last ss : List (Slot A)) → line_width (last ++ ss) ≤ width → fill width done last ss ≡ record { done = done; last = last ++ ss }
  fill_whole done last [] h = rw append-nil refl
  fill_whole done last (s ∷ ss) h =
      let whole : (last ++ s ∷ []) ++ ss ≡ last ++ (s ∷ ss) = append_assoc last (s ∷ []) ss in
      let fits : line_width ((last ++ s ∷ []) ++ ss) ≤ width = rw whole h in
      let test : nat_le (line_width (last ++ s ∷ [])) width ≡ true = le-leb _ _ (omega (arith, fits, line_width_front (last ++ s ∷ []) ss)) in
      rw test (fill_whole done (last ++ s ∷ []) ss fits ∙ ap (λ (l : List (Slot A)). let q : Lines A = record { done = done; last = l } in q) whole)

  -- the last line has columns, if the line has any or the slots have
  fill_wide : (done : List (List (Slot A))) (last ss : List (Slot A)) → Each (Inner columns width) ss → line_width last ≤ width → 0 < line_width last + rest_width ss →
      0 < line_width (fill width done last ss).last
  fill_wide done last [] h fits some = omega (arith, some)
  fill_wide done last (s ∷ ss) h fits some =
      cond_both (nat_le (line_width (last ++ s ∷ [])) width) _ _ (λ (q : Lines A). 0 < line_width q.last)
      (λ e. fill_wide done (last ++ s ∷ []) ss h.1 (leb-true _ _ e) (omega (arith, some, line_width-one last s h.0.0, ap gap_width h.0.0)))
      (λ e. fill_wide (done ++ last ∷ []) (s ∷ []) ss h.1 (omega (arith, h.0.2)) (omega (arith, fits, leb-false _ _ e, line_width-one last s h.0.0)))

  -- ---- a word

  put_slots : (done : List (List (Slot A))) (wider : Bool) (gap : Option A) (is : List (Item A)) → IsNarrow columns width is →
      put_items columns width (text_of (record { done = done; last = [] })) is ≡ text_of (fill width done [] (slots_within columns wider gap is))
  put_slots done wider gap [] narrow = refl
  put_slots done wider gap (i ∷ is) narrow =
      let first : Slot A = slot_of columns wider gap true i in
      let rest : List (Slot A) = map (slot_of columns wider None false) is in
      let fits : nat_le (line_width (first ∷ [])) width ≡ true = le-leb _ _ (omega (arith, narrow.0)) in
      let test : nat_le (0 + item_width columns i) width ≡ true = le-leb _ _ (omega (arith, narrow.0)) in
      let put : put_item columns width (text_of (record {
        done =
            done;
        last = [];
      })) i ≡ text_of (record { done = done; last = first ∷ [] }) = rw test (laid_same _ _ _ _ _ _ refl refl (omega arith)) in
      let items : is ≡ map (λ s. s.item) rest = sym (items_within columns wider is) in
      rw fits (ap (λ (l : Laid A). put_items columns width l is) put
      ∙ ap (put_items columns width (text_of (record { done = done; last = first ∷ [] }))) items
      ∙ put_all done (first ∷ []) rest (inner_slots columns width wider is narrow.1))

  pub word_laid : (lines : Lines A) (gap : Option A) (items : List (Item A)) → LastHas lines.last → IsNarrow columns width items → has_character items ≡ true →
      laid_word columns width (text_of lines) (gap_after lines.last gap) items ≡ text_of (place_word columns width lines (record { gap = gap; items = items }))
  word_laid lines gap [] has narrow some = cc
  word_laid lines gap (i ∷ is) has narrow some = elim (cases_Bool (nat_le (line_width (lines.last ++ slots)) width)) [
    | inl e ↦
        let test : nat_le (line_width lines.last + (gap_width (gap_after lines.last gap) + items_width columns (i ∷ is))) width ≡ true = ap (λ n. nat_le n width) (sym whole) ∙ e in
        rw (e, test) (laid_same _ _ _ _ _ _ refl (sym text) (sym whole))
    | inr e ↦
        let test : nat_le (line_width lines.last + (gap_width (gap_after lines.last gap) + items_width columns (i ∷ is))) width ≡ false = ap (λ n. nat_le n width) (sym whole) ∙ e in
        rw (e, test) (put ∙ pick (leb-false _ _ e) wider refl)
  ]
    where
      wider : Bool
      wider = nat_lt width (items_width columns (i ∷ is))

      slots : List (Slot A)
      slots = slots_within columns wider gap (i ∷ is)

      rest : List (Slot A)
      rest = map (slot_of columns wider None false) is

      whole : line_width (lines.last ++ slots) ≡ line_width lines.last + (gap_width (gap_after lines.last gap) + items_width columns (i ∷ is))
      whole = omega (arith, word_width lines.last (slot_of columns wider gap true i) rest, slots_width columns wider gap i is)

      text : line_text (lines.last ++ slots) ≡ line_text lines.last ++ (gap_text (gap_after lines.last gap) ++ (i ∷ is))
      text = word_text columns wider lines.last (slot_of columns wider gap true i) is

      put : put_items columns width (end_if_character (text_of lines)) (i ∷ is) ≡ text_of (fill width (close lines.done lines.last) [] slots)
      put = ap (λ (l : Laid A). put_items columns width l (i ∷ is)) (end_if_character_text lines has) ∙ put_slots (close lines.done lines.last) wider gap (i ∷ is) narrow

      closed : (last : List (Slot A)) → width < line_width (last ++ slots) → line_width slots ≤ width → lines.done ++ last ∷ [] ≡ close lines.done last
      closed [] full fits = absurd (omega (arith, full, fits))
      closed (s ∷ last) full fits = refl

      -- the word is on a line of its own, or it is wider
      pick : width < line_width (lines.last ++ slots) → (w : Bool) → wider ≡ w →
          text_of (fill width (close lines.done lines.last) [] slots) ≡ text_of
          (if w then fill width (close lines.done lines.last) [] slots else record { done = lines.done ++ lines.last ∷ []; last = slots })
      pick full true e = refl
      pick full false e =
          let fits : line_width slots ≤ width = omega (arith, ltb-false _ _ e, slots_width columns wider gap i is) in
          ap text_of (fill_whole (close lines.done lines.last) [] slots fits
          ∙ ap (λ (d : List (List (Slot A))). let q : Lines A = record { done = d; last = slots } in q) (sym (closed lines.last full fits)))

  -- a word that takes columns leaves an open line that does
  pub place_wide : (lines : Lines A) (gap : Option A) (items : List (Item A)) → line_width lines.last ≤ width → IsNarrow columns width items → 0 < items_width columns items →
      0 < line_width (place_word columns width lines (record { gap = gap; items = items })).last
  place_wide lines gap [] fits narrow some = absurd (omega (arith, some))
  place_wide lines gap (i ∷ is) fits narrow some =
      let wider : Bool = nat_lt width (items_width columns (i ∷ is)) in
      let first : Slot A = slot_of columns wider gap true i in
      let rest : List (Slot A) = map (slot_of columns wider None false) is in
      let slots : List (Slot A) = first ∷ rest in
      let wide : 0 < line_width slots = omega (arith, some, slots_width columns wider gap i is) in
      let test : nat_le (line_width (first ∷ [])) width ≡ true = le-leb _ _ (omega (arith, narrow.0)) in
      cond_both (nat_le (line_width (lines.last ++ slots)) width) _ _ (λ (q : Lines A). 0 < line_width q.last)
      (λ _. omega (arith, wide, line_width_back lines.last slots))
      (λ _. cond_both wider _ _ (λ (q : Lines A). 0 < line_width q.last)
      (λ _. rw test (fill_wide (close lines.done lines.last) (first ∷ []) rest (inner_slots columns width wider is narrow.1) (omega (arith, narrow.0)) (omega (arith, wide))))
      (λ _. wide))

  -- ---- the rule

  pub lay_normal : (l : Laid A) (gap : Option A) (items : List (Item A)) → has_character items ≡ true →
      lay columns width (normal_at l gap items) ≡ normal_at (laid_word columns width l gap items) None []
  lay_normal l None items some = if_same (λ (m : Laid A). normal_at m None []) (nat_le (l.width + (0 + items_width columns items)) width) _ _ _ _ refl (rw some refl)
  lay_normal l (Some a) items some = if_same (λ (m : Laid A). normal_at m None []) (nat_le (l.width + (1 + items_width columns items)) width) _ _ _ _ refl (rw some refl)
