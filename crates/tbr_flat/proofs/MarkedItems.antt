-- Items with markers among them.
use Rattle.tbr_flat.proofs.Common.{◌≡◌, ℕ, suc, zero, ◌+◌, ◌-◌, ◌<◌, ◌≤◌, ◌↔◌, inl, inr, Bool, true, false, IsTrue, Option, List, [], ◌∷◌, ◌++◌, length, take, drop, refl, ap, sym, ◌∙◌, arith}
use Rattle.tbr_flat.proofs.Common.{append_assoc, append-nil, Each, IsEquivalence, take-append-drop, take-append-le, drop-append-le, take-take, drop-drop, drop_at, length-append, length-take}
use Rattle.tbr_flat.proofs.Common.{length-drop, true≢false, false≢true, or_parts, Item, glyph, marker, items_width, has_character, is_glyph, names_in_items, each_front, each_back}
use Rattle.tbr_flat.proofs.Common.{has_character-append, cut_twice, SameItems, text_items, MarkerPlaces, marked, before_last, covered, before_first, shortened, followed, same_items_append}
use Rattle.std.proofs.Common.{not}
use Rattle.std.proofs.lemmas.List.{drop-take}
use Rattle.tbr_model.proofs.words.Items.{items_width-append}
use Rattle.tbr_model.proofs.rule.Markers.{names_in_items-append}
use Rattle.tbr_flat.proofs.RepeatedTags.{take_after}

pub markers-append : {A : Type 0} (is js : List (Item A)) → length (names_in_items (is ++ js)) ≡ length (names_in_items is) + length (names_in_items js)
markers-append is js = rw (names_in_items-append is js, length-append) refl

text_has_none : {A : Type 0} (cs : List ℕ) (a : A) → names_in_items (text_items cs a) ≡ []
text_has_none [] a = refl
text_has_none (c ∷ cs) a = text_has_none cs a

-- a text has no marker
pub text_markers : {A : Type 0} (is : List (Item A)) (cs : List ℕ) (a : A) → length (names_in_items (is ++ text_items cs a)) ≡ length (names_in_items is)
text_markers is cs a = omega (arith, markers-append is (text_items cs a), ap length (text_has_none cs a))

markers_alone : (A : Type 0) (ms : List (ℕ × List ℕ)) → has_character (marked {A = A} [] ms) ≡ false
markers_alone A [] = refl
markers_alone A ((zero, name) ∷ ms) = markers_alone A ms
markers_alone A ((suc n, name) ∷ ms) = markers_alone A ms

module _ {A : Type 0} where
  -- ---- items and markers that are put together

  pub length-marked : (is : List (Item A)) (ms : List (ℕ × List ℕ)) → length (marked is ms) ≡ length is + length ms
  length-marked is [] = omega arith
  length-marked is ((n, name) ∷ ms) =
      omega (arith, length-append (take n is) (marker name ∷ marked (drop n is) ms), length-marked (drop n is) ms, ap length (take-append-drop n is), length-append (take n is) (drop n is))

  -- the last markers are among the characters after the others
  marked_split : (is : List (Item A)) (ms ns : List (ℕ × List ℕ)) → marked is (ms ++ ns) ≡ marked (take (before_last ms) is) ms ++ marked (drop (before_last ms) is) ns
  marked_split is [] ns = refl
  marked_split is ((n, name) ∷ ms) ns =
      let s = before_last ms in rw (take-take n (n + s) is (omega arith), drop-take n s is, marked_split (drop n is) ms ns, drop-drop s n is, append_assoc) refl

  -- after the last marker
  marked_last : (is : List (Item A)) (ms : List (ℕ × List ℕ)) → marked is ms ≡ marked (take (before_last ms) is) ms ++ drop (before_last ms) is
  marked_last is ms = ap (marked is) (sym (append-nil ms)) ∙ marked_split is ms []

  -- more characters
  pub marked_more : (is js : List (Item A)) (ms : List (ℕ × List ℕ)) → before_last ms ≤ length is → marked (is ++ js) ms ≡ marked is ms ++ js
  marked_more is js [] h = refl
  marked_more is js ((n, name) ∷ ms) h =
      rw (take-append-le n is js (omega arith), drop-append-le n is js (omega arith), marked_more (drop n is) js ms (omega (arith, length-drop n is)), append_assoc) refl

  -- characters and markers after others
  pub marked_followed : (is js : List (Item A)) (m n : MarkerPlaces) → covered m ≡ length is → marked (is ++ js) (followed m n).markers ≡ marked is m.markers ++ marked js n.markers
  marked_followed is js m n h = go n.markers n.after
    where
      go : (ns : List (ℕ × List ℕ)) (k : ℕ) → marked (is ++ js) (followed m (record { markers = ns; after = k })).markers ≡ marked is m.markers ++ marked js ns
      go [] k = marked_more is js m.markers (omega (arith, h))
      go ((i, name) ∷ ns) k =
          let s = before_last m.markers in let rest = drop s is in
          let len : length rest ≡ m.after = omega (arith, h, length-drop s is) in
          rw (
            marked_split (is ++ js) m.markers ((m.after + i, name) ∷ ns),
            take-append-le s is js (omega (arith, h)),
            drop-append-le s is js (omega (arith, h)),
            take_after rest js i (m.after + i) (omega (arith, len)),
            ← drop-drop i m.after (rest ++ js),
            drop_at rest js m.after len,
            marked_last is m.markers,
          ) (simp append_assoc)

  -- a marker more
  pub marked_push : (is : List (Item A)) (m : MarkerPlaces) (name : List ℕ) → covered m ≡ length is → marked is (m.markers ++ (m.after, name) ∷ []) ≡ marked is m.markers ++ marker name ∷ []
  marked_push is m name h =
      let none : m.after + 0 ≡ m.after = omega arith in rw (append-nil, none) at (marked_followed is [] m (record { markers = (0, name) ∷ []; after = 0 }) h)

  -- ---- characters that are taken away in front

  pub marked_shortened : (is : List (Item A)) (m : MarkerPlaces) (k : ℕ) → k ≤ before_first m → covered m ≡ length is → marked (drop k is) (shortened k m).markers ≡ drop k (marked is m.markers)
  marked_shortened is m k = go m.markers m.after
    where
      go : (ms : List (ℕ × List ℕ)) (b : ℕ) → k ≤ before_first (record { markers = ms; after = b }) → covered (record { markers = ms; after = b }) ≡ length is →
          marked (drop k is) (shortened k (record { markers = ms; after = b })).markers ≡ drop k (marked is ms)
      go [] b h e = refl
      go ((n, name) ∷ ms) b h e =
          let len : length (take n is) ≡ n = omega (arith, length-take n is) in
          let whole : k + (n - k) ≡ n = omega arith in
          rw (drop-append-le k (take n is) (marker name ∷ marked (drop n is) ms) (omega (arith, len)), ← drop-take k (n - k) is, drop-drop (n - k) k is, whole) refl

  pub taken_front : (is : List (Item A)) (m : MarkerPlaces) (k : ℕ) → k ≤ before_first m → covered m ≡ length is → take k (marked is m.markers) ≡ take k is
  taken_front is m k = go m.markers m.after
    where
      go : (ms : List (ℕ × List ℕ)) (b : ℕ) → k ≤ before_first (record { markers = ms; after = b }) → covered (record { markers = ms; after = b }) ≡ length is → take k (marked is ms) ≡ take k is
      go [] b h e = refl
      go ((n, name) ∷ ms) b h e =
          take-append-le k (take n is) (marker name ∷ marked (drop n is) ms) (omega (arith, length-take n is)) ∙ take-take k n is h

  -- the columns are those of the characters
  pub items_width-marked : (columns : ℕ → Option ℕ) (is : List (Item A)) (ms : List (ℕ × List ℕ)) → items_width columns (marked is ms) ≡ items_width columns is
  items_width-marked columns is [] = refl
  items_width-marked columns is ((n, name) ∷ ms) =
      let all = rw take-append-drop at (items_width-append columns (take n is) (drop n is)) in
      omega (arith, items_width-append columns (take n is) (marker name ∷ marked (drop n is) ms), items_width-marked columns (drop n is) ms, all)

  -- the first item is a character where no marker comes first
  pub first_marked : (i : Item A) (is : List (Item A)) (m : MarkerPlaces) → 0 < before_first m → marked (i ∷ is) m.markers ≡ i ∷ marked is (shortened 1 m).markers
  first_marked i is m = go m.markers m.after
    where
      go : (ms : List (ℕ × List ℕ)) (b : ℕ) → 0 < before_first (record { markers = ms; after = b }) → marked (i ∷ is) ms ≡ i ∷ marked is (shortened 1 (record { markers = ms; after = b })).markers
      go [] b h = refl
      go ((zero, name) ∷ ms) b h = absurd (omega arith)
      go ((suc n, name) ∷ ms) b h = let less : suc n - 1 ≡ n = omega arith in rw less refl

  -- ---- whether there is a character

  has_first : (c : ℕ) (a : A) (is : List (Item A)) (ms : List (ℕ × List ℕ)) → has_character (marked (glyph c a ∷ is) ms) ≡ true
  has_first c a is ((zero, name) ∷ ms) = has_first c a is ms
  has_first c a is _ = refl

  pub no_character : (is : List (Item A)) (ms : List (ℕ × List ℕ)) → Each (λ i. is_glyph i ≡ true) is → has_character (marked is ms) ≡ false → is ≡ []
  no_character [] ms h e = refl
  no_character (glyph c a ∷ is) ms h e = absurd (true≢false (sym (has_first c a is ms) ∙ e))
  no_character (marker name ∷ is) ms h e = absurd (false≢true h.0)

  pub some_character : (b : Bool) (is : List (Item A)) (ms : List (ℕ × List ℕ)) → Each (λ i. is_glyph i ≡ true) is → IsTrue b ↔ (is ≡ []) → not b ≡ has_character (marked is ms)
  some_character b [] ms h e = ap not (e.1 refl) ∙ sym (markers_alone A ms)
  some_character true (glyph c a ∷ is) ms h e = let none : glyph c a ∷ is ≡ [] = e.0 refl in absurd (cc)
  some_character false (glyph c a ∷ is) ms h e = sym (has_first c a is ms)
  some_character b (marker name ∷ is) ms h e = absurd (false≢true h.0)

  pub same_back : (xs ys front line : List (Item A)) → xs ++ ys ≡ front ++ line → length ys ≡ length line → ys ≡ line
  same_back xs ys front line e h =
      let len : length xs ≡ length front = omega (arith, ap length e, length-append xs ys, length-append front line) in
      sym (drop_at xs ys (length front) len) ∙ ap (drop (length front)) e ∙ drop_at front line (length front) refl

  -- after the last marker are characters alone, so a line without a character is empty where there are some
  pub none_at_end : (is : List (Item A)) (m : MarkerPlaces) (before line : List (Item A)) →
      Each (λ i. is_glyph i ≡ true) is → covered m ≡ length is → marked is m.markers ≡ before ++ line →
      has_character line ≡ false → 0 < m.after → line ≡ []
  none_at_end is m before line h e parts none some =
      let s = before_last m.markers in let rest = drop s is in
      let glyphs : Each (λ i. is_glyph i ≡ true) rest = each_back (λ i. is_glyph i ≡ true) (take s is) rest (rw take-append-drop h) in
      elim (cut_twice (marked (take s is) m.markers) rest before line (sym (marked_last is m.markers) ∙ parts)) [
        | inl (cut, front, back) ↦ no_character line [] (each_back (λ i. is_glyph i ≡ true) cut line (rw back at glyphs)) none
        | inr (i, cut, front, back) ↦
            let alone = (or_parts (has_character (i ∷ cut)) (has_character rest) (sym (has_character-append (i ∷ cut) rest) ∙ ap has_character (sym back) ∙ none)).1 in
            absurd (omega (arith, e, some, length-drop s is, ap length (no_character rest [] glyphs alone)))
      ]

  -- ---- how many markers there are

  pub characters_alone : (is : List (Item A)) → Each (λ i. is_glyph i ≡ true) is → length (names_in_items is) ≡ 0
  characters_alone [] h = refl
  characters_alone (glyph c a ∷ is) h = characters_alone is h.1
  characters_alone (marker name ∷ is) h = absurd (false≢true h.0)

  pub marked_count : (is : List (Item A)) (ms : List (ℕ × List ℕ)) → Each (λ i. is_glyph i ≡ true) is → length (names_in_items (marked is ms)) ≡ length ms
  marked_count is [] h = characters_alone is h
  marked_count is ((n, name) ∷ ms) h =
      let parts : Each (λ i. is_glyph i ≡ true) (take n is ++ drop n is) = rw take-append-drop h in
      let front = characters_alone (take n is) (each_front (λ i. is_glyph i ≡ true) (take n is) (drop n is) parts) in
      let back = marked_count (drop n is) ms (each_back (λ i. is_glyph i ≡ true) (take n is) (drop n is) parts) in
      omega (arith, markers-append (take n is) (marker name ∷ marked (drop n is) ms), front, back)

-- ---- items that are the same up to equal tags

module _ {A : Type 0} (eq : A → A → Bool) (laws : IsEquivalence eq) where
  pub same_take : (n : ℕ) (is js : List (Item A)) → SameItems eq is js → SameItems eq (take n is) (take n js)
  same_take zero is js h = tt
  same_take (suc n) [] [] h = tt
  same_take (suc n) (i ∷ is) (j ∷ js) h = (h.0, same_take n is js h.1)
  same_take (suc n) _ _ h = absurd h

  pub same_drop : (n : ℕ) (is js : List (Item A)) → SameItems eq is js → SameItems eq (drop n is) (drop n js)
  same_drop zero is js h = h
  same_drop (suc n) [] [] h = tt
  same_drop (suc n) (i ∷ is) (j ∷ js) h = same_drop n is js h.1
  same_drop (suc n) _ _ h = absurd h

  pub same_marked : (is js : List (Item A)) (ms : List (ℕ × List ℕ)) → SameItems eq is js → SameItems eq (marked is ms) (marked js ms)
  same_marked is js [] h = h
  same_marked is js ((n, name) ∷ ms) h = grind (arith, same_items_append, same_take, same_drop, same_marked (drop n is) (drop n js) ms (same_drop n is js h))
