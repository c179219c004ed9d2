-- A text with markers among its characters: what each call leaves.
use Rattle.tbr_flat.proofs.Common.{◌≡◌, ℕ, ◌+◌, ◌-◌, ◌<◌, ◌≤◌, ◌⊎◌, inl, inr, true, false, List, [], ◌∷◌, ◌++◌, length, take, drop, refl, ap, sym, ◌∙◌, arith, append_assoc, Each, or_parts}
use Rattle.tbr_flat.proofs.Common.{length-append, length-take, take-append-drop, take-append-le, take_at, take_all, drop_at, is_glyph, Item, marker, has_character, has_character-append, MarkerPlaces}
use Rattle.tbr_flat.proofs.Common.{marked, covered, before_first, before_last}
use Rattle.std.proofs.Common.{Result, Ok, Err}
use Rattle.std.specs.Result.{OnOk, OnErr}
use Rattle.tbr_flat.proofs.RepeatedTags.{take_after}
use Rattle.tbr_flat.proofs.MarkerPlaces.{covered_push, some_before, no_marks}
use Rattle.tbr_flat.proofs.MarkedItems.{length-marked, marked_push, no_character, none_at_end}

-- where memory is refused nothing has changed
pub covered_pushed : {T E : Type 0} (r : Result T E) (m new : MarkerPlaces) (name : List ℕ) →
    OnOk r (new ≡ record { markers = m.markers ++ (m.after, name) ∷ []; after = 0 }) → OnErr r (new ≡ m) →
    covered new ≡ covered m
covered_pushed (Ok x) m new name h k = rw h (covered_push m name)
covered_pushed (Err e) m new name h k = rw k

module _ {A : Type 0} where
  -- where there is no item, there is no character and no marker
  pub unmarked : (is : List (Item A)) (ms : List (ℕ × List ℕ)) → marked is ms ≡ [] → (is ≡ []) × (ms ≡ [])
  unmarked is [] e = (e, refl)
  unmarked is ((n, name) ∷ ms) e = absurd (omega (arith, ap length e, length-append (take n is) (marker name ∷ marked (drop n is) ms)))

  -- where no marker comes first a character does
  pub character_first : (is : List (Item A)) (m : MarkerPlaces) → covered m ≡ length is → 0 < length (marked is m.markers) →
      ((name : List ℕ) (rest : List (ℕ × List ℕ)) → m.markers ≡ (0, name) ∷ rest → ⊥) → 0 < before_first m
  character_first is m h some other = some_before m (omega (arith, length-marked is m.markers)) other

module _ {A : Type 0} where
  -- ---- markers that are taken out of the word, or put back in front of it

  -- where no marker comes first in a word without characters there is none
  pub nothing_left : (is : List (Item A)) (m : MarkerPlaces) → Each (λ i. is_glyph i ≡ true) is → covered m ≡ length is → has_character (marked is m.markers) ≡ false →
      ((name : List ℕ) (rest : List (ℕ × List ℕ)) → m.markers ≡ (0, name) ∷ rest → ⊥) → marked is m.markers ≡ []
  nothing_left is m glyphs h none other = grind (arith, no_character, no_marks)

  -- the last marker
  pub marker_back : (is js : List (Item A)) (m n : MarkerPlaces) (front ms : List (ℕ × List ℕ)) (k : ℕ) (name : List ℕ)
      → covered m ≡ length is → m ≡ record { markers = front ++ (k, name) ∷ []; after = 0 } →
      n ≡ record { markers = front; after = k } →
      (covered n ≡ length is) × (marked is n.markers ++ marked js ((0, name) ∷ ms) ≡ marked is m.markers ++ marked js ms) × (length (marked is n.markers) + 1 ≡ length (marked is m.markers))
  marker_back is js m n front ms k name h e d =
      let fits = sym (covered_push (record { markers = front; after = k }) name) ∙ (rw e at h) in
      rw (e, d, marked_push is (record { markers = front; after = k }) name fits) (fits, rw append_assoc refl, omega (arith, length-append (marked is front) (marker name ∷ [])))

  same_front : (xs ys zs ws : List (Item A)) → xs ++ ys ≡ zs ++ ws → length xs ≤ length zs → xs ≡ take (length xs) zs
  same_front xs ys zs ws e h = sym (take_at xs ys (length xs) refl) ∙ ap (take (length xs)) e ∙ take-append-le (length xs) zs ws h

  -- not all of the line's markers are back: there is a last one
  pub marker_left : (is word old before line : List (Item A)) (m : MarkerPlaces) (done : ℕ) →
      Each (λ i. is_glyph i ≡ true) is → covered m ≡ length is → marked is m.markers ++ word ≡ (before ++ line) ++ old →
      length (marked is m.markers) + done ≡ length (before ++ line) → done < length line → has_character line ≡ false → (0 < m.after) ⊎ (m.markers ≡ []) → ⊥
  marker_left is word old before line m done glyphs h e len less none stuck =
      let placed = marked is m.markers in let left = length line - done in
      let count : length placed ≡ length before + left = omega (arith, len, length-append before line) in
      let parts : placed ≡ before ++ take left line = same_front placed word (before ++ line) old e (omega (arith, len)) ∙ take_after before line left (length placed) count in
      let alone = (or_parts (has_character (take left line)) (has_character (drop left line)) (rw (← has_character-append (take left line) (drop left line), take-append-drop) none)).0 in
      omega (arith, ap length (none_at_end is m before (take left line) glyphs h parts alone (go stuck)), length-take left line)
    where
      go : (0 < m.after) ⊎ (m.markers ≡ []) → 0 < m.after
      go (inl some) = some
      go (inr nothing) = omega (arith, h, ap before_last nothing, ap length nothing, length-marked is m.markers, len, length-append before line)

  -- all are back
  pub line_back : (placed word old before line : List (Item A)) (done : ℕ) → placed ++ word ≡ (before ++ line) ++ old →
      length placed + done ≡ length (before ++ line) → length line ≡ done → (placed ≡ before) × (word ≡ line ++ old)
  line_back placed word old before line done e len all =
      let whole : placed ++ word ≡ before ++ (line ++ old) = e ∙ append_assoc before line old in
      let count : length placed ≡ length before = omega (arith, length-append before line) in (
        same_front placed word before (line ++ old) whole (omega arith) ∙ take_all (length placed) before (omega arith),
        sym (drop_at placed word (length before) count) ∙ ap (drop (length before)) whole ∙ drop_at before (line ++ old) (length before) refl,
      )
