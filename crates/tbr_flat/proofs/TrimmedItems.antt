-- Items that lose the spaces at their end, back to a marker, or the white space at their beginning, up to one.
use Rattle.tbr_flat.proofs.Common.{◌≡◌, ℕ, ◌+◌, ◌-◌, ◌<◌, ◌≤◌, ◌⊎◌, min, inl, inr, false, List, [], ◌∷◌, ◌++◌, length, take, drop, refl, ap, sym, ◌∙◌, arith, append_assoc, append-nil, cases_lt}
use Rattle.tbr_flat.proofs.Common.{take-append-drop, length-append, length-take, length-drop, take_at, take_all, drop_all, drop_at, nil_from_length, Item, marker, without_leading, without_trailing}
use Rattle.tbr_flat.proofs.Common.{cut_twice, MarkerPlaces, marked, before_last, covered, before_first, shortened}
use Rattle.std.proofs.lemmas.Bool.{cases_Bool}
use Rattle.std.proofs.lemmas.List.{append_cancel_right}
use Rattle.tbr_flat.proofs.TrimmedCharacters.{trailing_none, trailing_some}
use Rattle.tbr_flat.proofs.MarkerPlaces.{covered_shortened, first_within}
use Rattle.tbr_flat.proofs.MarkedItems.{marked_more, same_back}

module _ {A : Type 0} where
  -- ---- at the end

  trailing_marker : (name : List ℕ) (is : List (Item A)) → without_trailing (marker name ∷ is) ≡ marker name ∷ without_trailing is
  trailing_marker name is = go (without_trailing is) refl
    where
      go : (js : List (Item A)) → without_trailing is ≡ js → without_trailing (marker name ∷ is) ≡ marker name ∷ without_trailing is
      go [] e = trailing_none (marker name) is false e refl ∙ ap (λ ks. marker name ∷ ks) (sym e)
      go (j ∷ js) e = trailing_some (marker name) j is js e ∙ ap (λ ks. marker name ∷ ks) (sym e)

  -- what is before a marker stays
  trailing_after : (front : List (Item A)) (name : List ℕ) (is : List (Item A)) → without_trailing (front ++ marker name ∷ is) ≡ front ++ marker name ∷ without_trailing is
  trailing_after [] name is = trailing_marker name is
  trailing_after (i ∷ []) name is = trailing_some i (marker name) (marker name ∷ is) (without_trailing is) (trailing_marker name is)
  trailing_after (i ∷ j ∷ front) name is = trailing_some i j (j ∷ front ++ marker name ∷ is) (front ++ marker name ∷ without_trailing is) (trailing_after (j ∷ front) name is)

  -- a marker comes last where no character is after it
  ends_in_marker : (is : List (Item A)) (ms : List (ℕ × List ℕ)) → length is ≡ before_last ms →
      (marked is ms ≡ []) ⊎ ((front : List (Item A)) × (name : List ℕ) × (marked is ms ≡ front ++ marker name ∷ []))
  ends_in_marker is [] h = inl (nil_from_length is h)
  ends_in_marker is ((n, name) ∷ ms) h = elim (ends_in_marker (drop n is) ms (omega (arith, length-drop n is))) [
    | inl none ↦ inr (take n is, name, rw none refl)
    | inr (front, last, e) ↦ inr (take n is ++ marker name ∷ front, last, rw (e, append_assoc) refl)
  ]

  last_part : (front before line : List (Item A)) (name : List ℕ) → front ++ marker name ∷ [] ≡ before ++ line → 0 < length line → (part : List (Item A)) × (line ≡ part ++ marker name ∷ [])
  last_part front before line name e some = elim (cut_twice front (marker name ∷ []) before line e) [
    | inl ([], whole, back) ↦ ([], sym back)
    | inl (i ∷ cut, whole, back) ↦ absurd (omega (arith, ap length back, length-append cut line))
    | inr (i, cut, whole, back) ↦ (i ∷ cut, back)
  ]

  trailing_kept : (line part is : List (Item A)) (name : List ℕ) → line ≡ part ++ marker name ∷ [] → without_trailing (line ++ is) ≡ line ++ without_trailing is
  trailing_kept line part is name e = rw (e, append_assoc, append_assoc, trailing_after) refl

  -- a part of a line that reaches over the last marker
  trailing_over : (is before line after : List (Item A)) (ms : List (ℕ × List ℕ)) → length is ≡ before_last ms →
      marked is ms ≡ before ++ line → without_trailing (line ++ after) ≡ line ++ without_trailing after
  trailing_over is before [] after ms h e = refl
  trailing_over is before (i ∷ line) after ms h e = elim (ends_in_marker is ms h) [
    | inl none ↦ absurd (omega (arith, ap length (sym none ∙ e), length-append before (i ∷ line)))
    | inr (front, name, ends) ↦ let part = last_part front before (i ∷ line) name (sym ends ∙ e) (omega arith) in trailing_kept (i ∷ line) part.0 after name part.1
  ]

  -- The characters after the last marker lose the spaces at their end, and so does the line.
  module _ (is new : List (Item A)) (m : MarkerPlaces) (most last n : ℕ) (covers : covered m ≡ length is) (least : last ≡ min most m.after)
      (trimmed : (front back : List (Item A)) → is ≡ front ++ back → length back ≡ last → (new ≡ front ++ without_trailing back) × (n + length (without_trailing back) ≡ length back)) where
    parted : (length (drop (length is - last) is) ≡ last) ×
        (new ≡ take (length is - last) is ++ without_trailing (drop (length is - last) is)) ×
        (n + length (without_trailing (drop (length is - last) is)) ≡ last)
    parted =
        let len : length (drop (length is - last) is) ≡ last = omega (arith, length-drop (length is - last) is) in
        let t = trimmed (take (length is - last) is) (drop (length is - last) is) (sym (take-append-drop (length is - last) is)) len in
        (len, t.0, t.1 ∙ len)

    pub trimmed_within : n ≤ m.after
    trimmed_within = omega (arith, parted.2)

    pub trimmed_covers : covered (record m { after = m.after - n }) ≡ length new
    trimmed_covers =
        omega (arith, ap length parted.1, parted.2, length-append (take (length is - last) is) (without_trailing (drop (length is - last) is)), length-take (length is - last) is)

    pub trimmed_line : (before line : List (Item A)) → marked is m.markers ≡ before ++ line → length line ≡ most →
        (marked new m.markers ≡ before ++ without_trailing line) × (n + length (without_trailing line) ≡ length line)
    trimmed_line before line e len =
        let back = drop (length is - last) is in
        let front = take (length is - last) is in
        let front_len : before_last m.markers ≤ length front = omega (arith, length-take (length is - last) is) in
        let whole : marked front m.markers ++ back ≡ before ++ line = rw (← marked_more front back m.markers front_len, take-append-drop) e in
        rw (parted.1, marked_more front (without_trailing back) m.markers front_len) (
        elim (cases_lt m.after most) [
          | inl over ↦ elim (cut_twice (marked front m.markers) back before line whole) [
            | inl (cut, first, second) ↦ absurd (omega (arith, parted.0, ap length second, length-append cut line))
            | inr (i, cut, first, second) ↦
                let kept = trailing_over front before (i ∷ cut) back m.markers (omega (arith, length-take (length is - last) is)) first in
                rw (second, kept, first) (rw append_assoc refl, omega (arith, parted.0, parted.2, length-append (i ∷ cut) (without_trailing back), length-append (i ∷ cut) back))
          ]
          | inr within ↦
              let same : back ≡ line = same_back (marked front m.markers) back before line whole (omega (arith, parted.0)) in
              let first : marked front m.markers ≡ before = append_cancel_right (marked front m.markers) before line (rw same at whole) in
              rw (first, ← same) (refl, omega (arith, parted.0, parted.2))
        ])

  -- ---- at the beginning

  leading_marker : (front : List (Item A)) (name : List ℕ) (is : List (Item A)) → without_leading (front ++ marker name ∷ is) ≡ without_leading front ++ marker name ∷ is
  leading_marker [] name is = refl
  leading_marker (i ∷ front) name is = grind (arith, cases_Bool, leading_marker front name is)

  -- The characters before the first marker lose the white space at their beginning, and so does the word.
  module _ (is new : List (Item A)) (m : MarkerPlaces) (n : ℕ) (covers : covered m ≡ length is)
      (trimmed : (front back : List (Item A)) → is ≡ front ++ back → length front ≡ before_first m → (new ≡ without_leading front ++ back) × (n + length (without_leading front) ≡ length front)) where
    opened : (length (take (before_first m) is) ≡ before_first m) ×
        (new ≡ without_leading (take (before_first m) is) ++ drop (before_first m) is) ×
        (n + length (without_leading (take (before_first m) is)) ≡ before_first m)
    opened =
        let len : length (take (before_first m) is) ≡ before_first m = omega (arith, length-take (before_first m) is, first_within m) in
        let t = trimmed (take (before_first m) is) (drop (before_first m) is) (sym (take-append-drop (before_first m) is)) len in
        (len, t.0, t.1 ∙ len)

    pub led_within : n ≤ before_first m
    led_within = omega (arith, opened.2)

    pub led_covers : covered (shortened n m) ≡ length new
    led_covers =
        omega (
          arith,
          covered_shortened m n led_within,
          opened.2,
          ap length opened.1,
          length-append (without_leading (take (before_first m) is)) (drop (before_first m) is),
          length-drop (before_first m) is,
          first_within m,
        )

    pub led_word : marked new (shortened n m).markers ≡ without_leading (marked is m.markers)
    led_word = go m.markers m.after covers opened.1 opened.2
      where
        go : (ms : List (ℕ × List ℕ)) (b : ℕ) → covered (record { markers = ms; after = b }) ≡ length is →
            new ≡ without_leading (take (before_first (record { markers = ms; after = b })) is) ++ drop (before_first (record { markers = ms; after = b })) is →
            n + length (without_leading (take (before_first (record { markers = ms; after = b })) is)) ≡ before_first (record { markers = ms; after = b }) →
            marked new (shortened n (record { markers = ms; after = b })).markers ≡ without_leading (marked is ms)
        go [] b h e len =
            let all : take b is ≡ is = take_all b is (omega (arith, h)) in
            let none : drop b is ≡ [] = drop_all b is (omega (arith, h)) in
            rw (e, all, none, append-nil) refl
        go ((k, name) ∷ ms) b h e len =
            let front = without_leading (take k is) in
            let first : length front ≡ k - n = omega (arith, len) in
            rw (e, take_at front (drop k is) (k - n) first, drop_at front (drop k is) (k - n) first, leading_marker (take k is) name (marked (drop k is) ms)) refl
