-- What a walk over items gives.
use Rattle.tbr_flat.proofs.Common.{◌≡◌, ℕ, suc, zero, ◌+◌, ◌-◌, ◌≤◌, true, Option, None, Some, unwrap_or, min, List, [], ◌∷◌, ◌++◌, map, length, take, drop, chars, refl, ap, sym, ◌∙◌, subst, arith}
use Rattle.tbr_flat.proofs.Common.{chars_rest, take-append_seam, drop-append_seam, string_bytes, slice_get, Each, IsUtf8, is_utf8, false≢true, length-drop, length-map, length-take-le}
use Rattle.tbr_flat.proofs.Common.{take-append-drop, IsUtf8-past_char, is_utf8-from_IsUtf8, IsUtf8-from_is_utf8, chars_past_char, is_glyph, each_back, Item, glyph, marker, items_width, width_of_text}
use Rattle.tbr_flat.proofs.Common.{item_characters, chars_none, marked, before_last, given, given_width, places_of, places_left, Marker}
use Rattle.std.specs.Str.Iter.{chars_steps}
use Rattle.std.specs.declared.str.Chars.{Chars}
use Rattle.std.proofs.Math.Seq.{take-nil, drop-nil}
use Rattle.std.specs.Option.{option_map}
use Rattle.std.proofs.lemmas.List.{map-append}
use Rattle.tbr_tagged.specs.Narrow.{AreNarrow}
use Rattle.tbr_tagged.proofs.NarrowText.{narrow_characters, narrow_width}
use Rattle.tbr_flat.specs.Walk.{character_in, first_given, first_characters}

-- ---- one step

-- a text's characters come one after another
pub record IsNext (now next : Chars) (o : Option ℕ) : Type 0 where
  pub first : o ≡ slice_get (chars (chars_rest now)) 0
  pub rest : chars (chars_rest next) ≡ drop 1 (chars (chars_rest now))
  pub utf8 : is_utf8 (chars_rest next) ≡ true

pub is_next : (now next : Chars) (o : Option ℕ) → is_utf8 (chars_rest now) ≡ true → chars_steps now o next → IsNext now next o
is_next now next None u (e, some, first) =
    let none = chars_none (chars_rest now) e.0 in
    record { first = first; rest = rw (e.1, none) (sym (drop-nil 1)); utf8 = ap (λ s. is_utf8 (chars_rest s)) e.1 ∙ u }
is_next now next (Some c) u (e, some, first) =
    let text = chars_rest now in let left = chars_rest next in let utf8 = IsUtf8-from_is_utf8 text u in
    record { first = first; rest = sym (ap (drop 1) (chars_past_char text left c utf8 e)); utf8 = is_utf8-from_IsUtf8 left (IsUtf8-past_char text left c utf8 e) }

-- what is given first, and what is given then
pub record Gives (old new : List (Option ℕ)) (o : Option ℕ) : Type 0 where
  pub first : o ≡ first_given old
  pub rest : new ≡ drop 1 old

-- What is given where markers are at these places before a character is passed, and at those after it.
abbrev pub Passes : List ℕ → List ℕ → Type 0
Passes old new = (cs ds : List ℕ) (o : Option ℕ) → o ≡ slice_get cs 0 → ds ≡ drop 1 cs → Gives (given cs old) (given ds new) o

-- no marker is left
pub passes_after : (before : Option ℕ) (ms : List Marker) → before ≡ None → Passes (places_left before ms) (places_left before ms)
passes_after before ms e = rw e go
  where
    go : Passes [] []
    go [] ds o first rest = rw (rest, first) (record { first = refl; rest = refl })
    go (c ∷ cs) ds o first rest = rw (rest, first) (record { first = refl; rest = refl })

-- a character comes before the next marker
pub passes_before : (before : Option ℕ) (n : ℕ) (ms : List Marker) → before ≡ Some n → (n ≡ 0 → ⊥) → Passes (places_left before ms) (places_left (Some (n - 1)) ms)
passes_before before n ms e some = rw e (go n some)
  where
    go : (n : ℕ) → (n ≡ 0 → ⊥) → Passes (places_left (Some n) ms) (places_left (Some (n - 1)) ms)
    go zero some cs ds o first rest = absurd (some refl)
    go (suc n) some [] ds o first rest =
        let less : suc n - 1 ≡ n = omega arith in
        let none : ds ≡ [] = rest ∙ drop-nil 1 in
        rw (less, none, first) (record { first = refl; rest = ap (λ cs. first_characters n [] ++ None ∷ given cs (places_of ms)) (drop-nil n) })
    go (suc n) some (c ∷ cs) ds o first rest =
        let less : suc n - 1 ≡ n = omega arith in rw (less, rest, first) (record { first = refl; rest = refl })

-- ---- all that is given

-- the places of markers, as they are kept and as they are seen
pub places_seen : (ms : List Marker) → places_of ms ≡ map (λ (m : ℕ × List ℕ). m.0) (map (λ m. (m.before, string_bytes m.name)) ms)
places_seen [] = refl
places_seen (m ∷ ms) = ap (λ ns. m.before ∷ ns) (places_seen ms)

module _ {A : Type 0} where
  letters_drop : (n : ℕ) (is : List (Item A)) → Each (λ i. is_glyph i ≡ true) is → item_characters (drop n is) ≡ drop n (item_characters is)
  letters_drop zero is h = refl
  letters_drop (suc n) [] h = refl
  letters_drop (suc n) (glyph c a ∷ is) h = letters_drop n is h.1
  letters_drop (suc n) (marker name ∷ is) h = absurd (false≢true h.0)

  letters_front : (n : ℕ) (is : List (Item A)) → Each (λ i. is_glyph i ≡ true) is → n ≤ length is → map character_in (take n is) ≡ first_characters n (item_characters is)
  letters_front zero is h within = refl
  letters_front (suc n) [] h within = absurd (omega arith)
  letters_front (suc n) (glyph c a ∷ is) h within = ap (λ os. Some c ∷ os) (letters_front n is h.1 (omega arith))
  letters_front (suc n) (marker name ∷ is) h within = absurd (false≢true h.0)

  letters_alone : (is : List (Item A)) → Each (λ i. is_glyph i ≡ true) is → map character_in is ≡ map (λ c. Some c) (item_characters is)
  letters_alone [] h = refl
  letters_alone (glyph c a ∷ is) h = ap (λ os. Some c ∷ os) (letters_alone is h.1)
  letters_alone (marker name ∷ is) h = absurd (false≢true h.0)

  pub marked_given : (is : List (Item A)) (ms : List (ℕ × List ℕ)) → Each (λ i. is_glyph i ≡ true) is →
      before_last ms ≤ length is → map character_in (marked is ms) ≡ given (item_characters is) (map (λ m. m.0) ms)
  marked_given is [] h within = letters_alone is h
  marked_given is ((n, name) ∷ ms) h within =
      let parts : Each (λ i. is_glyph i ≡ true) (take n is ++ drop n is) = rw take-append-drop h in
      let back = each_back (λ i. is_glyph i ≡ true) (take n is) (drop n is) parts in
      rw (
        map-append character_in (take n is) (marker name ∷ marked (drop n is) ms),
        letters_front n is h (omega arith),
        marked_given (drop n is) ms back (omega (arith, length-drop n is)),
        letters_drop n is h,
      ) refl

-- ---- its columns

module _ (columns : ℕ → Option ℕ) where
  -- the columns of one more
  pub width_more : (os : List (Option ℕ)) (n : ℕ) → given_width columns (take (suc n) os) ≡ given_width columns (take n os) + given_width columns (first_given (drop n os) ∷ [])
  width_more [] n = rw (take-nil n, drop-nil n) (omega arith)
  width_more (o ∷ os) zero = omega arith
  width_more (None ∷ os) (suc n) = width_more os n
  width_more (Some c ∷ os) (suc n) = omega (arith, width_more os n)

  pub width_given : {A : Type 0} (is : List (Item A)) → given_width columns (map character_in is) ≡ items_width columns is
  width_given [] = refl
  width_given (glyph c a ∷ is) = omega (arith, width_given is)
  width_given (marker name ∷ is) = omega (arith, width_given is)

-- ---- several characters at once

-- no more than come before the next marker
pub before_marker : (before : Option ℕ) (most n : ℕ) → n ≤ min (unwrap_or before most) most → n ≤ unwrap_or before n
before_marker None most n h = omega arith
before_marker (Some m) most n h = omega (arith, h)

-- characters that come before the next marker
text_first : (front cs : List ℕ) (before : Option ℕ) (ms : List Marker) → length front ≤ unwrap_or before (length front) →
    given (front ++ cs) (places_left before ms) ≡ map (λ c. Some c) front ++ given cs (places_left (option_map (λ n. n - length front) before) ms)
text_first front cs None ms h = map-append (λ c. Some c) front cs
text_first front cs (Some n) ms h = go front n h
  where
    go : (front : List ℕ) (n : ℕ) → length front ≤ n → given (front ++ cs) (n ∷ places_of ms) ≡ map (λ c. Some c) front ++ given cs ((n - length front) ∷ places_of ms)
    go [] n h = let same : n - 0 ≡ n = omega arith in rw same refl
    go (c ∷ front) zero h = absurd (omega arith)
    go (c ∷ front) (suc n) h = let less : suc n - suc (length front) ≡ n - length front = omega arith in rw less (ap (λ os. Some c ∷ os) (go front n (omega arith)))

module _ (columns : ℕ → Option ℕ) where
  width_text : (cs : List ℕ) → given_width columns (map (λ c. Some c) cs) ≡ width_of_text columns cs
  width_text [] = refl
  width_text (c ∷ cs) = ap (λ n. unwrap_or (columns c) 0 + n) (width_text cs)

  module _ (before : Option ℕ) (ms : List Marker) (text : List ℕ) (k : ℕ) (utf8 : IsUtf8 text) (within : k ≤ length text) (are : AreNarrow columns (take k text)) (first : k ≤ unwrap_or before k) where
    abbrev front : List (Option ℕ)
    front = map (λ c. Some c) (take k text)

    abbrev after : List (Option ℕ)
    after = given (chars (drop k text)) (places_left (option_map (λ n. n - k) before) ms)

    long : length (take k text) ≡ k
    long = length-take-le k text within

    split : given (chars text) (places_left before ms) ≡ front ++ after
    split = ap (λ cs. given cs (places_left before ms)) (narrow_characters columns text k utf8 within are)
        ∙ subst
        (λ m. m ≤ unwrap_or before m → given (take k text ++ chars (drop k text)) (places_left before ms) ≡ front ++
        given (chars (drop k text)) (places_left (option_map (λ n. n - m) before) ms)) long
        (text_first (take k text) (chars (drop k text)) before ms) first

    all : length front ≡ k
    all = length-map (take k text) (λ c. Some c) ∙ long

    -- narrow characters that are passed at once, and their columns
    pub narrow_rest : after ≡ drop k (given (chars text) (places_left before ms))
    narrow_rest = sym (ap (drop k) split ∙ subst (λ m. drop m (front ++ after) ≡ after) all (drop-append_seam front after))

    pub narrow_columns : given_width columns (take k (given (chars text) (places_left before ms))) ≡ k
    narrow_columns =
        ap (given_width columns)
        (ap (take k) split ∙ subst (λ m. take m (front ++ after) ≡ front) all (take-append_seam front after))
        ∙ width_text (take k text) ∙ narrow_width columns (take k text) are ∙ long
