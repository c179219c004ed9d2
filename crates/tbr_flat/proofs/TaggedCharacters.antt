-- Characters beside their tags.
use Rattle.tbr_flat.proofs.Common.{◌≡◌, ◌↔◌, IsTrue, ℕ, suc, zero, ◌+◌, ◌-◌, ◌<◌, ◌≤◌, Bool, true, Option, None, Some, List, [], ◌∷◌, ◌++◌, length, take, drop, replicate, refl, ap, sym, ◌∙◌, arith}
use Rattle.tbr_flat.proofs.Common.{append_assoc, MatchOption, AllZip, nil_from_length, take-append-drop, drop_at, length-append, length-take, length-take-le, length-drop, length-replicate}
use Rattle.tbr_flat.proofs.Common.{drop-append-le, drop-drop, Item, glyph, SameItems, text_items, item_characters, Flat, flat, glyphs, same_items, same_items_append, IsEquivalence, take-add}
use Rattle.tbr_model.specs.Rule.{spaces}
use Rattle.tbr_tagged.proofs.SameItems.{same_items_trans}

glyphs_none : {A : Type 0} (cs : List ℕ) → glyphs {A = A} cs [] ≡ []
glyphs_none [] = refl
glyphs_none (c ∷ cs) = refl

glyphs-append : {A : Type 0} (cs ds : List ℕ) (ts : List A) → glyphs (cs ++ ds) ts ≡ glyphs cs ts ++ glyphs ds (drop (length cs) ts)
glyphs-append [] ds ts = refl
glyphs-append (c ∷ cs) ds [] = sym (glyphs_none ds)
glyphs-append (c ∷ cs) ds (t ∷ ts) = ap (λ is. glyph c t ∷ is) (glyphs-append cs ds ts)

glyphs_front : {A : Type 0} (cs : List ℕ) (ts us : List A) → length cs ≤ length ts → glyphs cs (ts ++ us) ≡ glyphs cs ts
glyphs_front [] ts us h = refl
glyphs_front (c ∷ cs) [] us h = absurd (omega arith)
glyphs_front (c ∷ cs) (t ∷ ts) us h = ap (λ is. glyph c t ∷ is) (glyphs_front cs ts us (omega arith))

-- the first tags are those that characters need
pub glyphs_kept : {A : Type 0} (cs : List ℕ) (m : ℕ) (ts us : List A) → length cs ≤ m → m ≤ length ts → glyphs cs (take m ts ++ us) ≡ glyphs cs ts
glyphs_kept cs m ts us h k =
    let enough : length cs ≤ length (take m ts) = omega (arith, h, k, length-take m ts) in
    rw (glyphs_front cs (take m ts) us enough, ← glyphs_front cs (take m ts) (drop m ts) enough, take-append-drop) refl

-- characters under one tag
glyphs_one : {A : Type 0} (cs : List ℕ) (n : ℕ) (a : A) → n ≡ length cs → glyphs cs (replicate n a) ≡ text_items cs a
glyphs_one [] n a h = refl
glyphs_one (c ∷ cs) zero a h = absurd (omega (arith, h))
glyphs_one (c ∷ cs) (suc n) a h = ap (λ is. glyph c a ∷ is) (glyphs_one cs n a (omega (arith, h)))

glyphs_push : {A : Type 0} (cs ds : List ℕ) (ts us : List A) → length ts ≡ length cs → glyphs (cs ++ ds) (ts ++ us) ≡ glyphs cs ts ++ glyphs ds us
glyphs_push [] ds [] us h = refl
glyphs_push (c ∷ cs) ds (t ∷ ts) us h = ap (λ is. glyph c t ∷ is) (glyphs_push cs ds ts us (omega arith))
glyphs_push _ ds _ us h = absurd (omega arith)

pub length-glyphs : {A : Type 0} (cs : List ℕ) (ts : List A) → length cs ≤ length ts → length (glyphs cs ts) ≡ length cs
length-glyphs [] ts h = refl
length-glyphs (c ∷ cs) [] h = absurd (omega arith)
length-glyphs (c ∷ cs) (t ∷ ts) h = ap suc (length-glyphs cs ts (omega arith))

pub glyphs-drop : {A : Type 0} (n : ℕ) (cs : List ℕ) (ts : List A) → glyphs (drop n cs) (drop n ts) ≡ drop n (glyphs cs ts)
glyphs-drop (suc n) (c ∷ cs) [] = glyphs_none (drop n cs)
glyphs-drop (suc n) (c ∷ cs) (t ∷ ts) = glyphs-drop n cs ts
glyphs-drop _ _ ts = refl

pub glyphs-take : {A : Type 0} (n : ℕ) (cs : List ℕ) (ts : List A) → glyphs (take n cs) ts ≡ take n (glyphs cs ts)
glyphs-take (suc n) (c ∷ cs) (t ∷ ts) = ap (λ is. glyph c t ∷ is) (glyphs-take n cs ts)
glyphs-take _ _ _ = refl

-- ---- the calls

some_tag : {A : Type 0} (n : ℕ) (ts : List A) → n < length ts → (t : A) × (us : List A) × (drop n ts ≡ t ∷ us)
some_tag n [] h = absurd (omega arith)
some_tag zero (t ∷ ts) h = (t, ts, refl)
some_tag (suc n) (t ∷ ts) h = some_tag n ts (omega arith)

first_glyph : {A : Type 0} (cs rest : List ℕ) (ts : List A) (c : ℕ) (t : A) (us : List A) (n : ℕ) → cs ≡ c ∷ rest → drop n ts ≡ t ∷ us → glyphs cs (drop n ts) ≡ glyph c t ∷ glyphs rest us
first_glyph cs rest ts c t us n e h = rw (e, h) refl

module _ {A : Type 0} (p w : List ℕ) (ts : List A) (h : length ts ≡ length p + length w) where
  pub flat_push : (cs : List ℕ) (n : ℕ) (a : A) → n ≡ length cs → flat p (w ++ cs) (ts ++ replicate n a) ≡ record (flat p w ts) { word = (flat p w ts).word ++ text_items cs a }
  flat_push cs n a e = grind (arith, glyphs_front, drop-append-le, glyphs_push, length-drop, glyphs_one)

  pub flat_word_first : (o : Option ℕ) → MatchOption o (w ≡ []) (λ c. (rest : List ℕ) × (w ≡ c ∷ rest)) →
      MatchOption o ((flat p w ts).word ≡ []) (λ c. (a : A) × (rest : List (Item A)) × ((flat p w ts).word ≡ glyph c a ∷ rest))
  flat_word_first None e = rw e refl
  flat_word_first (Some c) e =
      let s = some_tag (length p) ts (omega (arith, h, ap length e.1)) in
      (s.0, glyphs e.0 s.1, first_glyph w e.0 ts c s.0 s.1 (length p) e.1 s.2)

  pub flat_word_len : length (flat p w ts).word ≡ length w
  flat_word_len = length-glyphs w (drop (length p) ts) (omega (arith, h, length-drop (length p) ts))

  pub flat_placed_len : length (flat p w ts).placed ≡ length p
  flat_placed_len = length-glyphs p ts (omega (arith, h))

pub flat_word : {A : Type 0} (p w : List ℕ) (ts : List A) → flat (p ++ w) [] ts ≡ record { placed = (flat p w ts).placed ++ (flat p w ts).word; word = [] }
flat_word p w ts = rw (glyphs-append p w ts) refl

-- a text is placed where the word has no character
pub flat_placed_text : {A : Type 0} (p w : List ℕ) (ts : List A) → length ts ≡ length p + length w → (flat p w ts).word ≡ [] → (cs : List ℕ) (n : ℕ) (a : A) → n ≡ length cs →
    flat (p ++ cs) w (ts ++ replicate n a) ≡ record { placed = (flat p w ts).placed ++ text_items cs a; word = [] }
flat_placed_text p w ts h none cs n a e =
    let empty : w ≡ [] = nil_from_length w (sym (flat_word_len p w ts h) ∙ ap length none) in
    let len : length ts ≡ length p + 0 = omega (arith, h, ap length empty) in
    rw empty (flat_word p cs (ts ++ replicate n a) ∙ ap (λ (f : Flat _). record { placed = f.placed ++ f.word; word = [] }) (flat_push p [] ts len cs n a e))

pub flat_front : {A : Type 0} (p w : List ℕ) (ts : List A) (n : ℕ) → n ≤ length w →
    flat (p ++ take n w) (drop n w) ts ≡ record { placed = (flat p w ts).placed ++ take n (flat p w ts).word; word = drop n (flat p w ts).word }
flat_front p w ts n h =
    let len : length (p ++ take n w) ≡ length p + n = omega (arith, length-append p (take n w), length-take-le n w h) in
    rw (glyphs-append p (take n w) ts, len, ← drop-drop n (length p) ts, glyphs-take, glyphs-drop) refl

pub flat_take : {A : Type 0} (p w : List ℕ) (ts : List A) (n : ℕ) → n ≤ length p → flat (drop n p) w (drop n ts) ≡ record (flat p w ts) { placed = drop n (flat p w ts).placed }
flat_take p w ts n h =
    let len : n + length (drop n p) ≡ length p = omega (arith, length-drop n p, h) in rw (glyphs-drop n p ts, drop-drop (length (drop n p)) n ts, len) refl

module _ {A : Type 0} (eq : A → A → Bool) where
  -- what is taken under one tag
  taken_same : (n : ℕ) (cs : List ℕ) (ts : List A) (a b : A) → take n ts ≡ replicate n a → eq b a ≡ true → n ≤ length cs →
      SameItems eq (text_items (take n cs) b) (take n (glyphs cs ts))
  taken_same (suc n) (c ∷ cs) [] a b e h k = let no : [] ≡ a ∷ replicate n a = e in absurd (cc)
  taken_same (suc n) (c ∷ cs) (t ∷ ts) a b e h k =
      let p : t ≡ a = cc in
      let q : take n ts ≡ replicate n a = cc in
      ((refl, rw p h), taken_same n cs ts a b q h (omega arith))
  taken_same _ _ ts a b e h k = tt

  same_glyphs : (cs : List ℕ) (ts us : List A) → AllZip (λ x y. eq x y ≡ true) ts us → SameItems eq (glyphs cs ts) (glyphs cs us)
  same_glyphs [] ts us h = tt
  same_glyphs (c ∷ cs) [] [] h = tt
  same_glyphs (c ∷ cs) (t ∷ ts) (u ∷ us) h = ((refl, h.0), same_glyphs cs ts us h.1)
  same_glyphs (c ∷ cs) _ _ h = absurd h

  glyphs_spaces : (n : ℕ) (a : A) (after : List A) → glyphs (replicate n 32) (replicate n a ++ after) ≡ spaces n a
  glyphs_spaces zero a after = refl
  glyphs_spaces (suc n) a after = ap (λ is. glyph 32 a ∷ is) (glyphs_spaces n a after)

  -- spaces under a tag of their own, between the placed characters and the word
  module _ (p w : List ℕ) (ts after : List A) (n : ℕ) (a : A) (k : ℕ) (h : length ts ≡ length p + length w) (e : k ≡ length w) where
    abbrev parted : List A
    parted = take (length ts - k) ts ++ (replicate n a ++ after)

    len : length (take (length ts - k) ts) ≡ length p
    len = omega (arith, h, e, length-take (length ts - k) ts)

    pub space_placed : (flat (p ++ replicate n 32) w parted).placed ≡ (flat p w ts).placed ++ spaces n a
    space_placed = grind (arith, glyphs-append, glyphs_kept, drop_at, len, glyphs_spaces)

    pub space_word : AllZip (λ x y. eq x y ≡ true) after (drop (length ts - k) ts) → SameItems eq (flat (p ++ replicate n 32) w parted).word (flat p w ts).word
    space_word same =
        let first : length ts - k ≡ length p = omega (arith, h, e) in
        let both : length (take (length ts - k) ts ++ replicate n a) ≡ length (p ++ replicate n 32) =
        omega (arith, len, length-append (take (length ts - k) ts) (replicate n a), length-replicate n a, length-append p (replicate n 32), length-replicate {A = ℕ} n 32) in
        let parts : parted ≡ (take (length ts - k) ts ++ replicate n a) ++ after = sym (append_assoc (take (length ts - k) ts) (replicate n a) after) in
        rw (parts, drop_at (take (length ts - k) ts ++ replicate n a) after _ both) (same_glyphs w after (drop (length p) ts) (rw first at same))

pub placed_len : {A : Type 0} (p w : List ℕ) (ts : List A) (f : Flat A) → length ts ≡ length p + length w → flat p w ts ≡ f → length f.placed ≡ length p
placed_len p w ts f h e = rw (← e) (flat_placed_len p w ts h)

pub taken_fits : {A : Type 0} (p w : List ℕ) (ts : List A) (n : ℕ) → length ts ≡ length p + length w → n ≤ length p → length (drop n ts) ≡ length (drop n p) + length w
taken_fits p w ts n h k = omega (arith, h, k, length-drop n ts, length-drop n p)

module _ {A : Type 0} (eq : A → A → Bool) (laws : IsEquivalence eq) where
  -- a piece that is moved to the end of a line
  pub piece_moved : (is js : List (Item A)) (cs : List ℕ) (ts : List A) (n : ℕ) (a b : A) → take n ts ≡ replicate n a → eq b a ≡ true → n ≤ length cs →
      SameItems eq js (is ++ text_items (take n cs) b) → SameItems eq js (is ++ take n (glyphs cs ts))
  piece_moved is js cs ts n a b t h k moved =
      same_items_trans eq laws js (is ++ text_items (take n cs) b) (is ++ take n (glyphs cs ts)) moved
      (same_items_append eq laws is is (text_items (take n cs) b) (take n (glyphs cs ts)) (same_items eq laws is) (taken_same eq n cs ts a b t h k))

  -- the line has the items that are handed out after its own
  pub line_turn : (front is js ps qs : List (Item A)) (m n k : ℕ) → k ≡ m + n → qs ≡ drop m ps →
      SameItems eq is (front ++ take m ps) → SameItems eq js (is ++ take n qs) → SameItems eq js (front ++ take k ps)
  line_turn front is js ps qs m n k e q h j =
      rw (e, take-add m n ps, ← q, ← append_assoc front (take m ps) (take n qs))
      (same_items_trans eq laws js (is ++ take n qs) ((front ++ take m ps) ++ take n qs) j
      (same_items_append eq laws is (front ++ take m ps) (take n qs) (take n qs) h (same_items eq laws (take n qs))))

-- ---- the characters that are placed

module _ {A : Type 0} where
  pub placed_none : (b : Bool) (p w : List ℕ) (ts : List A) → length ts ≡ length p + length w → IsTrue b ↔ (p ≡ []) → IsTrue b ↔ ((flat p w ts).placed ≡ [])
  placed_none b p w ts h k =
      let len = flat_placed_len p w ts h in
      (λ t. nil_from_length (flat p w ts).placed (len ∙ ap length (k.0 t)), λ none. k.1 (nil_from_length p (sym len ∙ ap length none)))

  -- without their tags
  pub glyphs_characters : (cs : List ℕ) (ts : List A) → length cs ≤ length ts → item_characters (glyphs cs ts) ≡ cs
  glyphs_characters [] ts h = refl
  glyphs_characters (c ∷ cs) [] h = absurd (omega arith)
  glyphs_characters (c ∷ cs) (t ∷ ts) h = ap (λ ds. c ∷ ds) (glyphs_characters cs ts (omega arith))

  pub taken_characters : (p w : List ℕ) (ts : List A) (n : ℕ) → length ts ≡ length p + length w → take n p ≡ item_characters (take n (flat p w ts).placed)
  taken_characters p w ts n h = sym (glyphs_characters (take n p) ts (omega (arith, h, length-take n p))) ∙ ap item_characters (glyphs-take n p ts)
