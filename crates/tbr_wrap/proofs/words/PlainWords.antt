-- Narrow words with one space between two go on the open line as one word does.
use Rattle.tbr_wrap.proofs.Common.{◌≡◌, ℕ, suc, zero, ◌+◌, ◌<◌, ◌≤◌, ◌==◌, Bool, true, false, if◌then◌else◌, Option, None, Some, unwrap_or, List, [], ◌∷◌, ◌++◌, fold, length, take, ◌-◌, refl, ap, sym}
use Rattle.tbr_wrap.proofs.Common.{◌∙◌, subst, arith, append_assoc, append-nil, length-append, lt-ltb, le-leb, IsAscii, nat_tests, IsAscii-nil, IsAscii-cons, take-append_seam, or-true, Normal}
use Rattle.tbr_wrap.proofs.Common.{extended, end_if_character, glyph, character, has_character, items_width, Space, Progress, enter, join, tag_of, space_text, pending_width, collapse, lay_here}
use Rattle.tbr_wrap.proofs.Common.{wrap_space, width_of_text, has_character-append, items_width-append, text_items, items_width-text, is_narrow, joins, reads, JoinWord, AreWords, text_entries}
use Rattle.tbr_wrap.proofs.Common.{join_all, extended_twice}
use Rattle.std.proofs.Common.{slice_range}
use Rattle.std.proofs.lemmas.Bool.{lt-leb}
use Rattle.std.proofs.lemmas.Str.{IsAscii-append}
use Rattle.tbr_model.specs.Rule.{lay, wrap_space_by}
use Rattle.tbr_wrap.proofs.words.ModeCases.{normal_kept, normal_break}
use Rattle.tbr_wrap.proofs.words.PlainText.{Narrow, narrow_parts, joined_text, graphic_low, graphic_joins}
use Rattle.tbr_wrap.proofs.words.WordsLaid.{put_fitting, lay_fresh_some}

-- ---- what is read

reads_none : (columns : ℕ → Option ℕ) (cs : List ℕ) → fold (reads columns) None cs ≡ None
reads_none columns [] = refl
reads_none columns (c ∷ cs) = reads_none columns cs

-- the next character is a space after a word, or narrow
data NextRead (columns : ℕ → Option ℕ) (inside : Bool) (c : ℕ) (cs : List ℕ) (end : Bool) : Type 0 where
  space : c ≡ 32 → inside ≡ true → fold (reads columns) (Some false) cs ≡ Some end → NextRead columns inside c cs end
  narrow : Narrow columns c → fold (reads columns) (Some true) cs ≡ Some end → NextRead columns inside c cs end

next_read : (columns : ℕ → Option ℕ) (inside : Bool) (c : ℕ) (cs : List ℕ) (end : Bool) → fold (reads columns) (reads columns (Some inside) c) cs ≡ Some end → NextRead columns inside c cs end
next_read columns inside c cs end h = go (c == 32) (is_narrow columns c) inside refl refl refl h
  where
    none : fold (reads columns) None cs ≡ Some end → NextRead columns inside c cs end
    none h = absurd (let e : None ≡ Some end = sym (reads_none columns cs) ∙ h in cc)

    go : (s n w : Bool) → (c == 32) ≡ s → is_narrow columns c ≡ n → inside ≡ w →
        fold (reads columns) (if s then (if w then Some false else None) else (if n then Some true else None)) cs ≡ Some
        end → NextRead columns inside c cs end
    go true n true e f i h = space (grind (arith, nat_tests)) i h
    go true n false e f i h = none h
    go false true w e f i h = narrow (narrow_parts columns c f) h
    go false false w e f i h = none h

pub words_ascii : (columns : ℕ → Option ℕ) (inside : Bool) (cs : List ℕ) (end : Bool) → fold (reads columns) (Some inside) cs ≡ Some end → IsAscii cs
words_ascii columns inside [] end h = IsAscii-nil
words_ascii columns inside (c ∷ cs) end h =
    elim (next_read columns inside c cs end h) [
      | space e i k ↦ IsAscii-cons c cs (omega (arith, e)) (words_ascii columns false cs end k)
      | narrow n k ↦ IsAscii-cons c cs (omega (arith, (graphic_low c n.graphic).1)) (words_ascii columns true cs end k)
    ]

one_wider : (columns : ℕ → Option ℕ) (c : ℕ) (cs : List ℕ) → columns c ≡ Some 1 → width_of_text columns cs ≡ length cs → width_of_text columns (c ∷ cs) ≡ length (c ∷ cs)
one_wider columns c cs e w = omega (arith, ap (λ o. unwrap_or o 0) e, w)

pub words_width : (columns : ℕ → Option ℕ) → columns 32 ≡ Some 1 → (inside : Bool) (cs : List ℕ) (end : Bool) → fold (reads columns) (Some inside) cs ≡ Some end → width_of_text columns cs ≡ length cs
words_width columns one inside [] end h = refl
words_width columns one inside (c ∷ cs) end h =
    elim (next_read columns inside c cs end h) [
      | space e i k ↦ one_wider columns c cs (ap columns e ∙ one) (words_width columns one false cs end k)
      | narrow n k ↦ one_wider columns c cs n.one (words_width columns one true cs end k)
    ]

pub some_read : (columns : ℕ → Option ℕ) (cs : List ℕ) → fold (reads columns) (Some false) cs ≡ Some true → 0 < length cs
some_read columns [] h = cc
some_read columns (c ∷ cs) h = omega arith

-- without the last space
pub words_front : (columns : ℕ → Option ℕ) (cs : List ℕ) (w : AreWords columns cs) → slice_range cs 0 (length cs - 1) ≡ w.front
words_front columns cs w =
    let long : length cs - 1 - 0 ≡ length w.front = omega (arith, ap length w.is, length-append w.front (32 ∷ [])) in
    (λ i. take (long i) (w.is i)) ∙ take-append_seam w.front (32 ∷ [])

-- fewer characters join a word where more do
pub fewer_join : (columns : ℕ → Option ℕ) (n m : ℕ) (cs : List ℕ) → JoinWord columns false (take n cs) → JoinWord columns false (take n (take m cs))
fewer_join columns (suc n) (suc m) (c ∷ cs) h = (h.0, fewer_join columns n m cs h.1)
fewer_join columns _ _ _ h = tt

pub all_ascii : (columns : ℕ → Option ℕ) (cs : List ℕ) → AreWords columns cs → IsAscii cs
all_ascii columns cs w = subst IsAscii (sym w.is) (IsAscii-append w.front (32 ∷ []) (words_ascii columns false w.front true w.read) (IsAscii-cons 32 [] (omega arith) IsAscii-nil))

-- ---- what the rule does with them

module _ {A : Type 0} (columns : ℕ → Option ℕ) (one : columns 32 ≡ Some 1) (width : ℕ) (a b : A) where
  -- the word is on the open line, and a space waits after it
  abbrev after_word : Progress A → Progress A
  after_word q = record q {
    laid = extended q.laid (space_text q.space ++ q.word) (pending_width q.space + items_width columns q.word);
    space = Some (record { width = 1; tag = tag_of q a b; mode = Normal });
    word = [];
    continuation_flag = false;
  }

  collapsed : (q : Progress A) → 0 < items_width columns q.word → collapse 32 (tag_of q a b) (lay_here columns q) ≡ after_word q
  collapsed q some = grind (arith, lt-ltb)

  -- a word that fits ends at a space
  word_ended : (q : Progress A) → 0 < items_width columns q.word →
      q.laid.width + (pending_width q.space + items_width columns q.word) ≤ width →
      enter columns width q (character 32 a b Normal) ≡ after_word q
  word_ended q some fits = grind (arith, lt-ltb, le-leb, normal_break, collapsed)

  -- narrow characters after the word, and a space after them
  abbrev after_words : Progress A → List ℕ → Progress A
  after_words q cs = record q {
    laid = extended q.laid (space_text q.space ++ (q.word ++ text_items cs (tag_of q a b))) (pending_width q.space + (items_width columns q.word + length cs));
    space = Some (record { width = 1; tag = tag_of q a b; mode = Normal });
    word = [];
    mode = Normal;
    continuation_flag = false;
  }

  -- what is known of the word under way
  abbrev IsReading : Bool → Progress A → Type 0
  IsReading true q = (0 < items_width columns q.word) × (has_character q.word ≡ true) × (q.mode ≡ Normal)
  IsReading false q = has_character q.word ≡ false

  joined_mode : (inside : Bool) (q : Progress A) → IsReading inside q → (if has_character q.word then q.mode else Normal) ≡ Normal
  joined_mode true q h = ap (λ t. if t then q.mode else Normal) h.1 ∙ h.2
  joined_mode false q h = ap (λ t. if t then q.mode else Normal) h

  -- one more joins the word
  after_join : (c : ℕ) (cs : List ℕ) (q : Progress A) → columns c ≡ Some 1 → after_words (join c (tag_of q a b) Normal q) cs ≡ after_words q (c ∷ cs)
  after_join c cs q is = grind (arith, items_width-append, append_assoc)

  -- a space ends the word, and more follow
  after_space : (cs : List ℕ) (q : Progress A) → after_words (after_word q) cs ≡ after_words q (32 ∷ cs)
  after_space cs q = grind (arith, extended_twice, append_assoc)

  after_none : (q : Progress A) → q.mode ≡ Normal → after_word q ≡ after_words q []
  after_none q e = grind (arith, append-nil)

  words_entered : (inside : Bool) (cs : List ℕ) (q : Progress A) → fold (reads columns) (Some inside) cs ≡ Some true →
      IsReading inside q → q.laid.width + (pending_width q.space + (items_width columns q.word + length cs)) ≤ width →
      fold (enter columns width) q (text_entries (cs ++ 32 ∷ []) a b Normal) ≡ after_words q cs
  words_entered true [] q read h fits = word_ended q h.0 (omega (arith, fits)) ∙ after_none q h.2
  words_entered false [] q read h fits = cc
  words_entered inside (c ∷ cs) q read h fits =
      let t = tag_of q a b in
      elim (next_read columns inside c cs true read) [
        | space e i k ↦
            let is = subst (λ w. IsReading w q) i h in
            rw (e, word_ended q is.0 (omega (arith, fits))) (words_entered false cs (after_word q) k refl (omega (arith, fits)) ∙ after_space cs q)
        | narrow n k ↦
            let r : Progress A = join c t Normal q in
            let joins : enter columns width q (character c a b Normal) ≡ r = normal_kept columns width c t q 1 (graphic_joins c n.graphic) n.one in
            let wide : items_width columns r.word ≡ items_width columns q.word + 1 = omega (arith, items_width-append columns q.word (glyph c t ∷ []), ap (λ o. unwrap_or o 0) n.one) in
            let some : has_character r.word ≡ true = has_character-append q.word (glyph c t ∷ []) ∙ or-true (has_character q.word) in
            rw (fold, joins) (words_entered true cs r k (omega (arith, wide), some, joined_mode inside q h) (omega (arith, fits, wide)) ∙ after_join c cs q n.one)
      ]

  -- the words go on the open line as one word does, and the last space waits
  pub words_laid : (cs : List ℕ) (p : Progress A) → fold (reads columns) (Some false) cs ≡ Some true →
      has_character p.word ≡ false →
      p.laid.width + (pending_width p.space + (items_width columns p.word + length cs)) ≤ width →
      fold (enter columns width) p (text_entries (cs ++ 32 ∷ []) a b Normal) ≡ collapse 32 (tag_of p a b) (lay_here columns (join_all cs (tag_of p a b) Normal p))
  words_laid cs p read none fits =
      let t = tag_of p a b in
      let some : 0 < length cs = some_read columns cs read in
      let joined : join_all cs t Normal p ≡ record p { word = p.word ++ text_items cs t; mode = Normal } =
      joined_text cs t Normal p some ∙ ap (λ m. record p { word = p.word ++ text_items cs t; mode = m }) (joined_mode false p none) in
      let q : Progress A = record p { word = p.word ++ text_items cs t; mode = Normal } in
      let wide : items_width columns q.word ≡ items_width columns p.word + length cs =
      items_width-append columns p.word (text_items cs t)
      ∙ ap (λ n. items_width columns p.word + n)
      (items_width-text columns cs t ∙ words_width columns one false cs true read) in
      words_entered false cs p read none fits
      ∙ sym
      (ap
      (λ n. record p {
        laid = extended p.laid (space_text p.space ++ q.word) (pending_width p.space + n);
        space =
            Some (record { width = 1; tag = t; mode = Normal });
        word = [];
        mode = Normal;
        continuation_flag = false;
      })
      wide)
      ∙ sym (collapsed q (omega (arith, wide, some)))
      ∙ ap (λ r. collapse 32 t (lay_here columns r)) (sym joined)

  -- ---- where the first of them doesn't fit

  abbrev afresh : Progress A → Progress A
  afresh q = record q { laid = end_if_character q.laid; space = None }

  abbrev DropsPending : Progress A → Type 0
  DropsPending q = (s : Space A) → q.space ≡ Some s → s.mode ≡ Normal

  dropped : (q : Progress A) → DropsPending q → wrap_space columns width q q.space ≡ record q { space = None }
  dropped q h = go q.space refl
    where
      go : (o : Option (Space A)) → q.space ≡ o → wrap_space columns width q o ≡ record q { space = None }
      go None e = ap (λ o. record q { space = o }) e
      go (Some s) e = ap (λ m. wrap_space_by columns width q s m) (h s e)

  -- a word that doesn't fit is laid as on a fresh line
  laid_afresh : (q : Progress A) → DropsPending q → IsReading true q → (end_if_character q.laid).width ≡ 0 →
      width < q.laid.width + (pending_width q.space + items_width columns q.word) → items_width columns q.word ≤ width →
      lay columns width q ≡ lay columns width (afresh q)
  laid_afresh q drops h blank wide fits = grind (arith, lt-leb, le-leb, put_fitting, dropped, lay_fresh_some)

  moved_end : (q : Progress A) → DropsPending q → IsReading true q → (end_if_character q.laid).width ≡ 0 →
      width < q.laid.width + (pending_width q.space + items_width columns q.word) → items_width columns q.word ≤ width →
      enter columns width q (character 32 a b Normal) ≡ enter columns width (afresh q) (character 32 a b Normal)
  moved_end q drops h blank wide fits = grind (arith, lt-ltb, normal_break, laid_afresh)

  -- no letters go on after a space
  no_more : (n : ℕ) (cs : List ℕ) → JoinWord columns false (take n (32 ∷ cs)) → n ≡ 0
  no_more zero cs h = refl
  no_more (suc n) cs h = let apart : joins columns false 32 ≡ false = rw one refl in absurd (let e : true ≡ false = sym h.0 ∙ apart in cc)

  more_letters : (n c : ℕ) (cs : List ℕ) → JoinWord columns false (take n (c ∷ cs)) → JoinWord columns false (take (n - 1) cs)
  more_letters zero c cs h = tt
  more_letters (suc n) c cs h = subst (λ k. JoinWord columns false (take k cs)) (omega arith) h.1

  -- words go on as from a fresh line, where more letters of the first one than fit are to come
  pub words_moved : (inside : Bool) (cs : List ℕ) (n : ℕ) (q : Progress A) →
      fold (reads columns) (Some inside) cs ≡ Some true → IsReading inside q → DropsPending q →
      (end_if_character q.laid).width ≡ 0 → JoinWord columns false (take n (cs ++ 32 ∷ [])) →
      width < q.laid.width + (pending_width q.space + (items_width columns q.word + n)) → items_width columns q.word + length cs ≤ width →
      fold (enter columns width) q (text_entries (cs ++ 32 ∷ []) a b Normal) ≡ fold (enter columns width) (afresh q) (text_entries (cs ++ 32 ∷ []) a b Normal)
  words_moved true [] n q read h drops blank letters wide fits = moved_end q drops h blank (omega (arith, wide, no_more n [] letters)) (omega (arith, fits))
  words_moved false [] n q read h drops blank letters wide fits = cc
  words_moved inside (c ∷ cs) n q read h drops blank letters wide fits =
      let t = tag_of q a b in
      elim (next_read columns inside c cs true read) [
        | space e i k ↦
            let none = no_more n (cs ++ 32 ∷ []) (subst (λ d. JoinWord columns false (take n (d ∷ cs ++ 32 ∷ []))) e letters) in
            let same = moved_end q drops (subst (λ w. IsReading w q) i h) blank (omega (arith, wide, none)) (omega (arith, fits)) in
            rw (e, same) refl
        | narrow m k ↦
            let r : Progress A = join c t Normal q in
            let joins_word : enter columns width q (character c a b Normal) ≡ r = normal_kept columns width c t q 1 (graphic_joins c m.graphic) m.one in
            let joins_afresh : enter columns width (afresh q) (character c a b Normal) ≡ afresh r = normal_kept columns width c t (afresh q) 1 (graphic_joins c m.graphic) m.one in
            let more : items_width columns r.word ≡ items_width columns q.word + 1 = omega (arith, items_width-append columns q.word (glyph c t ∷ []), ap (λ o. unwrap_or o 0) m.one) in
            let some : has_character r.word ≡ true = has_character-append q.word (glyph c t ∷ []) ∙ or-true (has_character q.word) in
            rw (fold, joins_word, joins_afresh)
            (words_moved true cs (n - 1) r k (omega (arith, more), some, joined_mode inside q h) drops blank (more_letters n c (cs ++ 32 ∷ []) letters)
            (omega (arith, wide, more)) (omega (arith, fits, more)))
      ]
