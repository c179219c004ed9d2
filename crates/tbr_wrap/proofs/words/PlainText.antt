-- Characters at which no word ends join the word, one after the other.
use Rattle.tbr_wrap.proofs.Common.{◌≡◌, ◌≢◌, ℕ, ◌+◌, ◌<◌, ◌≤◌, ◌==◌, Bool, true, false, not, ◌&&◌, ◌||◌, if◌then◌else◌, Option, None, Some, is_some, unwrap_or, List, [], ◌∷◌, ◌++◌, fold, length, refl}
use Rattle.tbr_wrap.proofs.Common.{ap, sym, ◌∙◌, subst, arith, append_assoc, le-ltb, is_whitespace, IsAscii, and_left, and_right, and_parts, nat_tests, IsAscii-nil, IsAscii-cons, or-true, WhiteSpace}
use Rattle.tbr_wrap.proofs.Common.{Normal, Pre, PreWrap, glyph, character, has_character, items_width, is_break, is_kept, always_takes_space, Progress, enter, is_pre, join, tag_of, pending_width}
use Rattle.tbr_wrap.proofs.Common.{keep_character, width_of_text, has_character-append, items_width-append, text_items, is_narrow, ArePlain, joins, JoinWord, JoinInTurn, text_entries, join_all}
use Rattle.std.specs.Char.{is_ascii_graphic}
use Rattle.std.proofs.Math.Bool.{and-true}
use Rattle.tbr_wrap.specs.Plain.{is_plain}
use Rattle.tbr_wrap.proofs.words.ModeCases.{normal_kept, preserve_kept, preserve_space, keep_joins}

-- ---- what is plain

pub graphic_low : (c : ℕ) → is_ascii_graphic c ≡ true → (32 < c) × (c < 127)
graphic_low c h = (grind (arith, nat_tests), grind (arith, nat_tests))

pub graphic_joins : (c : ℕ) → is_ascii_graphic c ≡ true → is_break c ≡ false
graphic_joins c h = grind (arith, nat_tests)

-- what is known of a narrow character
pub record Narrow (columns : ℕ → Option ℕ) (c : ℕ) : Type 0 where
  pub graphic : is_ascii_graphic c ≡ true
  pub one : columns c ≡ Some 1

pub narrow_parts : (columns : ℕ → Option ℕ) (c : ℕ) → is_narrow columns c ≡ true → Narrow columns c
narrow_parts columns c h = go (is_ascii_graphic c) (columns c) refl refl h
  where
    go : (g : Bool) (o : Option ℕ) → is_ascii_graphic c ≡ g → columns c ≡ o → (unwrap_or (if g then o else None) 0 == 1) ≡ true → Narrow columns c
    go true (Some n) e f h = record { graphic = e; one = f ∙ ap Some (grind (arith, nat_tests)) }
    go true None e f h = cc
    go false o e f h = cc

plain_character : (columns : ℕ → Option ℕ) (spaced : Bool) (c : ℕ) → columns 32 ≡ Some 1 → is_plain columns spaced c ≡ true → (c < 128) × (joins columns spaced c ≡ true) × (columns c ≡ Some 1)
plain_character columns spaced c one h = go (is_narrow columns c) (spaced && c == 32) refl refl h
  where
    go : (n s : Bool) → is_narrow columns c ≡ n → (spaced && c == 32) ≡ s → (n || s) ≡ true → (c < 128) × (joins columns spaced c ≡ true) × (columns c ≡ Some 1)
    go true s e f h =
        let n = narrow_parts columns c e in (
          omega (arith, (graphic_low c n.graphic).1),
          ap (λ o. (is_some o && not (is_break c)) || (spaced && c == 32)) n.one ∙ ap (λ t. not t || (spaced && c == 32)) (graphic_joins c n.graphic),
          n.one,
        )
    go false true e f h =
        let is : c ≡ 32 = grind (arith, nat_tests, (and_parts spaced (c == 32) f).1) in
        (omega (arith, is), ap (λ s. is_kept columns c || s) f ∙ or-true (is_kept columns c), ap columns is ∙ one)
    go false false e f h = cc

-- what is known of plain characters
pub record Plain (columns : ℕ → Option ℕ) (spaced : Bool) (cs : List ℕ) : Type 0 where
  pub ascii : IsAscii cs
  pub join : JoinWord columns spaced cs
  pub width : width_of_text columns cs ≡ length cs

pub plain_parts : (columns : ℕ → Option ℕ) (spaced : Bool) (cs : List ℕ) → columns 32 ≡ Some 1 → ArePlain columns spaced cs → Plain columns spaced cs
plain_parts columns spaced [] one h = record { ascii = IsAscii-nil; join = tt; width = refl }
plain_parts columns spaced (c ∷ cs) one h =
    let first = plain_character columns spaced c one h.0 in let k = plain_parts columns spaced cs one h.1 in
    record {
      ascii = IsAscii-cons c cs first.0 k.ascii;
      join = (first.1, k.join);
      width = omega (arith, ap (λ o. unwrap_or o 0) first.2, k.width);
    }

-- inside a word, spaces join from the first character on
inside : (columns : ℕ → Option ℕ) (keeps some : Bool) (cs : List ℕ) → some ≡ true → JoinWord columns keeps cs → JoinInTurn columns keeps some cs
inside columns keeps some [] e h = tt
inside columns keeps some (c ∷ cs) e h = (subst (λ s. joins columns s c ≡ true) (sym (and-true keeps) ∙ ap (λ b. keeps && b) (sym e)) h.0, h.1)

-- ---- what the rule does with them

-- a character at which no word ends, of a width, or the space
data Joining (columns : ℕ → Option ℕ) (spaced : Bool) (c : ℕ) : Type 0 where
  kept : (n : ℕ) → columns c ≡ Some n → is_break c ≡ false → Joining columns spaced c
  space : spaced ≡ true → c ≡ 32 → Joining columns spaced c

joining : (columns : ℕ → Option ℕ) (spaced : Bool) (c : ℕ) → joins columns spaced c ≡ true → Joining columns spaced c
joining columns spaced c h = go (columns c) (is_break c) (spaced && c == 32) refl refl refl h
  where
    spaces : (spaced && c == 32) ≡ true → Joining columns spaced c
    spaces e = let k = and_parts spaced (c == 32) e in space k.0 (grind (arith, nat_tests, k.1))

    go : (o : Option ℕ) (b s : Bool) → columns c ≡ o → is_break c ≡ b → (spaced && c == 32) ≡ s → ((is_some o && not b) || s) ≡ true → Joining columns spaced c
    go (Some n) false s e f g h = kept n e f
    go (Some n) true s e f g h = spaces (g ∙ h)
    go None b s e f g h = spaces (g ∙ h)

takes_space : (z w n : Bool) → (z || (w && not n)) ≡ false → (not w || n) ≡ true
takes_space false true true e = refl
takes_space false false n e = refl
takes_space _ _ _ e = cc

kept_takes : (c : ℕ) → is_break c ≡ false → always_takes_space c ≡ true
kept_takes c h = takes_space (c == 8203) (is_whitespace c) (c == 160) h

-- a break point is none of these
no_break : (c d : ℕ) → is_break c ≡ false → is_break d ≡ true → c ≢ d
no_break c d e f is = let g : is_break c ≡ is_break d = ap is_break is in cc

-- Columns more change no tag: no continuation begins there, or it has begun, for this call and the next.
pub data StaysUnder {A : Type 0} (width : ℕ) (columns : ℕ → Option ℕ) (mode : WhiteSpace) (n : ℕ) (p : Progress A) : Type 0 where
  elsewhere : is_pre mode ≡ false → StaysUnder width columns mode n p
  fits : p.laid.width + (pending_width p.space + (items_width columns p.word + n)) ≤ width → StaysUnder width columns mode n p
  goes_on : p.continuation_flag ≡ true → p.in_continuation ≡ true → StaysUnder width columns mode n p

-- the first of them, and the rest
stays_first : {A : Type 0} (width : ℕ) (columns : ℕ → Option ℕ) (mode : WhiteSpace) (m n : ℕ) (p : Progress A) → m ≤ n → StaysUnder width columns mode n p → StaysUnder width columns mode m p
stays_first width columns mode m n p less h = grind arith

stays_after : {A : Type 0} (width : ℕ) (columns : ℕ → Option ℕ) (mode : WhiteSpace) (c n : ℕ) (a : A) (p : Progress A) →
    StaysUnder width columns mode (unwrap_or (columns c) 0 + n) p → StaysUnder width columns mode n (join c a mode p)
stays_after width columns mode c n a p h = grind (arith, items_width-append)

module _ {A : Type 0} (columns : ℕ → Option ℕ) (width : ℕ) (a b : A) (mode : WhiteSpace) where
  -- where the continuation goes on, it begins anew without a change
  begun : (c : ℕ) (t : Bool) (p : Progress A) → p.continuation_flag ≡ true → p.in_continuation ≡ true →
      (if t then join c b mode (record p { continuation_flag = true; in_continuation = true }) else join c (tag_of p a b) mode p) ≡ join c (tag_of p a b) mode p
  begun c true p e f = λ i. join c (if sym f i then b else a) mode (record p { continuation_flag = sym e i; in_continuation = sym f i })
  begun c false p e f = refl

  keeps_tag : (c n : ℕ) (p : Progress A) → StaysUnder width columns mode n p → keep_character columns width c a b mode (Some n) p ≡ join c (tag_of p a b) mode p
  keeps_tag c n p h = grind (arith, and_left, and_right, le-ltb, begun)

module _ {A : Type 0} (columns : ℕ → Option ℕ) (width : ℕ) (a b : A) where
  kept_entered : (mode : WhiteSpace) (c n : ℕ) (p : Progress A) → columns c ≡ Some n → is_break c ≡ false →
      StaysUnder width columns mode n p → enter columns width p (character c a b mode) ≡ join c (tag_of p a b) mode p
  kept_entered Normal c n p has_width is h = normal_kept columns width c (tag_of p a b) p n is has_width
  kept_entered Pre c n p has_width is h =
      preserve_kept columns width c a b Pre p (no_break c 8203 is refl) (no_break c 10 is refl) (no_break c 9 is refl) n
      (kept_takes c is) has_width ∙ keeps_tag columns width a b Pre c n p h
  kept_entered PreWrap c n p has_width is h =
      rw is
      (preserve_kept columns width c a b PreWrap p (no_break c 8203 is refl) (no_break c 10 is refl)
      (no_break c 9 is refl) n (kept_takes c is) has_width ∙ keeps_tag columns width a b PreWrap c n p h)

  -- after a character of the word
  space_entered : (mode : WhiteSpace) (p : Progress A) → columns 32 ≡ Some 1 → is_pre mode ≡ true →
      has_character p.word ≡ true → enter columns width p (character 32 a b mode) ≡ join 32 (tag_of p a b) mode p
  space_entered Pre p one is some =
      preserve_space columns width 32 a b Pre p (λ e. omega (arith, e)) (λ e. omega (arith, e)) (λ e. omega (arith, e)) 1 refl one ∙ keep_joins 32 (tag_of p a b) Pre 1 p some
  space_entered _ p one is some = cc

  module _ (mode : WhiteSpace) (one : columns 32 ≡ Some 1) where
    joins_entered : (c : ℕ) (p : Progress A) → joins columns (is_pre mode && has_character p.word) c ≡ true →
        StaysUnder width columns mode (unwrap_or (columns c) 0) p →
        enter columns width p (character c a b mode) ≡ join c (tag_of p a b) mode p
    joins_entered c p h stays =
        elim (joining columns (is_pre mode && has_character p.word) c h) [
          | kept n has_width is ↦ kept_entered mode c n p has_width is (subst (λ o. StaysUnder width columns mode (unwrap_or o 0) p) has_width stays)
          | space e is ↦ let k =
              and_parts (is_pre mode) (has_character p.word) e in ap (λ d. enter columns width p (character d a b mode)) is
              ∙ space_entered mode p one k.0 k.1 ∙ ap (λ d. join d (tag_of p a b) mode p) (sym is)
        ]

    pub all_join : (cs : List ℕ) (p : Progress A) → JoinInTurn columns (is_pre mode) (has_character p.word) cs →
        StaysUnder width columns mode (width_of_text columns cs) p →
        fold (enter columns width) p (text_entries cs a b mode) ≡ join_all cs (tag_of p a b) mode p
    all_join [] p h stays = refl
    all_join (c ∷ cs) p h stays =
        let t = tag_of p a b in let q : Progress A = join c t mode p in
        let some : has_character q.word ≡ true = has_character-append p.word (glyph c t ∷ []) ∙ or-true (has_character p.word) in
        rw (fold, joins_entered c p h.0 (stays_first width columns mode _ _ p (omega arith) stays))
        (all_join cs q (inside columns (is_pre mode) (has_character q.word) cs some h.1) (stays_after width columns mode c (width_of_text columns cs) t p stays))

-- all of them at once
joined_all : {A : Type 0} (c : ℕ) (cs : List ℕ) (a : A) (mode : WhiteSpace) (p : Progress A) →
    join_all (c ∷ cs) a mode p ≡ record p { word = p.word ++ text_items (c ∷ cs) a; mode = if has_character p.word then p.mode else mode }
joined_all c [] a mode p = refl
joined_all {A} c (d ∷ cs) a mode p =
    let q : Progress A = join c a mode p in
    let some : has_character q.word ≡ true = has_character-append p.word (glyph c a ∷ []) ∙ or-true (has_character p.word) in
    rw (joined_all d cs a mode q, some, append_assoc) refl

pub joined_text : {A : Type 0} (cs : List ℕ) (a : A) (mode : WhiteSpace) (p : Progress A) → 0 < length cs →
    join_all cs a mode p ≡ record p { word = p.word ++ text_items cs a; mode = if has_character p.word then p.mode else mode }
joined_text [] a mode p some = absurd (omega (arith, some))
joined_text (c ∷ cs) a mode p some = joined_all c cs a mode p
