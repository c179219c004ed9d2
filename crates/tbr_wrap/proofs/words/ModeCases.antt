-- What the rule does with a character, by tests that the code makes.
use Rattle.tbr_wrap.proofs.Common.{◌≡◌, ◌≢◌, nat_lt, ◌&&◌, ◌||◌, not, ◌==◌, ℕ, zero, suc, ◌+◌, ◌<◌, Bool, true, false, if◌then◌else◌, Option, None, Some, is_none, is_some, List, refl, ap, ◌∙◌, arith}
use Rattle.tbr_wrap.proofs.Common.{Result, Ok, Err, OnOk, le-ltb, ne_eqb, and_left, and_right, is_whitespace, WhiteSpace, Normal, Laid, Item, has_character, is_blank, is_break, always_takes_space}
use Rattle.tbr_wrap.proofs.Common.{Space, Progress, pending_width, tag_of, collapse, newline, tab, flush_word, break_word, keep_space, keep_character, enter_normal, join, SameItems, HoldsRule}
use Rattle.tbr_wrap.proofs.Common.{SameSpace, IsAtProgress, LaidLines, Wrapper, HeldSpace}
use Rattle.tbr_model.specs.Rule.{space_of, preserve}
use Rattle.tbr_wrap.proofs.words.WordsLaid.{stands_laid}

-- U+200B, white space that waits already, and an empty line: nothing is noted
pub collapse_zero : {A : Type 0} (c : ℕ) (a : A) (p : Progress A) → c ≡ 8203 → collapse c a p ≡ p
collapse_zero c a p e = rw e refl

pub collapse_pending : {A : Type 0} (c : ℕ) (a : A) (p : Progress A) → is_none p.space ≡ false → collapse c a p ≡ p
collapse_pending c a p e =
    let test : (is_blank c && (nat_lt 0 p.laid.width && is_none p.space)) ≡ false = and_right (is_blank c) _ (and_right (nat_lt 0 p.laid.width) _ e) in rw test refl

pub collapse_empty : {A : Type 0} (c : ℕ) (a : A) (p : Progress A) → p.laid.width ≡ 0 → collapse c a p ≡ p
collapse_empty c a p e = grind (arith, le-ltb, and_right, and_left)

pub same_some : {A : Type 0} (eq : A → A → Bool) (held : Option (HeldSpace A)) (o : Option (Space A)) → SameSpace eq held o → is_some held ≡ true → is_none o ≡ false
same_some eq None o h e = cc
same_some eq (Some s) (Some t) h e = refl
same_some eq (Some s) None h e = absurd h

-- ---- space that waits

pub some_space : {A : Type 0} (n : ℕ) (a : A) (mode : WhiteSpace) → 0 < n → space_of n a mode ≡ Some (record { width = n; tag = a; mode = mode })
some_space zero a mode some = absurd (omega (arith, some))
some_space (suc n) a mode some = refl

pub none_held : {A : Type 0} (eq : A → A → Bool) (n : ℕ) (a : A) (mode : WhiteSpace) → n ≡ 0 → SameSpace eq None (space_of n a mode)
none_held eq zero a mode e = tt
none_held eq (suc n) a mode e = absurd (omega (arith, e))

-- white space joins a word that has a character, and else waits
pub keep_joins : {A : Type 0} (c : ℕ) (a : A) (mode : WhiteSpace) (n : ℕ) (p : Progress A) → has_character p.word ≡ true → keep_space c a mode (Some n) p ≡ join c a mode p
keep_joins c a mode n p e = rw e refl

pub keep_waits : {A : Type 0} (c : ℕ) (a : A) (mode : WhiteSpace) (n : ℕ) (p : Progress A) →
    has_character p.word ≡ false →
    keep_space c a mode (Some n) p ≡ record p { space = space_of (pending_width p.space + n) a mode }
keep_waits c a mode n p e = rw e refl

-- ---- spaces of a tab

-- where they were put on the lines
pub stands_put : {A E : Type 0} (columns : ℕ → Option ℕ) (eq : A → A → Bool) (b : Wrapper A) (lines : LaidLines A)
    (before given : List (List (Item A))) (p : Progress A) (l : Laid A) (result : Result (Unit {0}) E) →
    IsAtProgress columns eq b before given p → OnOk result (HoldsRule columns eq lines before given l) →
    OnOk result (SameItems eq lines.flat.word p.word) → OnOk result (IsAtProgress columns eq (record b { lines = lines }) before given (record p { laid = l }))
stands_put columns eq b lines before given p l (Ok x) s lays word = stands_laid columns eq b lines before given p l s lays word
stands_put columns eq b lines before given p l (Err e) s lays word = tt

-- ---- the preserving modes, by character

blank_not : (x y : Bool) → (x && not y) ≡ not (not x || y)
blank_not true y = refl
blank_not false y = refl

pub blank_is : (c : ℕ) (b : Bool) → always_takes_space c ≡ b → is_blank c ≡ not b
blank_is c b e = blank_not (is_whitespace c) (c == 160) ∙ ap not e

module _ {A : Type 0} (columns : ℕ → Option ℕ) (width c : ℕ) (a b : A) (mode : WhiteSpace) (p : Progress A) where
  pub preserve_newline : c ≡ 10 → preserve columns width c a b mode p ≡ newline (flush_word columns width p)
  preserve_newline e = rw e refl

  pub preserve_tab : c ≡ 9 → preserve columns width c a b mode p ≡ tab width (tag_of p a b) (flush_word columns width p)
  preserve_tab e = rw e refl

  -- any other character but U+200B
  module _ (zero : c ≢ 8203) (line : c ≢ 10) (stop : c ≢ 9) where
    preserve_other : preserve columns width c a b mode p ≡ (if is_blank c then keep_space c (tag_of p a b) mode (columns c) p else keep_character columns width c a b mode (columns c) p)
    preserve_other = rw (ne_eqb _ _ zero, ne_eqb _ _ line, ne_eqb _ _ stop) refl

    by_width : (blank : Bool) (o : Option ℕ) → is_blank c ≡ blank → columns c ≡ o →
        preserve columns width c a b mode p ≡
        (if blank then keep_space c (tag_of p a b) mode o p else keep_character columns width c a b mode o p)
    by_width blank o e w = rw (preserve_other, e, w) refl

    pub preserve_space : (n : ℕ) → always_takes_space c ≡ false → columns c ≡ Some n → preserve columns width c a b mode p ≡ keep_space c (tag_of p a b) mode (Some n) p
    preserve_space n e w = by_width true (Some n) (blank_is c false e) w

    pub preserve_kept : (n : ℕ) → always_takes_space c ≡ true → columns c ≡ Some n → preserve columns width c a b mode p ≡ keep_character columns width c a b mode (Some n) p
    preserve_kept n e w = by_width false (Some n) (blank_is c true e) w

    pub preserve_none : columns c ≡ None → preserve columns width c a b mode p ≡ p
    preserve_none w = by_width (is_blank c) None refl w ∙ both (is_blank c)
      where
        both : (t : Bool) → (if t then keep_space c (tag_of p a b) mode None p else keep_character columns width c a b mode None p) ≡ p
        both true = refl
        both false = refl

-- ---- where white space collapses

module _ {A : Type 0} (columns : ℕ → Option ℕ) (width c : ℕ) (a : A) (p : Progress A) where
  pub normal_break : is_break c ≡ true → enter_normal columns width c a p ≡ collapse c a (break_word columns width p)
  normal_break e = rw e refl

  pub normal_kept : (n : ℕ) → is_break c ≡ false → columns c ≡ Some n → enter_normal columns width c a p ≡ join c a Normal p
  normal_kept n e w = rw (e, w) refl
