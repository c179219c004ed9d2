-- What the rule does with a printable character.
use Rattle.tbr_model.proofs.Common.{◌≡◌, ◌≢◌, ℕ, ◌≤◌, false, if◌then◌else◌, Option, Some, refl, ap, arith, ne_eqb, is_whitespace, WhiteSpace, Normal, Pre, PreWrap, character, is_blank, is_break}
use Rattle.tbr_model.proofs.Common.{Progress, break_word, tag_of, keep_space, keep_character, preserve, enter, IsPrintable}
use Rattle.std.proofs.lemmas.Bool.Decides.{nat_tests}
use Rattle.std.proofs.lemmas.Grind.{common_steps}

pub whitespace_not : (c : ℕ) → 33 ≤ c → c ≤ 126 → is_whitespace c ≡ false
whitespace_not c h k = grind (arith, nat_tests, common_steps)

pub break_not : (c : ℕ) → 33 ≤ c → c ≤ 126 → is_break c ≡ false
break_not c h k = grind (arith, nat_tests, common_steps)

pub blank_not : (c : ℕ) → 33 ≤ c → c ≤ 126 → is_blank c ≡ false
blank_not c h k = grind (arith, nat_tests, common_steps)

-- printable, and no space
pub record IsVisible (columns : ℕ → Option ℕ) (c : ℕ) : Type 0 where
  pub from : 33 ≤ c
  pub to : c ≤ 126
  pub one : columns c ≡ Some 1

pub visible_of : (columns : ℕ → Option ℕ) (c : ℕ) → IsPrintable columns c → c ≢ 32 → IsVisible columns c
visible_of columns c h other = record { from = omega (arith, other, h.0); to = h.1; one = h.2 }

-- in `PreWrap` a break point first breaks the word
abbrev pub prepared : {A : Type 0} → (ℕ → Option ℕ) → ℕ → ℕ → WhiteSpace → Progress A → Progress A
prepared columns width c Normal p = p
prepared columns width c Pre p = p
prepared columns width c PreWrap p = if is_break c then break_word columns width p else p

pub entered : {A : Type 0} (columns : ℕ → Option ℕ) (width c : ℕ) (a b : A) (mode : WhiteSpace) (p : Progress A) → mode ≢ Normal →
    enter columns width p (character c a b mode) ≡ preserve columns width c a b mode (prepared columns width c mode p)
entered columns width c a b Normal p h = absurd (h refl)
entered columns width c a b Pre p h = refl
entered columns width c a b PreWrap p h = refl

pub preserved_space : {A : Type 0} (columns : ℕ → Option ℕ) (width : ℕ) (a b : A) (mode : WhiteSpace) (p : Progress A) → columns 32 ≡ Some 1 →
    preserve columns width 32 a b mode p ≡ keep_space 32 (tag_of p a b) mode (Some 1) p
preserved_space columns width a b mode p one = ap (λ o. keep_space 32 (tag_of p a b) mode o p) one

pub preserved_visible : {A : Type 0} (columns : ℕ → Option ℕ) (width c : ℕ) (a b : A) (mode : WhiteSpace) (p : Progress A) → IsVisible columns c →
    preserve columns width c a b mode p ≡ keep_character columns width c a b mode (Some 1) p
preserved_visible columns width c a b mode p h = grind (arith, ne_eqb, blank_not)

pub entered_visible : {A : Type 0} (columns : ℕ → Option ℕ) (width c : ℕ) (a b : A) (mode : WhiteSpace) (p : Progress A) → mode ≢ Normal → IsVisible columns c →
    enter columns width p (character c a b mode) ≡ keep_character columns width c a b mode (Some 1) p
entered_visible columns width c a b Normal p kept h = absurd (kept refl)
entered_visible columns width c a b Pre p kept h = preserved_visible columns width c a b Pre p h
entered_visible columns width c a b PreWrap p kept h = rw (break_not c h.from h.to) (preserved_visible columns width c a b PreWrap p h)
