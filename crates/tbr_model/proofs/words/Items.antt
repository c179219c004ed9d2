-- Characters and columns of items, one after another, and of space that waits.
use Rattle.tbr_model.proofs.Common.{◌≡◌, ℕ, zero, suc, ◌+◌, ◌<◌, true, false, not, ◌||◌, is_some, Option, Some, None, List, [], ◌∷◌, ◌++◌, map, length, replicate, refl, ap, ◌∙◌, arith, Each}
use Rattle.tbr_model.proofs.Common.{and_right, or_right, not_from_true, map-append, WhiteSpace, Item, glyph, marker, items_width, has_character, is_kept, is_break, Space, spaces, pending_width}
use Rattle.tbr_model.proofs.Common.{space_text, space_of, glyphs_of, letters_of}

-- ---- items after items

pub items_width-append : {A : Type 0} (columns : ℕ → Option ℕ) (a b : List (Item A)) → items_width columns (a ++ b) ≡ items_width columns a + items_width columns b
items_width-append columns [] b = omega arith
items_width-append columns (i ∷ a) b = omega (arith, items_width-append columns a b)

pub has_character-append : {A : Type 0} (a b : List (Item A)) → has_character (a ++ b) ≡ has_character a || has_character b
has_character-append [] b = refl
has_character-append (glyph c x ∷ a) b = refl
has_character-append (marker m ∷ a) b = has_character-append a b

-- a character at the end
pub back_has : {A : Type 0} (a b : List (Item A)) → has_character b ≡ true → has_character (a ++ b) ≡ true
back_has a b h = has_character-append a b ∙ or_right (has_character a) (has_character b) h

pub glyphs_of-append : {A : Type 0} (a b : List (Item A)) → glyphs_of (a ++ b) ≡ glyphs_of a ++ glyphs_of b
glyphs_of-append [] b = refl
glyphs_of-append {A} (glyph c x ∷ a) b = ap (λ (gs : List (ℕ × A)). (c, x) ∷ gs) (glyphs_of-append a b)
glyphs_of-append (marker m ∷ a) b = glyphs_of-append a b

pub letters_of-append : {A : Type 0} (a b : List (Item A)) → letters_of (a ++ b) ≡ letters_of a ++ letters_of b
letters_of-append a b = ap (map (λ g. g.0)) (glyphs_of-append a b) ∙ map-append (λ g. g.0) (glyphs_of a) (glyphs_of b)

-- ---- items with a character, and items without one

pub no_character_no_width : {A : Type 0} (columns : ℕ → Option ℕ) (is : List (Item A)) → has_character is ≡ false → items_width columns is ≡ 0
no_character_no_width columns [] h = refl
no_character_no_width columns (glyph c a ∷ is) h = cc
no_character_no_width columns (marker m ∷ is) h = omega (arith, no_character_no_width columns is h)

pub no_glyphs : {A : Type 0} (is : List (Item A)) → has_character is ≡ false → glyphs_of is ≡ []
no_glyphs [] h = refl
no_glyphs (glyph c a ∷ is) h = cc
no_glyphs (marker m ∷ is) h = no_glyphs is h

pub no_letters : {A : Type 0} (is : List (Item A)) → has_character is ≡ false → letters_of is ≡ []
no_letters is h = ap (map (λ g. g.0)) (no_glyphs is h)

pub some_letters : {A : Type 0} (is : List (Item A)) → has_character is ≡ true → 0 < length (letters_of is)
some_letters [] h = cc
some_letters (glyph c a ∷ is) h = omega arith
some_letters (marker m ∷ is) h = some_letters is h

pub has_letters : {A : Type 0} (is : List (Item A)) → 0 < length (letters_of is) → has_character is ≡ true
has_letters [] h = absurd (omega arith)
has_letters (glyph c a ∷ is) h = refl
has_letters (marker m ∷ is) h = has_letters is h

-- what holds of each marker holds of each such item
pub each_marker : {A : Type 0} (P : Item A → Type 0) → ((name : List ℕ) → P (marker name)) → (is : List (Item A)) → has_character is ≡ false → Each P is
each_marker P mark [] h = tt
each_marker P mark (glyph c a ∷ is) h = cc
each_marker P mark (marker name ∷ is) h = (mark name, each_marker P mark is h)

-- a break point isn't kept
pub break_lost : (columns : ℕ → Option ℕ) (c : ℕ) → is_break c ≡ true → is_kept columns c ≡ false
break_lost columns c h = and_right (is_some (columns c)) (not (is_break c)) (not_from_true (is_break c) h)

-- ---- space that waits

-- no space waits, or one of the mode
abbrev pub WaitsIn : {A : Type 0} → WhiteSpace → Option (Space A) → Type 0
WaitsIn mode None = Unit {0}
WaitsIn mode (Some s) = s.mode ≡ mode

pub letters_of-spaces : {A : Type 0} (n : ℕ) (a : A) → letters_of (spaces n a) ≡ replicate n 32
letters_of-spaces zero a = refl
letters_of-spaces (suc n) a = ap (λ cs. 32 ∷ cs) (letters_of-spaces n a)

pub letters_of-space_text : {A : Type 0} (o : Option (Space A)) → letters_of (space_text o) ≡ replicate (pending_width o) 32
letters_of-space_text None = refl
letters_of-space_text (Some s) = letters_of-spaces s.width s.tag

pub pending_width-of : {A : Type 0} (n : ℕ) (a : A) (mode : WhiteSpace) → pending_width (space_of n a mode) ≡ n
pending_width-of zero a mode = refl
pending_width-of (suc n) a mode = refl
