-- What a block has laid, as one text, and the characters of a text.
use Rattle.tbr_model.proofs.Common.{◌≡◌, ℕ, ◌+◌, nat_le, ◌==◌, false, Option, List, [], ◌∷◌, ◌++◌, map, filter, refl, ap, sym, ◌∙◌, append_assoc, append-nil, true, cond_both, filter-append}
use Rattle.tbr_model.proofs.Common.{is_space_item, without_trailing, Item, item_width, is_kept, has_character, joined, Laid, extended, end_line, end_if_character, end_if_columns, put_item, put_items}
use Rattle.tbr_model.proofs.Common.{letters_of}
use Rattle.tbr_model.proofs.words.Items.{letters_of-append, no_glyphs}
use Rattle.tbr_model.proofs.lists.Joined.{joined-append}

abbrev pub text : {A : Type 0} → Laid A → List (Item A)
text l = joined l.done ++ l.line

-- ---- each way to lay

pub text-extended : {A : Type 0} (l : Laid A) (is : List (Item A)) (n : ℕ) → text (extended l is n) ≡ text l ++ is
text-extended l is n = sym (append_assoc (joined l.done) l.line is)

pub joined-end_line : {A : Type 0} (l : Laid A) → joined (end_line l).done ≡ text l
joined-end_line l = joined-append l.done (l.line ∷ []) ∙ ap (λ is. joined l.done ++ is) (append-nil l.line)

pub text-end_line : {A : Type 0} (l : Laid A) → text (end_line l) ≡ text l
text-end_line l = append-nil (joined (end_line l).done) ∙ joined-end_line l

pub text-end_if_character : {A : Type 0} (l : Laid A) → text (end_if_character l) ≡ text l
text-end_if_character {A} l = cond_both (has_character l.line) _ _ (λ (m : Laid A). text m ≡ text l) (λ _. text-end_line l) (λ _. refl)

text-put_item : {A : Type 0} (columns : ℕ → Option ℕ) (width : ℕ) (l : Laid A) (i : Item A) → text (put_item columns width l i) ≡ text l ++ i ∷ []
text-put_item {A} columns width l i =
    cond_both (nat_le (l.width + item_width columns i) width) _ _ Holds (λ _. text-extended l (i ∷ []) (item_width columns i))
    (λ _. cond_both (nat_le (item_width columns i) width) _ _ Holds
    (λ _. text-extended (end_line l) (i ∷ []) (item_width columns i) ∙ ap (λ is. is ++ i ∷ []) (text-end_line l))
    (λ _. text-end_line (extended (end_if_columns l) (i ∷ []) (item_width columns i)) ∙ text-extended (end_if_columns l)
    (i ∷ []) (item_width columns i) ∙ ap (λ is. is ++ i ∷ [])
    (cond_both (l.width == 0) _ _ (λ (m : Laid A). text m ≡ text l) (λ _. refl) (λ _. text-end_line l))))
  where
    Holds : Laid A → Type 0
    Holds m = text m ≡ text l ++ i ∷ []

pub text-put_items : {A : Type 0} (columns : ℕ → Option ℕ) (width : ℕ) (is : List (Item A)) (l : Laid A) → text (put_items columns width l is) ≡ text l ++ is
text-put_items columns width [] l = sym (append-nil (text l))
text-put_items columns width (i ∷ is) l =
    text-put_items columns width is (put_item columns width l i) ∙ ap (λ js. js ++ is) (text-put_item columns width l i) ∙ append_assoc (text l) (i ∷ []) is

-- what the spaces at the end are taken from: an item stays in front, or is a space that nothing is left after
pub trailing_cases : {A : Type 0} (P : List (Item A) → List (Item A) → Type 0) → P [] [] →
    ((i : Item A) (is js : List (Item A)) → P is js → P (i ∷ is) (i ∷ js)) →
    ((i : Item A) (is : List (Item A)) → is_space_item i ≡ true → P is [] → P (i ∷ is) []) →
    (is : List (Item A)) → P is (without_trailing is)
trailing_cases P none more drops [] = none
trailing_cases {A} P none more drops (i ∷ is) = go (without_trailing is) refl (trailing_cases P none more drops is)
  where
    go : (js : List (Item A)) → without_trailing is ≡ js → P is js → P (i ∷ is) (without_trailing (i ∷ is))
    go [] e h = rw e (cond_both (is_space_item i) _ _ (P (i ∷ is)) (λ s. drops i is s h) (λ _. more i is [] h))
    go (j ∷ js) e h = rw e (more i is (j ∷ js) h)

-- ---- characters

-- the characters that are kept
abbrev pub kept_of : {A : Type 0} → (ℕ → Option ℕ) → List (Item A) → List ℕ
kept_of columns is = filter (is_kept columns) (letters_of is)

pub kept-append : {A : Type 0} (columns : ℕ → Option ℕ) (a b : List (Item A)) → kept_of columns (a ++ b) ≡ kept_of columns a ++ kept_of columns b
kept-append columns a b = ap (filter (is_kept columns)) (letters_of-append a b) ∙ filter-append (is_kept columns) (letters_of a) (letters_of b)

pub none_kept : {A : Type 0} (columns : ℕ → Option ℕ) (is : List (Item A)) → has_character is ≡ false → kept_of columns is ≡ []
none_kept columns is h = ap (λ gs. filter (is_kept columns) (map (λ g. g.0) gs)) (no_glyphs is h)
