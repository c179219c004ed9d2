-- The block is where the rule is.
use Rattle.tbr_wrap.proofs.Common.{rules, ◌≡◌, nat_le, ℕ, ◌+◌, ◌<◌, ◌≤◌, Bool, true, false, Option, None, Some, List, [], ◌∷◌, refl, sym, ◌∙◌, subst, arith, Result, Ok, Err, OnOk, le-leb, inl, inr}
use Rattle.tbr_wrap.proofs.Common.{cases_lt, Normal, Item, items_width, item_width, has_character, Laid, extended, end_if_character, put_items, IsNarrow, extended_twice, Space, Progress}
use Rattle.tbr_wrap.proofs.Common.{pending_width, put_pending, is_pre, SameItems, HoldsRule, IsAtProgress, SameSpace, held_width, LaidLines, Wrapper, HeldSpace}
use Rattle.tbr_model.proofs.rule.Walk.{extended_nothing}
use Rattle.tbr_model.specs.Rule.{lay_fresh}
use Rattle.tbr_wrap.specs.Wrapper.{DropsSpace}
use Rattle.tbr_tagged.proofs.SameItems.{same_width_one}

pub on_ok_both : {T E : Type 0} (r : Result T E) (P Q : Type 0) → OnOk r P → OnOk r Q → OnOk r (P × Q)
on_ok_both (Ok x) P Q p q = (p, q)
on_ok_both (Err e) P Q p q = tt

pub same_held_width : {A : Type 0} (eq : A → A → Bool) (held : Option (HeldSpace A)) (o : Option (Space A)) → SameSpace eq held o → held_width held ≡ pending_width o
same_held_width eq None None h = refl
same_held_width eq (Some s) (Some t) h = h.0
same_held_width eq _ _ h = absurd h

-- a word that fits is put as it is
pub put_fitting : {A : Type 0} (columns : ℕ → Option ℕ) (width : ℕ) (l : Laid A) (is : List (Item A)) →
    l.width + items_width columns is ≤ width → put_items columns width l is ≡ extended l is (items_width columns is)
put_fitting columns width l [] h = sym (extended_nothing l)
put_fitting columns width l (i ∷ is) h =
    let test : nat_le (l.width + item_width columns i) width ≡ true = le-leb _ _ (omega (arith, h)) in
    rw test (put_fitting columns width (extended l (i ∷ []) (item_width columns i)) is (omega (arith, h)) ∙ extended_twice l (i ∷ []) is (item_width columns i) (items_width columns is) _ refl)

-- more on the lines, and the word as it was
pub stands_laid : {A : Type 0} (columns : ℕ → Option ℕ) (eq : A → A → Bool) (b : Wrapper A) (lines : LaidLines A)
    (before given : List (List (Item A))) (p : Progress A) (r : Laid A) → IsAtProgress columns eq b before given p →
    HoldsRule columns eq lines before given r →
    SameItems eq lines.flat.word p.word → IsAtProgress columns eq (record b { lines = lines }) before given (record p { laid = r })
stands_laid columns eq b lines before given p r s lays word = search rules

-- what is pending, by what is held
pub held_some : {A : Type 0} (eq : A → A → Bool) (o : Option (HeldSpace A)) (held : HeldSpace A)
    (space : Option (Space A)) → o ≡ Some held → SameSpace eq o space →
    (s : Space A) × (space ≡ Some s) × (held.width ≡ s.width) × (eq held.tag s.tag ≡ true) × (held.mode ≡ s.mode)
held_some eq o held None e h = absurd (subst (λ x. SameSpace eq x None) e h)
held_some eq o held (Some s) e h = let k = subst (λ x. SameSpace eq x (Some s)) e h in (s, refl, k.0, k.1, k.2)

-- what is pending is dropped, if what is held is
pub drops_pending : {A : Type 0} (eq : A → A → Bool) (held : Option (HeldSpace A)) (o : Option (Space A)) → SameSpace eq held o → DropsSpace held → (s : Space A) → o ≡ Some s → s.mode ≡ Normal
drops_pending eq None o same drops s e = absurd (subst (SameSpace eq None) e same)
drops_pending eq (Some h) o same drops s e = let k = subst (SameSpace eq (Some h)) e same in sym k.2 ∙ drops h refl

-- where other space is pending
pub spaced_stands : {A : Type 0} (columns : ℕ → Option ℕ) (eq : A → A → Bool) (b : Wrapper A)
    (held : Option (HeldSpace A)) (before given : List (List (Item A))) (p : Progress A) (o : Option (Space A)) →
    IsAtProgress columns eq b before given p → SameSpace eq held o →
    IsAtProgress columns eq (record b { space = held }) before given (record p { space = o })
spaced_stands columns eq b held before given p o s space = search rules

-- a word with as narrow characters
pub same_narrow : {A : Type 0} (columns : ℕ → Option ℕ) (eq : A → A → Bool) (width : ℕ) (is js : List (Item A)) → SameItems eq is js → IsNarrow columns width js → IsNarrow columns width is
same_narrow columns eq width [] js same h = tt
same_narrow columns eq width (i ∷ is) [] same h = absurd same
same_narrow columns eq width (i ∷ is) (j ∷ js) same h = (omega (arith, h.0, same_width_one columns eq i j same.0), same_narrow columns eq width is js same.1 h.1)

-- a word that has a character is put after what is pending
pub lay_fresh_some : {A : Type 0} (columns : ℕ → Option ℕ) (width : ℕ) (p : Progress A) → has_character p.word ≡ true →
    lay_fresh columns width p ≡ record p { laid = put_items columns width (put_pending width p.space (end_if_character p.laid)) p.word; space = None; word = []; continuation_flag = is_pre p.mode }
lay_fresh_some columns width p e = rw e refl

-- and one that has lost its characters stays
pub lay_fresh_none : {A : Type 0} (columns : ℕ → Option ℕ) (width : ℕ) (p : Progress A) → has_character p.word ≡ false →
    lay_fresh columns width p ≡ record p { laid = put_pending width p.space (end_if_character p.laid); space = None; continuation_flag = is_pre p.mode }
lay_fresh_none columns width p e = rw e refl

-- where the flag for the next call changes
pub flagged_stands : {A : Type 0} (columns : ℕ → Option ℕ) (eq : A → A → Bool) (b : Wrapper A) (flag : Bool)
    (before given : List (List (Item A))) (p : Progress A) (x : Bool) → IsAtProgress columns eq b before given p →
    flag ≡ x →
    IsAtProgress columns eq (record b { continuation_flag = flag }) before given (record p { continuation_flag = x })
flagged_stands columns eq b flag before given p x s is = search rules

pub no_room : (m n : ℕ) → (m ≤ n → ⊥) → n < m
no_room m n h = elim (cases_lt n m) [ inl less ↦ less | inr most ↦ absurd (h most) ]
