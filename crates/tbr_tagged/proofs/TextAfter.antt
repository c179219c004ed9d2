-- Text after a line of pieces.
use Rattle.tbr_tagged.proofs.Common.{on_ok_weaker, ◌≡◌, ℕ, suc, ◌-◌, ◌<◌, Bool, true, false, Some, List, [], ◌∷◌, ◌++◌, map, length, get_or, set, replicate, encode_utf8, refl, ap, sym, ◌∙◌, arith}
use Rattle.tbr_tagged.proofs.Common.{append-nil, Result, slice_get, cond_both, IsAscii, IsUtf8, IsScalar, IsEquivalence, chars-append, chars-encodes, chars-IsAscii, Element, piece, marker_element}
use Rattle.tbr_tagged.proofs.Common.{SameElement, SameElements, with_text, extend_last, last_of, is_piece_under, push_text, push_element, HasText, AreParted, IsPartedFrom, IsMerged}
use Rattle.std.specs.Result.{OnOk}
use Rattle.std.proofs.Common.{option_map}
use Rattle.std.specs.Str.{chars}
use lib.Utf8.{encodes}

-- one more character at the end of a text
pub chars_one : (c : ℕ) → IsScalar c → chars (encode_utf8 c) ≡ c ∷ []
chars_one c h = rw append-nil at (chars-encodes (c ∷ []) (rw h refl))

pub chars_push : (bs : List ℕ) (c : ℕ) → IsUtf8 bs → IsScalar c → chars (bs ++ encode_utf8 c) ≡ chars bs ++ c ∷ []
chars_push bs c u h = chars-append bs (encode_utf8 c) u ∙ ap (λ cs. chars bs ++ cs) (chars_one c h)

pub spaces_ascii : (n : ℕ) → IsAscii (replicate n 32)
spaces_ascii (suc n) (suc i) = spaces_ascii n i
spaces_ascii _ _ = omega arith

pub chars_spaces : (bs : List ℕ) (n : ℕ) → IsUtf8 bs → chars (bs ++ replicate n 32) ≡ chars bs ++ replicate n 32
chars_spaces bs n u =
    chars-append bs (replicate n 32) u ∙ ap (λ cs. chars bs ++ cs) (chars-IsAscii (replicate n 32) (spaces_ascii n))

pub chars_none : (bs : List ℕ) → length bs ≡ 0 → chars bs ≡ []
unfolding chars
chars_none [] h = refl
chars_none (b ∷ bs) h = absurd (omega arith)

-- a text that isn't empty has a character
pub chars_some : (bs : List ℕ) → IsUtf8 bs → 0 < length bs → 0 < length (chars bs)
chars_some bs u some = go u.0 (sym u.1.1) (sym (ap chars (sym u.1.1))) (chars-encodes u.0 u.1.0)
  where
    go : (cs : List ℕ) → bs ≡ encodes cs → chars (encodes cs) ≡ chars bs → chars (encodes cs) ≡ cs → 0 < length (chars bs)
    go [] e f h = absurd (omega (arith, some, ap length e))
    go (c ∷ cs) e f h = omega (arith, ap length f, ap length h)

module _ {A : Type 0} (eq : A → A → Bool) (laws : IsEquivalence eq) where
  pub same_element : (e : Element A) → SameElement eq e e
  same_element (piece cs a) = (refl, laws.refl a)
  same_element (marker_element name) = refl

  pub same_elements : (es : List (Element A)) → SameElements eq es es
  same_elements [] = tt
  same_elements (e ∷ es) = (same_element e, same_elements es)

-- the last element of a list, as `last` gives it
pub last_of-map : {X : Type 0} {A : Type 0} (f : X → A) (xs : List X) → last_of (map f xs) ≡ option_map f (slice_get xs (length xs - 1))
last_of-map f (x ∷ y ∷ xs) = grind (arith, last_of-map f (y ∷ xs))
last_of-map f _ = refl

-- a write to the last element
extend-set : {X : Type 0} {A : Type 0} (f : X → Element A) (xs : List X) (ds : List ℕ) (d y : X) → 0 < length xs → f y ≡ with_text (f (get_or xs (length xs - 1) d)) ds →
    map f (set xs (length xs - 1) y) ≡ extend_last (map f xs) ds
extend-set f [] ds d y some h = absurd (omega arith)
extend-set f (x ∷ []) ds d y some h = ap (λ e. e ∷ []) h
extend-set f (x ∷ z ∷ xs) ds d y some h =
    let e : length (x ∷ z ∷ xs) - 1 ≡ suc (length (z ∷ xs) - 1) = omega arith in
    rw e (ap (λ es. f x ∷ es) (extend-set f (z ∷ xs) ds d y (omega arith) (rw e at h)))

-- a write to the last of n elements, where that succeeds
pub extended_at : {X A T E : Type 0} (r : Result T E) (f : X → Element A) (xs : List X) (n : ℕ) (ds : List ℕ) (d y : X) → n ≡ length xs → 0 < n → d ≡ get_or xs (n - 1) d →
    OnOk r (f y ≡ with_text (f d) ds) → OnOk r (map f (set xs (n - 1) y) ≡ extend_last (map f xs) ds)
extended_at r f xs n ds d y count some is =
    on_ok_weaker r (λ h. rw count (extend-set f xs ds d y (omega (arith, some)) (rw (is, count) at h)))

-- what pushing leaves where the last piece is under an equal tag
pub push_extends : {A : Type 0} (eq : A → A → Bool) (es : List (Element A)) (cs : List ℕ) (a : A) → 0 < length cs → is_piece_under eq (last_of es) a ≡ true → push_text eq es cs a ≡ extend_last es cs
push_extends eq es [] a text under = absurd (omega arith)
push_extends eq es (c ∷ cs) a text under = rw under refl

-- and where it doesn't
pub push_after : {A : Type 0} (eq : A → A → Bool) (es : List (Element A)) (cs : List ℕ) (a : A) → 0 < length cs →
    is_piece_under eq (last_of es) a ≡ false → push_text eq es cs a ≡ es ++ piece cs a ∷ []
push_after eq es [] a text under = absurd (omega arith)
push_after eq es (c ∷ cs) a text under = rw under refl

-- ---- pushing keeps pieces the longest stretches

pub more_text : {A : Type 0} (cs ds : List ℕ) (a : A) → HasText (piece cs a) → HasText (piece (cs ++ ds) a)
more_text [] ds a h = absurd h
more_text (c ∷ cs) ds a h = tt

with_text_has : {A : Type 0} (e : Element A) (ds : List ℕ) → HasText e → HasText (with_text e ds)
with_text_has (piece cs b) ds h = more_text cs ds b h
with_text_has (marker_element m) ds h = h

parted_with : {A : Type 0} (eq : A → A → Bool) (e f : Element A) (ds : List ℕ) → AreParted eq e f → AreParted eq e (with_text f ds)
parted_with eq (piece cs a) (piece bs b) ds h = h
parted_with eq (piece cs a) (marker_element m) ds h = h
parted_with eq (marker_element n) f ds h = h

parted_from_extended : {A : Type 0} (eq : A → A → Bool) (e : Element A) (es : List (Element A)) (ds : List ℕ) → IsPartedFrom eq e es → IsPartedFrom eq e (extend_last es ds)
parted_from_extended eq e [] ds h = h
parted_from_extended eq e (f ∷ []) ds h = parted_with eq e f ds h
parted_from_extended eq e (f ∷ g ∷ es) ds h = h

merged_extend : {A : Type 0} (eq : A → A → Bool) (es : List (Element A)) (ds : List ℕ) → IsMerged eq es → IsMerged eq (extend_last es ds)
merged_extend eq [] ds h = h
merged_extend eq (e ∷ []) ds h = (with_text_has e ds h.0, tt, tt)
merged_extend eq (e ∷ f ∷ es) ds h = (h.0, parted_from_extended eq e (f ∷ es) ds h.1, merged_extend eq (f ∷ es) ds h.2)

parted_last : {A : Type 0} (eq : A → A → Bool) (e : Element A) (cs : List ℕ) (a : A) → is_piece_under eq (Some e) a ≡ false → AreParted eq e (piece cs a)
parted_last eq (piece bs b) cs a h = h
parted_last eq (marker_element m) cs a h = tt

merged_new : {A : Type 0} (eq : A → A → Bool) (es : List (Element A)) (c : ℕ) (cs : List ℕ) (a : A) →
    is_piece_under eq (last_of es) a ≡ false → IsMerged eq es → IsMerged eq (es ++ piece (c ∷ cs) a ∷ [])
merged_new eq [] c cs a test h = (tt, tt, tt)
merged_new eq (e ∷ []) c cs a test h = (h.0, parted_last eq e (c ∷ cs) a test, (tt, tt, tt))
merged_new eq (e ∷ f ∷ es) c cs a test h = (h.0, h.1, merged_new eq (f ∷ es) c cs a test h.2)

pub merged_push : {A : Type 0} (eq : A → A → Bool) (es : List (Element A)) (cs : List ℕ) (a : A) → IsMerged eq es → IsMerged eq (push_text eq es cs a)
merged_push eq es [] a h = h
merged_push {A} eq es (c ∷ cs) a h = grind (arith, cond_both, merged_extend, merged_new)

merged_marker : {A : Type 0} (eq : A → A → Bool) (es : List (Element A)) (name : List ℕ) → IsMerged eq es → IsMerged eq (es ++ marker_element name ∷ [])
merged_marker eq [] name h = (tt, tt, tt)
merged_marker eq (piece cs a ∷ []) name h = (h.0, tt, (tt, tt, tt))
merged_marker eq (marker_element m ∷ []) name h = (h.0, tt, (tt, tt, tt))
merged_marker eq (e ∷ f ∷ es) name h = (h.0, h.1, merged_marker eq (f ∷ es) name h.2)

pub merged_element : {A : Type 0} (eq : A → A → Bool) (es : List (Element A)) (e : Element A) → IsMerged eq es → IsMerged eq (push_element eq es e)
merged_element eq es (piece cs a) h = merged_push eq es cs a h
merged_element eq es (marker_element name) h = merged_marker eq es name h

-- ---- and so do lines that are the same

same_text : {A : Type 0} (eq : A → A → Bool) (e f : Element A) → SameElement eq e f → HasText f → HasText e
same_text eq (piece [] a) (piece [] b) h k = k
same_text eq (piece [] a) (piece (d ∷ ds) b) h k = let no : [] ≡ d ∷ ds = h.0 in cc
same_text eq (piece (c ∷ cs) a) (piece ds b) h k = tt
same_text eq (marker_element m) (marker_element n) h k = tt
same_text eq _ _ h k = absurd h

not_true : (b : Bool) → ¬ (b ≡ true) → b ≡ false
not_true true h = absurd (h refl)
not_true false h = refl

module _ {A : Type 0} (eq : A → A → Bool) (laws : IsEquivalence eq) where
  same_parted : (e f g h : Element A) → SameElement eq e f → SameElement eq g h → AreParted eq f h → AreParted eq e g
  same_parted (piece cs a) (piece ds b) (piece es x) (piece fs y) p q r = grind (arith, not_true)
  same_parted (piece cs a) (piece ds b) (piece es x) (marker_element n) p q r = absurd q
  same_parted (piece cs a) (marker_element n) g h p q r = absurd p
  same_parted _ _ _ h p q r = tt

  same_parted_from : (e f : Element A) (gs hs : List (Element A)) → SameElement eq e f → SameElements eq gs hs → IsPartedFrom eq f hs → IsPartedFrom eq e gs
  same_parted_from e f [] hs p q r = tt
  same_parted_from e f (g ∷ gs) [] p q r = absurd q
  same_parted_from e f (g ∷ gs) (h ∷ hs) p q r = same_parted e f g h p q.0 r

  pub same_merged : (es fs : List (Element A)) → SameElements eq es fs → IsMerged eq fs → IsMerged eq es
  same_merged [] fs h k = tt
  same_merged (e ∷ es) [] h k = absurd h
  same_merged (e ∷ es) (f ∷ fs) h k = (same_text eq e f h.0 k.0, same_parted_from e f es fs h.0 h.1 k.1, same_merged es fs h.1 k.2)

  pub pushed_merged : (es fs : List (Element A)) (cs : List ℕ) (a : A) → IsMerged eq es → SameElements eq fs (push_text eq es cs a) → IsMerged eq fs
  pushed_merged es fs cs a h same = same_merged fs (push_text eq es cs a) same (merged_push eq es cs a h)
