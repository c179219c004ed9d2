-- Lines that grow at their end, and that are cut back.
use Rattle.tbr_tagged.proofs.Common.{◌≡◌, ℕ, zero, suc, ◌-◌, ◌<◌, Bool, true, Some, List, [], ◌∷◌, ◌++◌, fold, map, length, take, get_or, set, refl, ap, sym, subst, ◌∙◌, arith, append-nil}
use Rattle.tbr_tagged.proofs.Common.{append_assoc, cond_both, length-map, IsUtf8-string_bytes, IsUtf8, IsCharBoundary, string_bytes, string_len, Element, piece, marker_element, with_text, extend_last}
use Rattle.tbr_tagged.proofs.Common.{last_of, is_piece_under, push_text, push_element, element_items, text_items, items_of}
use Rattle.std.proofs.Common.{length-append}
use Rattle.std.proofs.lemmas.Bool.{and_parts}
use Rattle.std.proofs.lemmas.Str.{encodes-chars, encodes-append, scalars-chars, chars_from_encodes, IsCharBoundary-at_seam}
use Rattle.std.proofs.Math.Seq.{take-append_seam}
use Rattle.std.specs.Str.{chars}
use Rattle.std.specs.Prelude.{String}
use lib.Utf8.{encodes, scalar, scalars}
use Rattle.tbr_tagged.specs.Grown.{HasGrown, text_bytes, last_bytes}
use Rattle.tbr_tagged.proofs.TextAfter.{chars_some}

-- ---- growing

with_none : {A : Type 0} (e : Element A) → with_text e [] ≡ e
with_none (piece cs a) = ap (λ ds. piece ds a) (append-nil cs)
with_none (marker_element m) = refl

with_more : {A : Type 0} (e : Element A) (cs ds : List ℕ) → with_text (with_text e cs) ds ≡ with_text e (cs ++ ds)
with_more (piece bs a) cs ds = ap (λ ts. piece ts a) (append_assoc bs cs ds)
with_more (marker_element m) cs ds = refl

extend_none : {A : Type 0} (es : List (Element A)) → extend_last es [] ≡ es
extend_none [] = refl
extend_none (e ∷ []) = ap (λ f. f ∷ []) (with_none e)
extend_none (e ∷ f ∷ es) = ap (λ fs. e ∷ fs) (extend_none (f ∷ es))

extend_past : {A : Type 0} (e f : Element A) (es : List (Element A)) (cs ds : List ℕ) → extend_last (e ∷ extend_last (f ∷ es) cs) ds ≡ e ∷ extend_last (extend_last (f ∷ es) cs) ds
extend_past e f [] cs ds = refl
extend_past e f (g ∷ es) cs ds = refl

extend_more : {A : Type 0} (es : List (Element A)) (cs ds : List ℕ) → extend_last (extend_last es cs) ds ≡ extend_last es (cs ++ ds)
extend_more [] cs ds = refl
extend_more (e ∷ []) cs ds = ap (λ f. f ∷ []) (with_more e cs ds)
extend_more (e ∷ f ∷ es) cs ds = extend_past e f es cs ds ∙ ap (λ fs. e ∷ fs) (extend_more (f ∷ es) cs ds)

extend_append : {A : Type 0} (es : List (Element A)) (f : Element A) (fs : List (Element A)) (cs : List ℕ) → extend_last (es ++ (f ∷ fs)) cs ≡ es ++ extend_last (f ∷ fs) cs
extend_append [] f fs cs = refl
extend_append (e ∷ []) f fs cs = refl
extend_append (e ∷ g ∷ es) f fs cs = ap (λ gs. e ∷ gs) (extend_append (g ∷ es) f fs cs)

pub grown_same : {A : Type 0} (es : List (Element A)) → HasGrown es es
grown_same es = ([], [], sym (append-nil (extend_last es []) ∙ extend_none es))

grown_extended : {A : Type 0} (es fs : List (Element A)) (cs : List ℕ) → HasGrown es fs → HasGrown es (extend_last fs cs)
grown_extended es fs cs (ds, [], e) =
    (ds ++ cs, [], ap (λ gs. extend_last gs cs) (e ∙ append-nil (extend_last es ds)) ∙ extend_more es ds cs ∙ sym (append-nil (extend_last es (ds ++ cs))))
grown_extended es fs cs (ds, g ∷ gs, e) =
    (ds, extend_last (g ∷ gs) cs, ap (λ hs. extend_last hs cs) e ∙ extend_append (extend_last es ds) g gs cs)

grown_appended : {A : Type 0} (es fs gs : List (Element A)) → HasGrown es fs → HasGrown es (fs ++ gs)
grown_appended es fs gs (ds, hs, e) = (ds, hs ++ gs, ap (λ xs. xs ++ gs) e ∙ append_assoc (extend_last es ds) hs gs)

pub grown_more : {A : Type 0} (es fs gs : List (Element A)) → HasGrown es fs → HasGrown fs gs → HasGrown es gs
grown_more es fs gs h (cs, hs, e) = subst (HasGrown es) (sym e) (grown_appended es (extend_last fs cs) hs (grown_extended es fs cs h))

pub grown_by_text : {A : Type 0} (eq : A → A → Bool) (es : List (Element A)) (cs : List ℕ) (a : A) → HasGrown es (push_text eq es cs a)
grown_by_text eq es [] a = grown_same es
grown_by_text {A} eq es (c ∷ cs) a =
    cond_both (is_piece_under eq (last_of es) a) _ _ (λ (fs : List (Element A)). HasGrown es fs) (λ _. grown_extended es es (c ∷ cs) (grown_same es))
    (λ _. grown_appended es es (piece (c ∷ cs) a ∷ []) (grown_same es))

pub grown_by_element : {A : Type 0} (eq : A → A → Bool) (es : List (Element A)) (e : Element A) → HasGrown es (push_element eq es e)
grown_by_element eq es (piece cs a) = grown_by_text eq es cs a
grown_by_element eq es (marker_element m) = grown_appended es es (marker_element m ∷ []) (grown_same es)

-- ---- cutting a text

scalars_after : (cs ds : List ℕ) → scalars (cs ++ ds) ≡ true → scalars ds ≡ true
scalars_after [] ds h = h
scalars_after (c ∷ cs) ds h = scalars_after cs ds (and_parts (scalar c) (scalars (cs ++ ds)) h).1

parted_bytes : (bs cs ds : List ℕ) → IsUtf8 bs → chars bs ≡ cs ++ ds → bs ≡ encodes cs ++ encodes ds
parted_bytes bs cs ds u e = sym (encodes-chars bs u) ∙ ap encodes e ∙ encodes-append cs ds

-- a text may be cut after its first characters
pub cut_place : (bs cs ds : List ℕ) → IsUtf8 bs → chars bs ≡ cs ++ ds → IsCharBoundary bs (length (encodes cs))
cut_place bs cs ds u e =
    IsCharBoundary-at_seam bs (encodes cs) (encodes ds) (parted_bytes bs cs ds u e) (ds, (scalars_after cs ds (subst (λ xs. scalars xs ≡ true) e (scalars-chars bs u)), refl))

-- and then has these
pub cut_chars : (bs cut cs ds : List ℕ) → IsUtf8 bs → IsUtf8 cut → chars bs ≡ cs ++ ds → cut ≡ take (length (encodes cs)) bs → chars cut ≡ cs
cut_chars bs cut cs ds u v e is =
    sym (chars_from_encodes cs cut v (sym (is ∙ ap (take (length (encodes cs))) (parted_bytes bs cs ds u e) ∙ take-append_seam (encodes cs) (encodes ds))))

-- ---- cutting a line

pub extend_len : {A : Type 0} (es : List (Element A)) (cs : List ℕ) → length (extend_last es cs) ≡ length es
extend_len [] cs = refl
extend_len (e ∷ []) cs = refl
extend_len (e ∷ f ∷ es) cs = ap suc (extend_len (f ∷ es) cs)

-- what is left of a line that grew, before its last text is cut
pub first_elements : {A : Type 0} (es fs : List (Element A)) (n : ℕ) → length es ≡ n → (h : HasGrown es fs) → take n fs ≡ extend_last es h.0
first_elements es fs n is (cs, gs, e) =
    ap (λ k. take k fs) (sym is ∙ sym (extend_len es cs)) ∙ ap (take (length (extend_last es cs))) e ∙ take-append_seam (extend_last es cs) gs

pub none_left : {A : Type 0} (es : List (Element A)) (cs : List ℕ) → extend_last es cs ≡ [] → [] ≡ es
none_left [] cs h = refl
none_left (e ∷ []) cs h = cc
none_left (e ∷ f ∷ es) cs h = cc

-- and after that
cut_last : {X : Type 0} {A : Type 0} (f : X → Element A) (xs : List X) (es : List (Element A)) (cs : List ℕ) (d y : X) → 0 < length es → map f xs ≡ extend_last es cs →
    ((e : Element A) → last_of es ≡ Some e → f (get_or xs (length es - 1) d) ≡ with_text e cs → f y ≡ e) → map f (set xs (length es - 1) y) ≡ es
cut_last f xs [] cs d y some h k = absurd (omega arith)
cut_last f [] (e ∷ []) cs d y some h k = cc
cut_last f [] (e ∷ g ∷ es) cs d y some h k = cc
cut_last f (x ∷ []) (e ∷ []) cs d y some h k = ap (λ z. z ∷ []) (k e refl cc)
cut_last f (x ∷ z ∷ xs) (e ∷ []) cs d y some h k = cc
cut_last f (x ∷ xs) (e ∷ g ∷ es) cs d y some h k =
    let n : length (e ∷ g ∷ es) - 1 ≡ suc (length (g ∷ es) - 1) = omega arith in
    let rests : map f xs ≡ extend_last (g ∷ es) cs = cc in
    let rest = cut_last f xs (g ∷ es) cs d y (omega arith) rests (λ o is p. k o is (rw n p)) in
    rw n (cc)

-- the last of the first elements is cut at its text's end
pub cut_at : {X : Type 0} {A : Type 0} (f : X → Element A) (xs : List X) (es : List (Element A)) (cs : List ℕ) (n k : ℕ)
    (d y : X) → length es ≡ n → 0 < n → last_bytes (last_of es) ≡ k → map f xs ≡ extend_last es cs →
    d ≡ get_or xs (n - 1) d → ((e : Element A) (ds : List ℕ) → text_bytes e ≡ k → f d ≡ with_text e ds → f y ≡ e) → map f (set xs (n - 1) y) ≡ es
cut_at f xs es cs n k d y is some bytes h there cut =
    rw (← is) (cut_last f xs es cs d y (omega (arith, some)) h (λ e last p. cut e cs (ap last_bytes (sym last) ∙ bytes) (rw (there, ← is) p)))

-- ---- lines after lines

pub grown_by_elements : {A : Type 0} (eq : A → A → Bool) (es fs : List (Element A)) → HasGrown es (fold (push_element eq) es fs)
grown_by_elements eq es [] = grown_same es
grown_by_elements eq es (f ∷ fs) =
    grown_more es (push_element eq es f) (fold (push_element eq) es (f ∷ fs)) (grown_by_element eq es f) (grown_by_elements eq (push_element eq es f) fs)

-- a piece with bytes has items
pub text_has_items : {A : Type 0} {Z : Type 0} (s : String Z) (a : A) → 0 < string_len s → 0 < length (text_items (chars (string_bytes s)) a)
text_has_items s a some = simp length-map (chars_some (string_bytes s) (IsUtf8-string_bytes s) (omega (arith, some)))

-- and so does a line with it
pub line_has_items : {X : Type 0} {A : Type 0} (f : X → Element A) (xs : List X) (n : ℕ) (x : X) → n < length xs →
    x ≡ get_or xs n x → 0 < length (element_items (f x)) → 0 < length (items_of (map f xs))
line_has_items f [] n x within there some = absurd (omega arith)
line_has_items f (y ∷ ys) zero x within there some = omega (arith, length-append (element_items (f y)) (items_of (map f ys)), ap (λ z. length (element_items (f z))) there, some)
line_has_items f (y ∷ ys) (suc n) x within there some =
    omega (arith, length-append (element_items (f y)) (items_of (map f ys)), line_has_items f ys n x (omega arith) there some)

-- ---- cutting an element

pub piece_cut : {A : Type 0} {Z : Type 0} (s t : String Z) (a : A) (e : Element A) (ds : List ℕ) (n : ℕ) → text_bytes e ≡ n → piece (chars (string_bytes s)) a ≡ with_text e ds →
    ((cs ds : List ℕ) → length (encodes cs) ≡ n → chars (string_bytes s) ≡ cs ++ ds → chars (string_bytes t) ≡ cs) → piece (chars (string_bytes t)) a ≡ e
piece_cut s t a (piece cs b) ds n bytes is cut =
    let same : chars (string_bytes s) ≡ cs ++ ds = cc in
    let left = cut cs ds bytes same in
    cc
piece_cut s t a (marker_element m) ds n bytes is cut = cc

pub marker_cut : {A : Type 0} (m : List ℕ) (e : Element A) (ds : List ℕ) → marker_element m ≡ with_text e ds → marker_element m ≡ e
marker_cut m (piece cs b) ds is = cc
marker_cut m (marker_element n) ds is = is

-- the bytes of a text are those of its characters
pub bytes_of_chars : (bs : List ℕ) → IsUtf8 bs → length bs ≡ length (encodes (chars bs))
bytes_of_chars bs u = ap length (sym (encodes-chars bs u))

-- ---- an element alone

pub alone_extends : {A : Type 0} (e f : Element A) (cs : List ℕ) (gs : List (Element A)) → f ∷ [] ≡ extend_last (e ∷ []) cs ++ gs → f ≡ with_text e cs
alone_extends e f cs gs is = cc

-- a single element that is cut
pub alone_cut : {A : Type 0} (es : List (Element A)) (f y : Element A) (n k : ℕ) → length es ≡ n → 0 < n → last_bytes (last_of es) ≡ k → HasGrown es (f ∷ []) →
    ((e : Element A) (ds : List ℕ) → text_bytes e ≡ k → f ≡ with_text e ds → y ≡ e) → y ∷ [] ≡ es
alone_cut [] f y n k is some bytes h cut = absurd (omega arith)
alone_cut (e ∷ []) f y n k is some bytes (cs, gs, h) cut = ap (λ z. z ∷ []) (cut e cs bytes (alone_extends e f cs gs h))
alone_cut (e ∷ g ∷ es) f y n k is some bytes (cs, gs, h) cut = absurd (no_more (e ∷ g ∷ es) f cs gs (omega arith) h)
  where
    no_more : {A : Type 0} (es : List (Element A)) (f : Element A) (cs : List ℕ) (gs : List (Element A)) → 1 < length es → f ∷ [] ≡ extend_last es cs ++ gs → ⊥
    no_more es f cs gs more h = omega (arith, ap length h, length-append (extend_last es cs) gs, extend_len es cs, more)
