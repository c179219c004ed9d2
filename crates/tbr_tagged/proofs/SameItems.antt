-- Items that are the same up to equal tags.
use Rattle.tbr_tagged.proofs.Common.{map-append, ◌≡◌, ℕ, Option, Bool, true, List, [], ◌∷◌, ◌++◌, map, refl, ap, sym, ◌∙◌, subst, arith, append_assoc, append-nil, IsEquivalence, AllZip, cond_both}
use Rattle.tbr_tagged.proofs.Common.{flat_map-append, Item, glyph, marker, items_width, has_character, Element, piece, marker_element, element_items, items_of, SameItem, SameItems, SameElement}
use Rattle.tbr_tagged.proofs.Common.{SameElements, extend_last, last_of, is_piece_under, push_text, push_element}
use Rattle.tbr_model.specs.Run.{item_width}

pub all_zip_append : {A B : Type 0} (R : A → B → Type 0) (xs zs : List A) (ys ws : List B) → AllZip R xs ys → AllZip R zs ws → AllZip R (xs ++ zs) (ys ++ ws)
all_zip_append R [] zs [] ws h k = k
all_zip_append R (x ∷ xs) zs (y ∷ ys) ws h k = (h.0, all_zip_append R xs zs ys ws h.1 k)
all_zip_append R _ zs _ ws h k = absurd h

pub zip_trans : {X : Type 0} (R : X → X → Type 0) → ((x y z : X) → R x y → R y z → R x z) → (xs ys zs : List X) → AllZip R xs ys → AllZip R ys zs → AllZip R xs zs
zip_trans R one [] [] zs h k = k
zip_trans R one (x ∷ xs) (y ∷ ys) [] h k = k
zip_trans R one (x ∷ xs) (y ∷ ys) (z ∷ zs) h k = (one x y z h.0 k.0, zip_trans R one xs ys zs h.1 k.1)
zip_trans R one _ _ zs h k = absurd h

pub zip_same : {X Y : Type 0} (R : X → X → Type 0) (f : X → Y) → ((x y : X) → R x y → f x ≡ f y) → (xs ys : List X) → AllZip R xs ys → map f xs ≡ map f ys
zip_same R f one [] [] h = refl
zip_same R f one (x ∷ xs) (y ∷ ys) h = rw (one x y h.0, zip_same R f one xs ys h.1) refl
zip_same R f one _ _ h = absurd h

module _ {A : Type 0} (eq : A → A → Bool) (laws : IsEquivalence eq) where
  pub same_item : (i : Item A) → SameItem eq i i
  same_item (glyph c a) = (refl, laws.refl a)
  same_item (marker m) = refl

  pub same_items : (is : List (Item A)) → SameItems eq is is
  same_items [] = tt
  same_items (i ∷ is) = (same_item i, same_items is)

  pub same_from_path : (is js : List (Item A)) → is ≡ js → SameItems eq is js
  same_from_path is js e = subst (SameItems eq is) e (same_items is)

  pub same_item_trans : (i j k : Item A) → SameItem eq i j → SameItem eq j k → SameItem eq i k
  same_item_trans (glyph c a) (glyph d b) (glyph e x) h k = (h.0 ∙ k.0, laws.congr a b x h.1 ∙ k.1)
  same_item_trans (marker m) (marker n) (marker o) h k = h ∙ k
  same_item_trans (glyph c a) (glyph d b) (marker o) h k = k
  same_item_trans (marker m) (marker n) (glyph e x) h k = k
  same_item_trans _ _ k h l = absurd h

  pub same_items_trans : (is js ks : List (Item A)) → SameItems eq is js → SameItems eq js ks → SameItems eq is ks
  same_items_trans = zip_trans (SameItem eq) same_item_trans

  pub same_items_append : (is js ks ls : List (Item A)) → SameItems eq is js → SameItems eq ks ls → SameItems eq (is ++ ks) (js ++ ls)
  same_items_append is js ks ls = all_zip_append (SameItem eq) is ks js ls

  pub same_texts : (cs : List ℕ) (a b : A) → eq a b ≡ true → SameItems eq (map (λ c. glyph c a) cs) (map (λ c. glyph c b) cs)
  same_texts [] a b h = tt
  same_texts (c ∷ cs) a b h = ((refl, h), same_texts cs a b h)

  same_element_items : (e f : Element A) → SameElement eq e f → SameItems eq (element_items e) (element_items f)
  same_element_items (piece cs a) (piece ds b) h = subst (λ xs. SameItems eq (map (λ c. glyph c a) cs) (map (λ c. glyph c b) xs)) h.0 (same_texts cs a b h.1)
  same_element_items (marker_element m) (marker_element n) h = (h, tt)
  same_element_items _ _ h = absurd h

  pub same_items_of : (es fs : List (Element A)) → SameElements eq es fs → SameItems eq (items_of es) (items_of fs)
  same_items_of [] [] h = tt
  same_items_of (e ∷ es) (f ∷ fs) h = same_items_append (element_items e) (element_items f) (items_of es) (items_of fs) (same_element_items e f h.0) (same_items_of es fs h.1)
  same_items_of _ _ h = absurd h

  text_push : (cs ds : List ℕ) (a b : A) → eq b a ≡ true → SameItems eq (map (λ d. glyph d b) (cs ++ ds)) (map (λ d. glyph d b) cs ++ map (λ d. glyph d a) ds)
  text_push cs ds a b h = rw map-append (same_items_append _ _ _ _ (same_items (map (λ d. glyph d b) cs)) (same_texts ds b a h))

  extend_items : (es : List (Element A)) (ds : List ℕ) (a : A) → is_piece_under eq (last_of es) a ≡ true → SameItems eq (items_of (extend_last es ds)) (items_of es ++ map (λ d. glyph d a) ds)
  extend_items [] ds a h = cc
  extend_items (piece cs b ∷ []) ds a h = rw (append-nil, append-nil) (text_push cs ds a b h)
  extend_items (marker_element m ∷ []) ds a h = cc
  extend_items (e ∷ f ∷ es) ds a h = grind (arith, append_assoc, same_items_append, same_items, extend_items (f ∷ es) ds a h)

  pub items_push : (es : List (Element A)) (cs : List ℕ) (a : A) → SameItems eq (items_of (push_text eq es cs a)) (items_of es ++ map (λ c. glyph c a) cs)
  items_push es [] a = same_from_path (items_of es) (items_of es ++ []) (sym (append-nil (items_of es)))
  items_push es (c ∷ cs) a =
      cond_both (is_piece_under eq (last_of es) a) _ _ (λ (fs : List (Element A)). SameItems eq (items_of fs) (items_of es ++ map (λ d. glyph d a) (c ∷ cs)))
      (extend_items es (c ∷ cs) a)
      (λ _. same_from_path (items_of (es ++ piece (c ∷ cs) a ∷ [])) (items_of es ++ map (λ d. glyph d a) (c ∷ cs))
      (flat_map-append element_items es (piece (c ∷ cs) a ∷ []) ∙ ap (λ is. items_of es ++ is) (append-nil (map (λ d. glyph d a) (c ∷ cs)))))

  pub push_items : (es fs : List (Element A)) (cs : List ℕ) (a : A) → SameElements eq fs (push_text eq es cs a) → SameItems eq (items_of fs) (items_of es ++ map (λ c. glyph c a) cs)
  push_items es fs cs a h =
      same_items_trans (items_of fs) (items_of (push_text eq es cs a)) (items_of es ++ map (λ c. glyph c a) cs) (same_items_of fs (push_text eq es cs a) h) (items_push es cs a)

  pub element_pushed : (es : List (Element A)) (e : Element A) → SameItems eq (items_of (push_element eq es e)) (items_of es ++ element_items e)
  element_pushed es (piece cs a) = items_push es cs a
  element_pushed es (marker_element name) = same_from_path (items_of (es ++ marker_element name ∷ [])) (items_of es ++ marker name ∷ []) (flat_map-append element_items es (marker_element name ∷ []))

-- ---- what items that are the same have in common

pub same_width_one : {A : Type 0} (columns : ℕ → Option ℕ) (eq : A → A → Bool) (i j : Item A) → SameItem eq i j → item_width columns i ≡ item_width columns j
same_width_one columns eq (glyph c a) (glyph d b) h = ap (λ x. item_width columns (glyph x a)) h.0
same_width_one columns eq (marker m) (marker n) h = refl
same_width_one columns eq _ _ h = absurd h

pub same_width : {A : Type 0} (columns : ℕ → Option ℕ) (eq : A → A → Bool) (is js : List (Item A)) → SameItems eq is js → items_width columns is ≡ items_width columns js
same_width columns eq [] [] h = refl
same_width columns eq (i ∷ is) (j ∷ js) h = omega (arith, same_width_one columns eq i j h.0, same_width columns eq is js h.1)
same_width columns eq _ _ h = absurd h

pub same_has : {A : Type 0} (eq : A → A → Bool) (is js : List (Item A)) → SameItems eq is js → has_character is ≡ has_character js
same_has eq [] [] h = refl
same_has eq (glyph c a ∷ is) (glyph d b ∷ js) h = refl
same_has eq (glyph c a ∷ is) (marker n ∷ js) h = absurd h.0
same_has eq (marker m ∷ is) (glyph d b ∷ js) h = absurd h.0
same_has eq (marker m ∷ is) (marker n ∷ js) h = same_has eq is js h.1
same_has eq _ _ h = absurd h
