-- One more element of a line, as a loop over them takes it.
use Rattle.tbr_tagged.proofs.Common.{◌≡◌, ℕ, suc, ◌+◌, ◌<◌, true, false, Option, List, [], ◌∷◌, ◌++◌, map, length, get_or, take, drop, refl, ap, sym, ◌∙◌, arith, drop-cons, map_push, map-append}
use Rattle.tbr_tagged.proofs.Common.{take-append-drop, flat_map-append, marker, items_width, width_of_text, items_width-append, Element, piece, marker_element, element_items, items_of, has_piece}
use Rattle.std.proofs.lemmas.List.{take_more}
use Rattle.tbr_tagged.proofs.TextColumns.{items_width-text}

module _ {X : Type 0} {A : Type 0} (f : X → A) (xs : List X) (i : ℕ) (x : X) (below : i < length xs) (is : x ≡ get_or xs i x) where
  pub one_more : map f (take (i + 1) xs) ≡ map f (take i xs) ++ f x ∷ []
  one_more = ap (map f) (take_more xs i x below ∙ ap (λ (y : X). take i xs ++ y ∷ []) (sym is)) ∙ map_push f (take i xs) x

  pub one_and_rest : map f xs ≡ map f (take i xs) ++ (f x ∷ map f (drop (suc i) xs))
  one_and_rest = rw (drop-cons xs i x below, ← is, map-append) at (ap (map f) (sym (take-append-drop i xs)))

-- the same where the element is read with a default
pub one_more_at : {X : Type 0} {A : Type 0} (f : X → A) (xs : List X) (i : ℕ) (d : X) → i < length xs → map f (take (i + 1) xs) ≡ map f (take i xs) ++ f (get_or xs i d) ∷ []
one_more_at f xs i d below = ap (map f) (take_more xs i d below) ∙ map_push f (take i xs) (get_or xs i d)

pub items_width-piece : {A : Type 0} (columns : ℕ → Option ℕ) (es fs : List (Element A)) (cs : List ℕ) (a : A) →
    items_width columns (items_of (es ++ (piece cs a ∷ fs))) ≡ items_width columns (items_of es) + (width_of_text columns cs + items_width columns (items_of fs))
items_width-piece columns es fs cs a =
    rw (flat_map-append, items_width-append, items_width-append, items_width-text columns cs a) refl

pub items_width-marker : {A : Type 0} (columns : ℕ → Option ℕ) (es : List (Element A)) (name : List ℕ) →
    items_width columns (items_of (es ++ marker_element name ∷ [])) ≡ items_width columns (items_of es)
items_width-marker columns es name = omega (arith, ap (items_width columns) (flat_map-append element_items es (marker_element name ∷ [])), items_width-append columns (items_of es) (marker name ∷ []))

pub has_piece-push : {A : Type 0} (es : List (Element A)) (name : List ℕ) → has_piece es ≡ false → has_piece (es ++ marker_element name ∷ []) ≡ false
has_piece-push [] name h = refl
has_piece-push (piece cs a ∷ es) name h = cc
has_piece-push (marker_element m ∷ es) name h = has_piece-push es name h

pub has_piece-within : {A : Type 0} (es fs : List (Element A)) (cs : List ℕ) (a : A) → has_piece (es ++ (piece cs a ∷ fs)) ≡ true
has_piece-within (marker_element m ∷ es) fs cs a = has_piece-within es fs cs a
has_piece-within _ fs cs a = refl
