-- What a line shows under what its tags mean.
use Rattle.tbr_wrap.proofs.Common.{◌≡◌, ℕ, ◌-◌, Bool, Option, None, Some, List, [], ◌∷◌, ◌++◌, map, refl, ap, AllZip, map-append, Item, glyph, items_width, Element, items_of, text_items, ShowsText}
use Rattle.tbr_wrap.proofs.Common.{padding_of}
use Rattle.std.specs.Option.{option_map}
use Rattle.tbr_model.specs.Mapped.{map_items}
use Rattle.tbr_model.proofs.maps.Words.{items_width-map}
use Rattle.tbr_tagged.specs.Padding.{spaces}
use Rattle.tbr_tagged.specs.Mapped.{MeansEqual}
use Rattle.tbr_tagged.proofs.MappedTags.{means_same_items}

module _ {A B : Type 0} (f : A → B) where
  text_mapped : (cs : List ℕ) (a : A) → map_items f (text_items cs a) ≡ text_items cs (f a)
  text_mapped [] a = refl
  text_mapped (c ∷ cs) a = ap (λ (is : List (Item B)). glyph c (f a) ∷ is) (text_mapped cs a)

  padding_mapped : (columns : ℕ → Option ℕ) (padding : Option A) (width : ℕ) (is : List (Item A)) →
      map_items f (padding_of columns padding width is) ≡ padding_of columns (option_map f padding) width (map_items f is)
  padding_mapped columns None width is = refl
  padding_mapped columns (Some a) width is =
      rw (text_mapped (spaces (width - items_width columns is)) a, items_width-map f columns is) refl

  module _ (eq : A → A → Bool) (means : MeansEqual f eq) (columns : ℕ → Option ℕ) (padding : Option A) (width : ℕ) where
    pub line_means : (es : List (Element A)) (is : List (Item A)) → ShowsText columns eq padding width es is →
        map_items f (items_of es) ≡ map_items f is ++ padding_of columns (option_map f padding) width (map_items f is)
    line_means es is h =
        rw (means_same_items f eq means (items_of es) (is ++ padding_of columns padding width is) h.items, map-append, padding_mapped columns padding width is) refl

    pub lines_mean : (lines : List (List (Element A))) (texts : List (List (Item A))) → AllZip (ShowsText columns eq padding width) lines texts →
        map (λ es. map_items f (items_of es)) lines
        ≡ map (λ is. map_items f is ++ padding_of columns (option_map f padding) width (map_items f is)) texts
    lines_mean [] [] h = refl
    lines_mean (es ∷ lines) (is ∷ texts) h =
        let first = line_means es is h.0 in let rest = lines_mean lines texts h.1 in cc
    lines_mean _ _ h = absurd h
