-- The layouts of a run under other annotations.
use Rattle.tbr_model.proofs.Common.{◌≡◌, ℕ, Bool, false, nat_lt, Option, None, Some, List, [], ◌∷◌, ◌++◌, map, flat_map, length, take, refl, ap, sym, ◌∙◌, arith, subst, option_map, Each, map-append}
use Rattle.tbr_model.proofs.Common.{length-map, take-map, Entry, Item, items_width, Word, words_of, Slot, slot_of, slots_within, word_slots, slots_of, gap_width, rest_width, line_width, gap_text}
use Rattle.tbr_model.proofs.Common.{rest_text, line_text, MayFollow, IsLegalLine, joined, placed, HasNoEmptyLine, IsBest, map_item, map_items, map_run, map_word}
use Rattle.tbr_model.specs.Mapped.{map_slot, map_slots, map_layout}
use Rattle.tbr_model.proofs.lists.Each.{each_map, each_unmap}
use Rattle.tbr_model.proofs.maps.Words.{item_width-map, items_width-map, words_of-map}

module _ {A B : Type 0} (f : A → B) (columns : ℕ → Option ℕ) where
  within-map : (wider : Bool) (is : List (Item A)) → map (slot_of columns wider None false) (map_items f is) ≡ map_slots f (map (slot_of columns wider None false) is)
  within-map wider [] = refl
  within-map wider (i ∷ is) = let w = item_width-map f columns i in let rest = within-map wider is in cc

  slots_within-map : (wider : Bool) (gap : Option A) (is : List (Item A)) → slots_within columns wider (option_map f gap) (map_items f is) ≡ map_slots f (slots_within columns wider gap is)
  slots_within-map wider gap [] = refl
  slots_within-map wider gap (i ∷ is) = let w = item_width-map f columns i in let rest = within-map wider is in cc

  word_slots-map : (width : ℕ) (w : Word A) → word_slots columns width (map_word f w) ≡ map_slots f (word_slots columns width w)
  word_slots-map width w =
      ap (λ n. slots_within columns (nat_lt width n) (option_map f w.gap) (map_items f w.items))
      (items_width-map f columns w.items)
      ∙ slots_within-map (nat_lt width (items_width columns w.items)) w.gap w.items

  all_slots-map : (width : ℕ) (ws : List (Word A)) → flat_map (word_slots columns width) (map (map_word f) ws) ≡ map_slots f (flat_map (word_slots columns width) ws)
  all_slots-map width [] = refl
  all_slots-map width (w ∷ ws) =
      ap (λ ss. ss ++ flat_map (word_slots columns width) (map (map_word f) ws)) (word_slots-map width w)
      ∙ ap (λ ss. map_slots f (word_slots columns width w) ++ ss) (all_slots-map width ws)
      ∙ sym (map-append (map_slot f) (word_slots columns width w) (flat_map (word_slots columns width) ws))

  pub slots_of-map : (width : ℕ) (run : List (Entry A)) → slots_of columns width (map_run f run) ≡ map_slots f (slots_of columns width run)
  slots_of-map width run = ap (flat_map (word_slots columns width)) (words_of-map f columns run) ∙ all_slots-map width (words_of columns run)

module _ {A B : Type 0} (f : A → B) where
  gap_width-map : (gap : Option A) → gap_width (option_map f gap) ≡ gap_width gap
  gap_width-map None = refl
  gap_width-map (Some a) = refl

  rest_width-map : (l : List (Slot A)) → rest_width (map_slots f l) ≡ rest_width l
  rest_width-map [] = refl
  rest_width-map (s ∷ l) = omega (arith, gap_width-map s.gap, rest_width-map l)

  pub line_width-map : (l : List (Slot A)) → line_width (map_slots f l) ≡ line_width l
  line_width-map [] = refl
  line_width-map (s ∷ l) = omega (arith, rest_width-map l)

  gap_text-map : (gap : Option A) → gap_text (option_map f gap) ≡ map_items f (gap_text gap)
  gap_text-map None = refl
  gap_text-map (Some a) = refl

  rest_text-map : (l : List (Slot A)) → rest_text (map_slots f l) ≡ map_items f (rest_text l)
  rest_text-map [] = refl
  rest_text-map (s ∷ l) =
      ap (λ is. (is ++ map_item f s.item ∷ []) ++ rest_text (map_slots f l)) (gap_text-map s.gap)
      ∙ ap (λ is. (map_items f (gap_text s.gap) ++ map_item f s.item ∷ []) ++ is) (rest_text-map l) ∙ simp map-append

  pub line_text-map : (l : List (Slot A)) → line_text (map_slots f l) ≡ map_items f (line_text l)
  line_text-map [] = refl
  line_text-map (s ∷ l) = ap (λ is. map_item f s.item ∷ is) (rest_text-map l)

  legal_line-map : (width : ℕ) (l : List (Slot A)) → IsLegalLine width l → IsLegalLine width (map_slots f l)
  legal_line-map width [] h = record { fits = h.fits; first = tt; others = tt }
  legal_line-map width (s ∷ l) h = record { fits = omega (arith, line_width-map (s ∷ l), h.fits); first = h.first; others = each_map (map_slot f) MayFollow MayFollow (λ t k. k) l h.others }

  legal_line-unmap : (width : ℕ) (l : List (Slot A)) → IsLegalLine width (map_slots f l) → IsLegalLine width l
  legal_line-unmap width [] h = record { fits = h.fits; first = tt; others = tt }
  legal_line-unmap width (s ∷ l) h = record { fits = omega (arith, line_width-map (s ∷ l), h.fits); first = h.first; others = each_unmap (map_slot f) MayFollow MayFollow (λ t k. k) l h.others }

  full-map : (ls : List (List (Slot A))) → HasNoEmptyLine ls → HasNoEmptyLine (map_layout f ls)
  full-map [] h = tt
  full-map (l ∷ ls) h = (omega (arith, length-map l (map_slot f), h.0), full-map ls h.1)

pub joined-map : {X Y : Type 0} (g : X → Y) (ls : List (List X)) → joined (map (map g) ls) ≡ map g (joined ls)
joined-map g [] = refl
joined-map g (l ∷ ls) = ap (λ xs. map g l ++ xs) (joined-map g ls) ∙ sym (map-append g l (joined ls))

placed-map : {X Y : Type 0} (g : X → Y) (n : ℕ) (ls : List (List X)) → placed n (map (map g) ls) ≡ placed n ls
placed-map g n ls = ap (λ ms. length (joined ms)) (take-map (map g) n ls) ∙ ap length (joined-map g (take n ls)) ∙ length-map (joined (take n ls)) g

-- a part of a list's image is the image of a part
front_of : {X Y : Type 0} (g : X → Y) (xs : List X) (l r : List Y) → l ++ r ≡ map g xs → (a b : List X) × (xs ≡ a ++ b) × (l ≡ map g a) × (r ≡ map g b)
front_of g xs [] r e = ([], xs, refl, refl, e)
front_of g [] (y ∷ l) r e = cc
front_of {X} {Y} g (x ∷ xs) (y ∷ l) r e =
    let head : y ≡ g x = cc in
    let tail : l ++ r ≡ map g xs = cc in
    let w = front_of g xs l r tail in
    let whole : x ∷ xs ≡ (x ∷ w.0) ++ w.1 = ap (λ (zs : List X). x ∷ zs) w.2 in
    let front : y ∷ l ≡ map g (x ∷ w.0) = (let p = w.3 in cc) in
    (x ∷ w.0, w.1, whole, front, w.4)

lines_from_map : {X Y : Type 0} (g : X → Y) (xs : List X) (ls : List (List Y)) → joined ls ≡ map g xs → (ms : List (List X)) × (ls ≡ map (map g) ms) × (joined ms ≡ xs)
lines_from_map g [] [] e = ([], refl, refl)
lines_from_map g (x ∷ xs) [] e = cc
lines_from_map {X} {Y} g xs (l ∷ ls) e =
    let w = front_of g xs l (joined ls) e in
    let v = lines_from_map g w.1 ls w.4 in
    let same : l ∷ ls ≡ map (map g) (w.0 ∷ v.0) = (let p = w.3 in let q = v.1 in cc) in
    (w.0 ∷ v.0, same, ap (λ zs. w.0 ++ zs) v.2 ∙ sym w.2)

-- the best layout stays the best
pub best-map : {A B : Type 0} (f : A → B) (width : ℕ) (slots : List (Slot A)) (lines : List (List (Slot A))) → IsBest width slots lines → IsBest width (map_slots f slots) (map_layout f lines)
best-map {A} {B} f width slots lines best = record {
  legal =
      record {
        whole = joined-map (map_slot f) lines ∙ ap (map_slots f) best.legal.whole;
        each =
            each_map (map_slots f) (IsLegalLine width) (IsLegalLine width) (legal_line-map f width) lines best.legal.each;
      };
  full = full-map f lines best.full;
  ahead = λ others other n.
      let w = lines_from_map (map_slot f) slots others other.whole in
      let each : Each (IsLegalLine width) w.0 = each_unmap (map_slots f) (IsLegalLine width) (IsLegalLine width) (legal_line-unmap f width) w.0 (subst (Each (IsLegalLine width)) w.1 other.each) in
      let after = best.ahead w.0 (record { whole = w.2; each = each }) n in
      omega (arith, after, ap (placed n) w.1, placed-map (map_slot f) n w.0, placed-map (map_slot f) n lines);
}

pub ruleset layout_maps = (words_of-map, slots_of-map, line_text-map)
