-- Lines that are done have no influence on how a block goes on: this is the rule where each annotation stays as it is.
use Rattle.tbr_model.proofs.Common.{◌≡◌, ℕ, ◌&&◌, nat_lt, is_none, Option, Some, None, List, [], ◌++◌, fold, refl, ap, sym, ◌∙◌, append-nil, arith, option_map, WhiteSpace, character, marker_entry}
use Rattle.tbr_model.proofs.Common.{Item, glyph, marker, is_blank, Laid, put_items, Event, call, entry, Space, Progress, collapse, newline, tab, preserve, step, finished, map_item, map_items}
use Rattle.tbr_model.proofs.Common.{map_event, map_space}
pub use Rattle.tbr_model.proofs.lists.Each.{if_same}
use Rattle.tbr_model.proofs.lists.Each.{map_same}
use Rattle.tbr_model.proofs.maps.Rule.{moved_laid, moved, put_items-map, tab-map, preserve-map, step-map, steps-map, finished_moved, newline-map}

-- after lines that are done
abbrev pub under : {A : Type 0} → List (List (Item A)) → Laid A → Laid A
under d l = record l { done = d ++ l.done }

abbrev pub after : {A : Type 0} → List (List (Item A)) → Progress A → Progress A
after d p = record p { laid = under d p.laid }

-- ---- each annotation as it is

item_same : {A : Type 0} (i : Item A) → map_item (λ a. a) i ≡ i
item_same (glyph c a) = refl
item_same (marker name) = refl

items_same : {A : Type 0} (is : List (Item A)) → map_items (λ a. a) is ≡ is
items_same = map_same (map_item (λ a. a)) item_same

event_same : {A : Type 0} (e : Event A) → map_event (λ a. a) e ≡ e
event_same call = refl
event_same (entry (character c a b mode)) = refl
event_same (entry (marker_entry name)) = refl

space_same : {A : Type 0} (o : Option (Space A)) → option_map (map_space (λ a. a)) o ≡ o
space_same None = refl
space_same (Some s) = refl

laid_same : {A : Type 0} (d : List (List (Item A))) (l : Laid A) → moved_laid d (λ a. a) l ≡ under d l
laid_same d l = rw (map_same (map_items (λ a. a)) items_same l.done, items_same l.line) refl

by_move : {A : Type 0} (d : List (List (Item A))) (F : Progress A → Progress A) →
    ((p : Progress A) → F (moved d (λ a. a) p) ≡ moved d (λ a. a) (F p)) → (p : Progress A) →
    F (after d p) ≡ after d (F p)
by_move {A} d F goes p = ap F (sym (same p)) ∙ goes p ∙ same (F p)
  where
    same : (q : Progress A) → moved d (λ a. a) q ≡ after d q
    same q = rw (laid_same d q.laid, space_same q.space, items_same q.word) refl

pub put_items_under : {A : Type 0} (columns : ℕ → Option ℕ) (width : ℕ) (d : List (List (Item A))) (l : Laid A)
    (is : List (Item A)) → put_items columns width (under d l) is ≡ under d (put_items columns width l is)
put_items_under {A} columns width d l is =
    ap (λ (m : Laid A). put_items columns width m is) (sym (laid_same d l)) ∙ ap (put_items columns width (moved_laid d (λ a. a) l)) (sym (items_same is))
    ∙ put_items-map d (λ a. a) columns width is l ∙ laid_same d (put_items columns width l is)

-- ---- where a block is

pub collapse_after : {A : Type 0} (c : ℕ) (a : A) (d : List (List (Item A))) (p : Progress A) → collapse c a (after d p) ≡ after d (collapse c a p)
collapse_after c a d p = if_same (after d) (is_blank c && (nat_lt 0 p.laid.width && is_none p.space)) _ _ _ _ refl refl

pub newline_after : {A : Type 0} (d : List (List (Item A))) (p : Progress A) → newline (after d p) ≡ after d (newline p)
newline_after d = by_move d newline (newline-map d (λ x. x) (λ c. None) 0)

pub tab_after : {A : Type 0} (width : ℕ) (a : A) (d : List (List (Item A))) (p : Progress A) → tab width a (after d p) ≡ after d (tab width a p)
tab_after width a d = by_move d (tab width a) (tab-map d (λ x. x) (λ c. None) width a)

pub preserve_after : {A : Type 0} (columns : ℕ → Option ℕ) (width c : ℕ) (a b : A) (mode : WhiteSpace) (d : List (List (Item A))) (p : Progress A) →
    preserve columns width c a b mode (after d p) ≡ after d (preserve columns width c a b mode p)
preserve_after columns width c a b mode d = by_move d (preserve columns width c a b mode) (preserve-map d (λ x. x) columns width c a b mode)

module _ {A : Type 0} (columns : ℕ → Option ℕ) (width : ℕ) (d : List (List (Item A))) (p : Progress A) where
  pub step_after : (e : Event A) → step columns width (after d p) e ≡ after d (step columns width p e)
  step_after e = by_move d (λ q. step columns width q e) (λ q. ap (step columns width (moved d (λ a. a) q)) (sym (event_same e)) ∙ step-map d (λ a. a) columns width q e) p

  pub fold_after : (es : List (Event A)) → fold (step columns width) (after d p) es ≡ after d (fold (step columns width) p es)
  fold_after es = grind (arith, by_move, moved, map_same, event_same, steps-map)

  pub finished_after : finished columns width (after d p) ≡ under d (finished columns width p)
  finished_after =
      ap (λ (q : Progress A). q.laid)
      (by_move d (λ q. record q { laid = finished columns width q })
      (λ q. ap (λ (l : Laid A). record (moved d (λ a. a) q) { laid = l })
      (finished_moved d (λ a. a) columns width q)) p)

-- ---- lines are only added

-- by what has no use for them
pub adds_by : {A : Type 0} (F : Progress A → Progress A) →
    ((d : List (List (Item A))) (p : Progress A) → F (after d p) ≡ after d (F p)) → (p : Progress A) →
    (more : List (List (Item A))) × ((F p).laid.done ≡ p.laid.done ++ more)
adds_by {A} F same p =
    let bare : Progress A = record p { laid = record p.laid { done = [] } } in
    let is : after p.laid.done bare ≡ p = ap (λ ls. record p { laid = record p.laid { done = ls } }) (append-nil p.laid.done) in
    ((F bare).laid.done, ap (λ (q : Progress A). (F q).laid.done) (sym is) ∙ ap (λ (q : Progress A). q.laid.done) (same p.laid.done bare))

module _ {A : Type 0} (columns : ℕ → Option ℕ) (width : ℕ) (p : Progress A) where
  -- by an event
  pub step_adds : (e : Event A) → (more : List (List (Item A))) × ((step columns width p e).laid.done ≡ p.laid.done ++ more)
  step_adds e = adds_by (λ q. step columns width q e) (λ d q. step_after columns width d q e) p

  -- by the end of the run
  pub finished_adds : (more : List (List (Item A))) × ((finished columns width p).done ≡ p.laid.done ++ more)
  finished_adds = adds_by (λ q. record q { laid = finished columns width q }) (λ d q. ap (λ (l : Laid A). record q { laid = l }) (finished_after columns width d q)) p
