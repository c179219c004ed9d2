-- The rule under other annotations, and after lines that are done, which have no influence on it.
use Rattle.tbr_model.proofs.Common.{◌≡◌, ℕ, zero, suc, ◌+◌, ◌-◌, ◌%◌, ◌==◌, ◌&&◌, nat_le, nat_lt, false, if◌then◌else◌, is_some, is_none, Option, Some, None, List, [], ◌∷◌, ◌++◌, fold, refl, ap, sym}
use Rattle.tbr_model.proofs.Common.{◌∙◌, append_assoc, arith, option_map, map-append, WhiteSpace, Normal, Pre, PreWrap, Entry, character, marker_entry, Item, glyph, marker, item_width, items_width}
use Rattle.tbr_model.proofs.Common.{has_character, is_blank, is_break, Laid, extended, end_line, end_if_character, end_if_columns, put_item, put_items, Event, call, entry, Space, Progress, at_start}
use Rattle.tbr_model.proofs.Common.{spaces, space_text, pending_width, is_space_item, is_white_item, without_leading, without_trailing, trimmed, space_of, wrap_space_by, wrap_space, put_space}
use Rattle.tbr_model.proofs.Common.{put_spaces, put_pending, is_pre, lay_here, lay_fresh, lay, flush_word, break_word, join, collapse, newline, put_tab, tab, keep_space, passes, tag_of}
use Rattle.tbr_model.proofs.Common.{keep_character, preserve, enter, step, progress, finished, waiting, map_item, map_items, map_entry, map_lines, map_event, map_space}
use Rattle.tbr_model.specs.Mapped.{map_events, map_laid, map_progress}
use Rattle.tbr_model.proofs.maps.Words.{item_width-map, items_width-map, has_character-map}
use Rattle.tbr_model.proofs.lists.Each.{if_same}

-- what is laid, and where a block is, under other annotations and after lines that are done
abbrev pub moved_laid : {A B : Type 0} → List (List (Item B)) → (A → B) → Laid A → Laid B
moved_laid d f l = record (map_laid f l) { done = d ++ map_lines f l.done }

abbrev pub moved : {A B : Type 0} → List (List (Item B)) → (A → B) → Progress A → Progress B
moved d f p = record (map_progress f p) { laid = moved_laid d f p.laid }

module _ {A B : Type 0} (d : List (List (Item B))) (f : A → B) (columns : ℕ → Option ℕ) (width : ℕ) where
  -- ---- what is laid

  extended-map : (l : Laid A) (is : List (Item A)) (js : List (Item B)) (n : ℕ) → js ≡ map_items f is → extended (moved_laid d f l) js n ≡ moved_laid d f (extended l is n)
  extended-map l is js n e = grind (arith, map-append)

  end_line-map : (l : Laid A) → end_line (moved_laid d f l) ≡ moved_laid d f (end_line l)
  end_line-map l = grind (arith, append_assoc, map-append)

  end_if_character-map : (l : Laid A) → end_if_character (moved_laid d f l) ≡ moved_laid d f (end_if_character l)
  end_if_character-map l = rw (has_character-map f columns l.line) (if_same (moved_laid d f) (has_character l.line) (end_line l) l _ _ (end_line-map l) refl)

  end_if_columns-map : (l : Laid A) → end_if_columns (moved_laid d f l) ≡ moved_laid d f (end_if_columns l)
  end_if_columns-map l = if_same (moved_laid d f) (l.width == 0) l (end_line l) _ _ refl (end_line-map l)

  put_item-map : (l : Laid A) (i : Item A) → put_item columns width (moved_laid d f l) (map_item f i) ≡ moved_laid d f (put_item columns width l i)
  put_item-map l i = rw (item_width-map f columns i)
      (if_same (moved_laid d f) (nat_le (l.width + item_width columns i) width) _ _ _ _ (extended-map l (i ∷ []) (map_item f i ∷ []) (item_width columns i) refl)
      (if_same (moved_laid d f) (nat_le (item_width columns i) width) _ _ _ _
      (ap (λ (m : Laid B). extended m (map_item f i ∷ []) (item_width columns i)) (end_line-map l) ∙ extended-map (end_line l) (i ∷ []) (map_item f i ∷ []) (item_width columns i) refl)
      (ap (λ (m : Laid B). end_line (extended m (map_item f i ∷ []) (item_width columns i))) (end_if_columns-map l)
      ∙ ap end_line (extended-map (end_if_columns l) (i ∷ []) (map_item f i ∷ []) (item_width columns i) refl) ∙ end_line-map (extended (end_if_columns l) (i ∷ []) (item_width columns i)))))

  pub put_items-map : (is : List (Item A)) (l : Laid A) → put_items columns width (moved_laid d f l) (map_items f is) ≡ moved_laid d f (put_items columns width l is)
  put_items-map [] l = refl
  put_items-map (i ∷ is) l = ap (λ (m : Laid B). put_items columns width m (map_items f is)) (put_item-map l i) ∙ put_items-map is (put_item columns width l i)

  spaces-map : (n : ℕ) (a : A) → spaces n (f a) ≡ map_items f (spaces n a)
  spaces-map zero a = refl
  spaces-map (suc n) a = ap (λ (is : List (Item B)). glyph 32 (f a) ∷ is) (spaces-map n a)

  put_space-map : (a : A) (l : Laid A) → put_space width (f a) (moved_laid d f l) ≡ moved_laid d f (put_space width a l)
  put_space-map a l =
      let m : Laid A = extended l (glyph 32 a ∷ []) 1 in
      let same : extended (moved_laid d f l) (glyph 32 (f a) ∷ []) 1 ≡ moved_laid d f m = extended-map l (glyph 32 a ∷ []) (glyph 32 (f a) ∷ []) 1 refl in
      if_same (moved_laid d f) (l.width + 1 == width) _ _ _ _ (ap end_line same ∙ end_line-map m) same

  put_spaces-map : (n : ℕ) (a : A) (l : Laid A) → put_spaces width (f a) n (moved_laid d f l) ≡ moved_laid d f (put_spaces width a n l)
  put_spaces-map zero a l = refl
  put_spaces-map (suc n) a l = ap (put_spaces width (f a) n) (put_space-map a l) ∙ put_spaces-map n a (put_space width a l)

  put_pending-map : (o : Option (Space A)) (l : Laid A) → put_pending width (option_map (map_space f) o) (moved_laid d f l) ≡ moved_laid d f (put_pending width o l)
  put_pending-map None l = refl
  put_pending-map (Some s) l = put_spaces-map s.width s.tag l

  put_tab-map : (column : ℕ) (a : A) (l : Laid A) → put_tab width column (f a) (moved_laid d f l) ≡ moved_laid d f (put_tab width column a l)
  put_tab-map column a l =
      let n : ℕ = 8 - column % 8 in
      if_same (moved_laid d f) (nat_le n (width - column)) _ _ _ _ (extended-map l (spaces n a) (spaces n (f a)) n (spaces-map n a))
      (ap end_line (extended-map l (spaces (width - column) a) (spaces (width - column) (f a)) (width - column) (spaces-map (width - column) a))
      ∙ end_line-map (extended l (spaces (width - column) a) (width - column)))

  -- ---- a word that doesn't fit

  without_leading-map : (is : List (Item A)) → without_leading (map_items f is) ≡ map_items f (without_leading is)
  without_leading-map [] = refl
  without_leading-map (glyph c a ∷ is) = if_same (map_items f) (is_white_item (glyph c a)) _ _ _ _ (without_leading-map is) refl
  without_leading-map (marker name ∷ is) = refl

  without_trailing-map : (is : List (Item A)) → without_trailing (map_items f is) ≡ map_items f (without_trailing is)
  without_trailing-map [] = refl
  without_trailing-map (i ∷ is) = go i (without_trailing is) refl (without_trailing-map is)
    where
      go : (i : Item A) (js : List (Item A)) → without_trailing is ≡ js →
          without_trailing (map_items f is) ≡ map_items f (without_trailing is) →
          without_trailing (map_items f (i ∷ is)) ≡ map_items f (without_trailing (i ∷ is))
      go (glyph c a) [] e h = rw (h, e) (if_same (map_items f) (is_space_item (glyph c a)) _ _ _ _ refl refl)
      go (marker name) [] e h = rw (h, e) refl
      go (glyph c a) (j ∷ js) e h = rw (h, e) refl
      go (marker name) (j ∷ js) e h = rw (h, e) refl

  trimmed-map : (l : Laid A) → trimmed columns (moved_laid d f l) ≡ moved_laid d f (trimmed columns l)
  trimmed-map l =
      ap (λ (is : List (Item B)). record { done = d ++ map_lines f l.done; line = is; width = items_width columns is }) (without_trailing-map l.line)
      ∙ ap (λ n. record { done = d ++ map_lines f l.done; line = map_items f (without_trailing l.line); width = n }) (items_width-map f columns (without_trailing l.line))

  space_of-map : (n : ℕ) (a : A) (m : WhiteSpace) → space_of n (f a) m ≡ option_map (map_space f) (space_of n a m)
  space_of-map zero a m = refl
  space_of-map (suc n) a m = refl

  space_text-map : (o : Option (Space A)) → space_text (option_map (map_space f) o) ≡ map_items f (space_text o)
  space_text-map None = refl
  space_text-map (Some s) = spaces-map s.width s.tag

  pending_width-map : (o : Option (Space A)) → pending_width (option_map (map_space f) o) ≡ pending_width o
  pending_width-map None = refl
  pending_width-map (Some s) = refl

  wrap_space_by-map : (p : Progress A) (s : Space A) (m : WhiteSpace) → wrap_space_by columns width (moved d f p) (map_space f s) m ≡ moved d f (wrap_space_by columns width p s m)
  wrap_space_by-map p s Normal = refl
  wrap_space_by-map p s Pre =
      if_same (moved d f) (nat_le (width - p.laid.width) s.width) _ _ _ _
      (ap (λ o. record (moved d f p) { space = o }) (space_of-map (s.width - (width - p.laid.width)) s.tag Pre))
      (ap (λ (l : Laid B). record (moved d f p) { laid = l; space = None }) (extended-map p.laid (spaces s.width s.tag) (spaces s.width (f s.tag)) s.width (spaces-map s.width s.tag)))
  wrap_space_by-map p s PreWrap =
      ap (λ (l : Laid B). record (moved d f p) { laid = l; space = None; word = without_leading (map_items f p.word) }) (trimmed-map p.laid)
      ∙ ap (λ is. record (moved d f p) { laid = moved_laid d f (trimmed columns p.laid); space = None; word = is }) (without_leading-map p.word)

  wrap_space-map : (p : Progress A) (o : Option (Space A)) → wrap_space columns width (moved d f p) (option_map (map_space f) o) ≡ moved d f (wrap_space columns width p o)
  wrap_space-map p None = refl
  wrap_space-map p (Some s) = wrap_space_by-map p s s.mode

  -- ---- a word

  lay_here-map : (p : Progress A) → lay_here columns (moved d f p) ≡ moved d f (lay_here columns p)
  lay_here-map p =
      let text = ap (λ is. is ++ map_items f p.word) (space_text-map p.space) ∙ sym (map-append (map_item f) (space_text p.space) p.word) in
      rw (pending_width-map p.space, items_width-map f columns p.word)
      (ap (λ (l : Laid B). record (moved d f p) { laid = l; space = None; word = []; continuation_flag = false })
      (extended-map p.laid (space_text p.space ++ p.word) (space_text (option_map (map_space f) p.space) ++ map_items f p.word) (pending_width p.space + items_width columns p.word) text))

  lay_fresh-map : (p : Progress A) → lay_fresh columns width (moved d f p) ≡ moved d f (lay_fresh columns width p)
  lay_fresh-map p =
      rw (has_character-map f columns p.word)
      (if_same (moved d f) (has_character p.word) _ _ _ _
      (ap (λ (l : Laid B). record (moved d f p) { laid = l; space = None; word = []; continuation_flag = is_pre p.mode })
      (ap (λ (l : Laid B). put_items columns width l (map_items f p.word)) same ∙ put_items-map p.word (put_pending width p.space (end_if_character p.laid))))
      (ap (λ (l : Laid B). record (moved d f p) { laid = l; space = None; continuation_flag = is_pre p.mode }) same))
    where
      same : put_pending width (option_map (map_space f) p.space) (end_if_character (moved_laid d f p.laid)) ≡ moved_laid d f (put_pending width p.space (end_if_character p.laid))
      same = ap (put_pending width (option_map (map_space f) p.space)) (end_if_character-map p.laid) ∙ put_pending-map p.space (end_if_character p.laid)

  lay-map : (p : Progress A) → lay columns width (moved d f p) ≡ moved d f (lay columns width p)
  lay-map p = grind (arith, pending_width-map, items_width-map, if_same, lay_here-map, wrap_space-map, lay_fresh-map)

  flush_word-map : (p : Progress A) → flush_word columns width (moved d f p) ≡ moved d f (flush_word columns width p)
  flush_word-map p =
      ap (λ b. if b then lay columns width (moved d f p) else moved d f p) (has_character-map f columns p.word)
      ∙ if_same (moved d f) (has_character p.word) (lay columns width p) p _ _ (lay-map p) refl

  break_word-map : (p : Progress A) → break_word columns width (moved d f p) ≡ moved d f (break_word columns width p)
  break_word-map p =
      ap (λ n. if nat_lt 0 n then lay columns width (moved d f p) else moved d f p) (items_width-map f columns p.word)
      ∙ if_same (moved d f) (nat_lt 0 (items_width columns p.word)) (lay columns width p) p _ _ (lay-map p) refl

  join-map : (c : ℕ) (a : A) (m : WhiteSpace) (p : Progress A) → join c (f a) m (moved d f p) ≡ moved d f (join c a m p)
  join-map c a m p =
      rw (has_character-map f columns p.word)
      (ap (λ is. record (moved d f p) { word = is; mode = (if has_character p.word then p.mode else m) }) (sym (map-append (map_item f) p.word (glyph c a ∷ []))))

  -- ---- the modes

  no_space-map : (o : Option (Space A)) → is_none (option_map (map_space f) o) ≡ is_none o
  no_space-map None = refl
  no_space-map (Some s) = refl

  collapse-map : (c : ℕ) (a : A) (p : Progress A) → collapse c (f a) (moved d f p) ≡ moved d f (collapse c a p)
  collapse-map c a p = rw (no_space-map p.space) (if_same (moved d f) (is_blank c && (nat_lt 0 p.laid.width && is_none p.space)) _ _ _ _ refl refl)

  pub newline-map : (p : Progress A) → newline (moved d f p) ≡ moved d f (newline p)
  newline-map p = ap (λ (l : Laid B). record (moved d f p) { laid = l; space = None; continuation_flag = false; in_continuation = false }) (end_line-map p.laid)

  pub tab-map : (a : A) (p : Progress A) → tab width (f a) (moved d f p) ≡ moved d f (tab width a p)
  tab-map a p = grind (arith, ℕ, pending_width-map, if_same, put_tab-map, end_if_character-map)

  tag_of-map : (p : Progress A) (a b : A) → tag_of (moved d f p) (f a) (f b) ≡ f (tag_of p a b)
  tag_of-map p a b = if_same f p.in_continuation b a (f b) (f a) refl refl

  keep_space-map : (c : ℕ) (a : A) (m : WhiteSpace) (o : Option ℕ) (p : Progress A) → keep_space c (f a) m o (moved d f p) ≡ moved d f (keep_space c a m o p)
  keep_space-map c a m None p = refl
  keep_space-map c a m (Some n) p =
      let waits : Progress B = record (moved d f p) { space = space_of (pending_width (option_map (map_space f) p.space) + n) (f a) m } in
      ap (λ b. if b then join c (f a) m (moved d f p) else waits) (has_character-map f columns p.word)
      ∙ if_same (moved d f) (has_character p.word) _ _ _ _ (join-map c a m p)
      (ap (λ k. record (moved d f p) { space = space_of (k + n) (f a) m }) (pending_width-map p.space) ∙ ap (λ o. record (moved d f p) { space = o }) (space_of-map (pending_width p.space + n) a m))

  passes-map : (n : ℕ) (p : Progress A) → passes columns width n (moved d f p) ≡ passes columns width n p
  passes-map n p = rw (pending_width-map p.space, items_width-map f columns p.word) refl

  keep_character-map : (c : ℕ) (a b : A) (m : WhiteSpace) (o : Option ℕ) (p : Progress A) →
      keep_character columns width c (f a) (f b) m o (moved d f p) ≡ moved d f
      (keep_character columns width c a b m o p)
  keep_character-map c a b m None p = refl
  keep_character-map c a b m (Some n) p = grind (arith, passes-map, if_same, join-map, tag_of-map)

  pub preserve-map : (c : ℕ) (a b : A) (m : WhiteSpace) (p : Progress A) → preserve columns width c (f a) (f b) m (moved d f p) ≡ moved d f (preserve columns width c a b m p)
  preserve-map c a b m p =
      if_same (moved d f) (c == 8203) _ _ _ _ refl
      (if_same (moved d f) (c == 10) _ _ _ _ (ap newline (flush_word-map p) ∙ newline-map (flush_word columns width p))
      (if_same (moved d f) (c == 9) _ _ _ _
      (ap (λ x. tab width x (flush_word columns width (moved d f p))) tagged
      ∙ ap (tab width (f (tag_of p a b))) (flush_word-map p) ∙ tab-map (tag_of p a b) (flush_word columns width p))
      (if_same (moved d f) (is_blank c) _ _ _ _
      (ap (λ x. keep_space c x m (columns c) (moved d f p)) tagged
      ∙ keep_space-map c (tag_of p a b) m (columns c) p) (keep_character-map c a b m (columns c) p))))
    where
      tagged : tag_of (moved d f p) (f a) (f b) ≡ f (tag_of p a b)
      tagged = tag_of-map p a b

  enter-map : (p : Progress A) (e : Entry A) → enter columns width (moved d f p) (map_entry f e) ≡ moved d f (enter columns width p e)
  enter-map p (marker_entry name) = ap (λ is. record (moved d f p) { word = is }) (sym (map-append (map_item f) p.word (marker name ∷ [])))
  enter-map p (character c a b Normal) =
      let x : A = tag_of p a b in
      ap (λ y. enter_by y) (tag_of-map p a b)
      ∙ if_same (moved d f) (is_break c) _ _ _ _ (ap (collapse c (f x)) (break_word-map p) ∙ collapse-map c x (break_word columns width p))
      (if_same (moved d f) (is_some (columns c)) _ _ _ _ (join-map c x Normal p) refl)
    where
      enter_by : B → Progress B
      enter_by y = if is_break c then collapse c y (break_word columns width (moved d f p)) else (if is_some (columns c) then join c y Normal (moved d f p) else moved d f p)
  enter-map p (character c a b Pre) = preserve-map c a b Pre p
  enter-map p (character c a b PreWrap) =
      ap (preserve columns width c (f a) (f b) PreWrap) (if_same (moved d f) (is_break c) _ _ _ _ (break_word-map p) refl)
      ∙ preserve-map c a b PreWrap (if is_break c then break_word columns width p else p)

  pub step-map : (p : Progress A) (e : Event A) → step columns width (moved d f p) (map_event f e) ≡ moved d f (step columns width p e)
  step-map p call = refl
  step-map p (entry e) = enter-map p e

  pub steps-map : (es : List (Event A)) (p : Progress A) → fold (step columns width) (moved d f p) (map_events f es) ≡ moved d f (fold (step columns width) p es)
  steps-map [] p = refl
  steps-map (e ∷ es) p = ap (λ q. fold (step columns width) q (map_events f es)) (step-map p e) ∙ steps-map es (step columns width p e)

  pub finished_moved : (p : Progress A) → finished columns width (moved d f p) ≡ moved_laid d f (finished columns width p)
  finished_moved p = ap (λ (q : Progress B). end_if_character q.laid) (flush_word-map p) ∙ end_if_character-map (flush_word columns width p).laid

  waiting_moved : (p : Progress A) → waiting columns width (moved d f p) ≡ map_items f (waiting columns width p)
  waiting_moved p = grind (arith, flush_word-map, end_if_character-map, map-append)

module _ {A B : Type 0} (f : A → B) (columns : ℕ → Option ℕ) (width : ℕ) where
  pub progress-map : (es : List (Event A)) → progress columns width (map_events f es) ≡ map_progress f (progress columns width es)
  progress-map es = steps-map [] f columns width es at_start

  pub finished-map : (p : Progress A) → finished columns width (map_progress f p) ≡ map_laid f (finished columns width p)
  finished-map = finished_moved [] f columns width

  pub waiting-map : (p : Progress A) → waiting columns width (map_progress f p) ≡ map_items f (waiting columns width p)
  waiting-map = waiting_moved [] f columns width

pub ruleset rule_maps = (progress-map, finished-map, waiting-map)
