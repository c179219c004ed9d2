-- The rule, walked once: what each elementary change keeps holds of all that the rule lays.
use Rattle.tbr_model.proofs.Common.{◌≡◌, ◌≢◌, ℕ, zero, suc, ◌+◌, ◌-◌, ◌%◌, ◌<◌, ◌≤◌, ◌==◌, ◌&&◌, ◌⊎◌, inl, inr, nat_le, nat_lt, Bool, true, false, not, if◌then◌else◌, is_some, is_none, Option, Some}
use Rattle.tbr_model.proofs.Common.{None, List, [], ◌∷◌, ◌++◌, fold, refl, ap, sym, subst, append_assoc, append-nil, arith, leb-true, leb-false, ltb-true, Each, cond_both, eqb-true, and_left}
use Rattle.tbr_model.proofs.Common.{and_parts, or_right, WhiteSpace, Normal, Pre, PreWrap, Entry, character, marker_entry, Item, glyph, marker, item_width, items_width, has_character, is_blank}
use Rattle.tbr_model.proofs.Common.{is_break, is_kept, Laid, nothing_laid, extended, end_line, end_if_character, put_item, put_items, Event, call, entry, run_of, Space, Progress, at_start, spaces}
use Rattle.tbr_model.proofs.Common.{pending_width, space_text, is_white_item, without_leading, trimmed, space_of, wrap_space_by, wrap_space, put_space, put_spaces, put_pending, is_pre, lay_here}
use Rattle.tbr_model.proofs.Common.{lay_fresh, lay, flush_word, break_word, join, collapse, newline, put_tab, tab, keep_space, passes, tag_of, keep_character, preserve, enter_normal, enter, step}
use Rattle.tbr_model.proofs.Common.{progress, finished}
use Rattle.std.proofs.lemmas.Bool.{eqb-false}
use Rattle.tbr_model.specs.Codes.{zero_width_space}
use Rattle.tbr_model.proofs.words.Items.{break_lost}

-- A kept character may join a word, and white space that has a width in a preserving mode.
abbrev pub MayJoin : (ℕ → Option ℕ) → WhiteSpace → ℕ → Type 0
MayJoin columns mode c = (is_kept columns c ≡ true) ⊎ ((is_blank c ≡ true) × (mode ≢ Normal) × (columns c ≢ None))

-- A relation of the entries that came, what is laid and the word under way, that each elementary change keeps. An entry
-- has a property, and so have its annotations and its mode. Where rooms are asked for, it is known that a space has
-- room.
pub record KeptByRule {A : Type 0} (columns : ℕ → Option ℕ) (width : ℕ) (Comes : Entry A → Type 0) (Tag : A → Type 0) (Mode : WhiteSpace → Type 0) (Rooms : Type 0)
    (R : List (Entry A) → Laid A → List (Item A) → Type 0) : Type 0 where
  pub tags : (c : ℕ) (a b : A) (m : WhiteSpace) → Comes (character c a b m) → Tag a × Tag b × Mode m
  pub some : Rooms → 0 < width
  pub bare : Rooms → (es : List (Entry A)) (l : Laid A) (w : List (Item A)) → R es l w → has_character l.line ≡ false → l.width ≡ 0
  -- the word's first item goes on the open line, or fits none and fills an empty one
  pub item : (es : List (Entry A)) (l : Laid A) (i : Item A) (w : List (Item A)) → l.width + item_width columns i ≤ width → R es l (i ∷ w) → R es (extended l (i ∷ []) (item_width columns i)) w
  pub wide : (es : List (Entry A)) (l : Laid A) (i : Item A) (w : List (Item A)) → l.width ≡ 0 →
      width < item_width columns i → R es l (i ∷ w) → R es (end_line (extended l (i ∷ []) (item_width columns i))) w
  pub space : (es : List (Entry A)) (l : Laid A) (w : List (Item A)) (a : A) → (Rooms → l.width < width) → Tag a → R es l w → R es (extended l (glyph 32 a ∷ []) 1) w
  pub ended : (es : List (Entry A)) (l : Laid A) (w : List (Item A)) → R es l w → R es (end_line l) w
  -- in `PreWrap` the spaces at the end of the line are dropped, and the white space in front of the word
  pub trims : Mode PreWrap → (es : List (Entry A)) (l : Laid A) (w : List (Item A)) → R es l w → R es (trimmed columns l) w
  pub white : Mode PreWrap → (es : List (Entry A)) (l : Laid A) (i : Item A) (w : List (Item A)) → is_white_item i ≡ true → R es l (i ∷ w) → R es l w
  -- an entry comes: its item joins the word, or none does
  pub joins : (es : List (Entry A)) (l : Laid A) (w : List (Item A)) (c : ℕ) (a b : A) (m : WhiteSpace) (x : A) →
      Comes (character c a b m) → (x ≡ a) ⊎ ((x ≡ b) × Mode Pre) → MayJoin columns m c → R es l w →
      R (es ++ character c a b m ∷ []) l (w ++ glyph c x ∷ [])
  pub marks : (es : List (Entry A)) (l : Laid A) (w : List (Item A)) (name : List ℕ) → Comes (marker_entry name) → R es l w → R (es ++ marker_entry name ∷ []) l (w ++ marker name ∷ [])
  pub lost : (es : List (Entry A)) (l : Laid A) (w : List (Item A)) (c : ℕ) (a b : A) (m : WhiteSpace) → is_kept columns c ≡ false → R es l w → R (es ++ character c a b m ∷ []) l w

pub extended_twice : {A : Type 0} (l : Laid A) (is js : List (Item A)) (n m k : ℕ) → n + m ≡ k → extended (extended l is n) js m ≡ extended l (is ++ js) k
extended_twice l is js n m k e = grind (arith, append_assoc)

pub extended_nothing : {A : Type 0} (l : Laid A) → extended l [] 0 ≡ l
extended_nothing l = grind (arith, append-nil)

known_kept : (columns : ℕ → Option ℕ) (c : ℕ) → is_some (columns c) ≡ true → is_break c ≡ false → is_kept columns c ≡ true
known_kept columns c some unbroken = rw (some, unbroken) refl

unknown_lost : (columns : ℕ → Option ℕ) (c : ℕ) → is_some (columns c) ≡ false → is_kept columns c ≡ false
unknown_lost columns c h = and_left (is_some (columns c)) (not (is_break c)) h

-- where an entry needs nothing
pub any_entries : {A : Type 0} (es : List (Entry A)) → Each (λ e. Unit {0}) es
any_entries [] = tt
any_entries (e ∷ es) = (tt, any_entries es)

module _ {A : Type 0} {columns : ℕ → Option ℕ} {width : ℕ} {Comes : Entry A → Type 0} {Tag : A → Type 0}
    {Mode : WhiteSpace → Type 0} {Rooms : Type 0} {R : List (Entry A) → Laid A → List (Item A) → Type 0}
    (k : KeptByRule columns width Comes Tag Mode Rooms R) where
  abbrev pub Waits : Option (Space A) → Type 0
  Waits None = Unit {0}
  Waits (Some s) = Tag s.tag × Mode s.mode

  abbrev pub OnlyPre : Bool → Type 0
  OnlyPre b = b ≡ true → Mode Pre

  -- What is laid and the word have the relation, space that waits has its properties, and only `Pre` goes on.
  pub record Stands (es : List (Entry A)) (p : Progress A) : Type 0 where
    pub laid : R es p.laid p.word
    pub space : Waits p.space
    pub flags : OnlyPre (is_pre p.mode) × OnlyPre p.continuation_flag × OnlyPre p.in_continuation

  waits_of : (n : ℕ) (a : A) (m : WhiteSpace) → Tag a → Mode m → Waits (space_of n a m)
  waits_of zero a m t h = tt
  waits_of (suc n) a m t h = (t, h)

  mode_pre : (m : WhiteSpace) → Mode m → OnlyPre (is_pre m)
  mode_pre Normal h = λ e. cc
  mode_pre Pre h = λ _. h
  mode_pre PreWrap h = λ e. cc

  module _ (es : List (Entry A)) where
    -- ---- what is laid

    items_here : (is : List (Item A)) (l : Laid A) → l.width + items_width columns is ≤ width → R es l is → R es (extended l is (items_width columns is)) []
    items_here [] l room r = subst (λ (m : Laid A). R es m []) (sym (extended_nothing l)) r
    items_here (i ∷ is) l room r =
        subst (λ (m : Laid A). R es m []) (extended_twice l (i ∷ []) is (item_width columns i) (items_width columns is) (items_width columns (i ∷ is)) refl)
        (items_here is (extended l (i ∷ []) (item_width columns i)) (omega (arith, room)) (k.item es l i is (omega (arith, room)) r))

    spaces_here : (n : ℕ) (a : A) (l : Laid A) (w : List (Item A)) → (Rooms → l.width + n ≤ width) → Tag a → R es l w → R es (extended l (spaces n a) n) w
    spaces_here zero a l w room t r = subst (λ (m : Laid A). R es m w) (sym (extended_nothing l)) r
    spaces_here (suc n) a l w room t r =
        subst (λ (m : Laid A). R es m w) (extended_twice l (glyph 32 a ∷ []) (spaces n a) 1 n (suc n) (omega arith))
        (spaces_here n a (extended l (glyph 32 a ∷ []) 1) w (λ s. omega (arith, room s)) t (k.space es l w a (λ s. omega (arith, room s)) t r))

    text_here : (o : Option (Space A)) (l : Laid A) (w : List (Item A)) → (Rooms → l.width + pending_width o ≤ width) → Waits o → R es l w → R es (extended l (space_text o) (pending_width o)) w
    text_here None l w room t r = subst (λ (m : Laid A). R es m w) (sym (extended_nothing l)) r
    text_here (Some s) l w room t r = spaces_here s.width s.tag l w room t.0 r

    fresh : (l : Laid A) (w : List (Item A)) → R es l w → R es (end_if_character l) w × (Rooms → (end_if_character l).width ≡ 0)
    fresh l w r =
        cond_both (has_character l.line) _ _ (λ (m : Laid A). R es m w × (Rooms → m.width ≡ 0)) (λ _. (k.ended es l w r, λ _. refl)) (λ none. (r, λ s. k.bare s es l w r none))

    item_put : (l : Laid A) (i : Item A) (w : List (Item A)) → R es l (i ∷ w) → R es (put_item columns width l i) w
    item_put l i w r = grind (arith, cond_both, leb-true, eqb-true, leb-false)

    items_put : (is : List (Item A)) (l : Laid A) → R es l is → R es (put_items columns width l is) []
    items_put [] l r = r
    items_put (i ∷ is) l r = items_put is (put_item columns width l i) (item_put l i is r)

    spaces_put : (n : ℕ) (a : A) (l : Laid A) (w : List (Item A)) → (Rooms → l.width < width) → Tag a → R es l w → R es (put_spaces width a n l) w
    spaces_put zero a l w room t r = r
    spaces_put (suc n) a l w room t r =
        let m : Laid A = extended l (glyph 32 a ∷ []) 1 in
        let placed = k.space es l w a room t r in
        let put =
        cond_both (l.width + 1 == width) (end_line m) m (λ (q : Laid A). R es q w × (Rooms → q.width < width))
        (λ _. (k.ended es m w placed, λ s. k.some s))
        (λ e. (placed, λ s. omega (arith, room s, eqb-false _ _ e))) in
        spaces_put n a (put_space width a l) w put.1 t put.0

    pending_put : (o : Option (Space A)) (l : Laid A) (w : List (Item A)) → (Rooms → l.width < width) → Waits o → R es l w → R es (put_pending width o l) w
    pending_put None l w room t r = r
    pending_put (Some s) l w room t r = spaces_put s.width s.tag l w room t.0 r

    tab_put : (column : ℕ) (a : A) (l : Laid A) (w : List (Item A)) → (Rooms → l.width ≤ column) → (Rooms → column < width) → Tag a → R es l w → R es (put_tab width column a l) w
    tab_put column a l w reaches within t r =
        cond_both (nat_le (8 - column % 8) (width - column)) _ _ (λ (m : Laid A). R es m w)
        (λ e. spaces_here (8 - column % 8) a l w (λ s. omega (arith, reaches s, within s, leb-true _ _ e)) t r)
        (λ _. k.ended es (extended l (spaces (width - column) a) (width - column)) w (spaces_here (width - column) a l w (λ s. omega (arith, reaches s, within s)) t r))

    -- ---- a word

    leading : Mode PreWrap → (is : List (Item A)) (l : Laid A) → R es l is → R es l (without_leading is)
    leading m [] l r = r
    leading m (i ∷ is) l r = cond_both (is_white_item i) _ _ (R es l) (λ e. leading m is l (k.white m es l i is e r)) (λ _. r)

    wrapped_by : (p : Progress A) (s : Space A) (m : WhiteSpace) → Tag s.tag → Mode m → Stands es p → Stands es (wrap_space_by columns width p s m)
    wrapped_by p s Normal t m h = record { laid = h.laid; space = tt; flags = h.flags }
    wrapped_by p s Pre t m h = grind (arith, cond_both, waits_of, spaces_here, leb-false)
    wrapped_by p s PreWrap t m h = record { laid = leading m p.word (trimmed columns p.laid) (k.trims m es p.laid p.word h.laid); space = tt; flags = h.flags }

    pub wrapped : (p : Progress A) (o : Option (Space A)) → Waits o → Stands es p → Stands es (wrap_space columns width p o)
    wrapped p None t h = h
    wrapped p (Some s) t h = wrapped_by p s s.mode t.0 t.1 h

    laid_here : (p : Progress A) → p.laid.width + (pending_width p.space + items_width columns p.word) ≤ width → Stands es p → Stands es (lay_here columns p)
    laid_here p room h = record {
      laid =
          subst (λ (m : Laid A). R es m [])
          (extended_twice p.laid (space_text p.space) p.word (pending_width p.space) (items_width columns p.word)
          (pending_width p.space + items_width columns p.word) refl)
          (items_here p.word (extended p.laid (space_text p.space) (pending_width p.space)) (omega (arith, room)) (text_here p.space p.laid p.word (λ _. omega (arith, room)) h.space h.laid));
      space = tt;
      flags = (h.flags.0, (λ e. cc), h.flags.2);
    }

    laid_fresh : (p : Progress A) → Stands es p → Stands es (lay_fresh columns width p)
    laid_fresh p h = grind (arith, fresh, pending_put, cond_both, items_put)

    pub word_laid : (p : Progress A) → Stands es p → Stands es (lay columns width p)
    word_laid p h = grind (arith, cond_both, laid_here, leb-true, laid_fresh, wrapped)

    pub word_flushed : (p : Progress A) → Stands es p → Stands es (flush_word columns width p)
    word_flushed p h = cond_both (has_character p.word) _ _ (Stands es) (λ _. word_laid p h) (λ _. h)

    pub word_broken : (p : Progress A) → Stands es p → Stands es (break_word columns width p)
    word_broken p h = cond_both (nat_lt 0 (items_width columns p.word)) _ _ (Stands es) (λ _. word_laid p h) (λ _. h)

    -- ---- an entry

    pub line_ended : (p : Progress A) → Stands es p → Stands es (newline p)
    line_ended p h = record { laid = k.ended es p.laid p.word h.laid; space = tt; flags = (h.flags.0, (λ e. cc), (λ e. cc)) }

    tabbed : (a : A) (p : Progress A) → Tag a → Stands es p → Stands es (tab width a p)
    tabbed a p t h = grind (arith, cond_both, tab_put, ltb-true, fresh)

    module _ (c : ℕ) (a b : A) (m : WhiteSpace) (comes : Comes (character c a b m)) where
      abbrev entered : List (Entry A)
      entered = es ++ character c a b m ∷ []

      tagged : (p : Progress A) → Tag (tag_of p a b)
      tagged p = let t = k.tags c a b m comes in cond_both p.in_continuation _ _ Tag (λ _. t.1) (λ _. t.0)

      either : (p : Progress A) → Stands es p → (tag_of p a b ≡ a) ⊎ ((tag_of p a b ≡ b) × Mode Pre)
      either p h = cond_both p.in_continuation _ _ (λ (x : A). (x ≡ a) ⊎ ((x ≡ b) × Mode Pre)) (λ e. inr (refl, h.flags.2 e)) (λ _. inl refl)

      mode_joined : (p : Progress A) → Stands es p → OnlyPre (is_pre (if has_character p.word then p.mode else m))
      mode_joined p h = cond_both (has_character p.word) p.mode m (λ (n : WhiteSpace). OnlyPre (is_pre n)) (λ _. h.flags.0) (λ _. mode_pre m (k.tags c a b m comes).2)

      passed : (p : Progress A) → is_kept columns c ≡ false → Stands es p → Stands entered p
      passed p gone h = record { laid = k.lost es p.laid p.word c a b m gone h.laid; space = h.space; flags = h.flags }

      joined : (p : Progress A) → MayJoin columns m c → Stands es p → Stands entered (join c (tag_of p a b) m p)
      joined p may h = record { laid = k.joins es p.laid p.word c a b m (tag_of p a b) comes (either p h) may h.laid; space = h.space; flags = (mode_joined p h, h.flags.1, h.flags.2) }

      waits : (n : ℕ) (p : Progress A) → is_kept columns c ≡ false → MayJoin columns m c → Stands es p → Stands entered (keep_space c (tag_of p a b) m (Some n) p)
      waits n p gone may h = grind (arith, cond_both, waits_of, tagged)

      spaced : (o : Option ℕ) (p : Progress A) → columns c ≡ o → is_kept columns c ≡ false → is_blank c ≡ true → m ≢ Normal → Stands es p → Stands entered (keep_space c (tag_of p a b) m o p)
      spaced None p e gone blank preserving h = passed p gone h
      spaced (Some n) p e gone blank preserving h = waits n p gone (inr (blank, preserving, λ none. cc)) h

      kept : (o : Option ℕ) (p : Progress A) → columns c ≡ o → is_break c ≡ false → Stands es p → Stands entered (keep_character columns width c a b m o p)
      kept None p e unbroken h = passed p (unknown_lost columns c (ap is_some e)) h
      kept (Some n) p e unbroken h =
          let may : MayJoin columns m c = inl (known_kept columns c (ap is_some e) unbroken) in
          cond_both (is_pre m && passes columns width n p) _ _ (Stands entered)
          (λ past.
          let pre = mode_pre m (k.tags c a b m comes).2 (and_parts (is_pre m) (passes columns width n p) past).0 in
          record { laid = k.joins es p.laid p.word c a b m b comes (inr (refl, pre)) may h.laid; space = h.space; flags = (mode_joined p h, (λ _. pre), (λ _. pre)) }) (λ _. joined p may h)

      broken : (n : ℕ) → c == n ≡ true → is_break n ≡ true → is_kept columns c ≡ false
      broken n e breaks = let same : c ≡ n = eqb-true c n e in break_lost columns c (rw same breaks)

      preserved : (p : Progress A) → m ≢ Normal → Stands es p → Stands entered (preserve columns width c a b m p)
      preserved p preserving h =
          let f = word_flushed p h in
          let q : Progress A = flush_word columns width p in
          cond_both (c == 8203) _ _ (Stands entered) (λ e. passed p (broken 8203 e refl) h)
          (λ other. cond_both (c == 10) _ _ (Stands entered) (λ e. passed (newline q) (broken 10 e refl) (line_ended q f))
          (λ _. cond_both (c == 9) _ _ (Stands entered) (λ e. passed (tab width (tag_of p a b) q) (broken 9 e refl) (tabbed (tag_of p a b) q (tagged p) f))
          (λ _. cond_both (is_blank c) _ _ (Stands entered) (λ blank. spaced (columns c) p refl (break_lost columns c (or_right (c == zero_width_space) (is_blank c) blank)) blank preserving h)
          (λ visible. kept (columns c) p refl (rw (other, visible) refl) h))))

    normal : (c : ℕ) (a b : A) (p : Progress A) → Comes (character c a b Normal) → Stands es p → Stands (es ++ character c a b Normal ∷ []) (enter_normal columns width c (tag_of p a b) p)
    normal c a b p comes h =
        let q : Progress A = break_word columns width p in
        let l = word_broken p h in
        let collapsed : Stands es (collapse c (tag_of p a b) q) =
        cond_both (is_blank c && (nat_lt 0 q.laid.width && is_none q.space)) _ _ (Stands es)
        (λ _.
        record { laid = l.laid; space = (tagged c a b Normal comes p, (k.tags c a b Normal comes).2); flags = l.flags })
        (λ _. l) in
        cond_both (is_break c) _ _ (Stands (es ++ character c a b Normal ∷ [])) (λ e. passed c a b Normal comes (collapse c (tag_of p a b) q) (break_lost columns c e) collapsed)
        (λ unbroken. cond_both (is_some (columns c)) _ _ (Stands (es ++ character c a b Normal ∷ [])) (λ some. joined c a b Normal comes p (inl (known_kept columns c some unbroken)) h)
        (λ none. passed c a b Normal comes p (unknown_lost columns c none) h))

    pub one_entered : (p : Progress A) (e : Entry A) → Comes e → Stands es p → Stands (es ++ e ∷ []) (enter columns width p e)
    one_entered p (marker_entry name) comes h = record { laid = k.marks es p.laid p.word name comes h.laid; space = h.space; flags = h.flags }
    one_entered p (character c a b Normal) comes h = normal c a b p comes h
    one_entered p (character c a b Pre) comes h = preserved c a b Pre comes p (λ e. cc) h
    one_entered p (character c a b PreWrap) comes h =
        preserved c a b PreWrap comes (if is_break c then break_word columns width p else p) (λ e. cc) (cond_both (is_break c) _ _ (Stands es) (λ _. word_broken p h) (λ _. h))

    -- ---- the end of a run

    pub run_ended : (p : Progress A) → Stands es p → R es (finished columns width p) (flush_word columns width p).word
    run_ended p h = (fresh (flush_word columns width p).laid (flush_word columns width p).word (word_flushed p h).laid).0

  -- ---- a run

  pub walked : (events : List (Event A)) (es : List (Entry A)) (p : Progress A) → Each Comes (run_of events) → Stands es p → Stands (es ++ run_of events) (fold (step columns width) p events)
  walked [] es p comes h = subst (λ (fs : List (Entry A)). Stands fs p) (sym (append-nil es)) h
  walked (call ∷ events) es p comes h =
      walked events es (record p { in_continuation = p.continuation_flag }) comes (record { laid = h.laid; space = h.space; flags = (h.flags.0, h.flags.1, h.flags.1) })
  walked (entry e ∷ events) es p comes h = grind (arith, append_assoc, one_entered, walked events (es ++ e ∷ []) (enter columns width p e) comes.1 (one_entered es p e comes.0 h))

  pub run_walked : (events : List (Event A)) → R [] nothing_laid [] → Each Comes (run_of events) → Stands (run_of events) (progress columns width events)
  run_walked events start comes = walked events [] at_start comes (record { laid = start; space = tt; flags = ((λ e. cc), (λ e. cc), (λ e. cc)) })
