-- The left-to-right reading finds the words between the working break points.
use Rattle.tbr_model.proofs.Common.{◌≡◌, ℕ, zero, suc, ◌+◌, Bool, true, false, ◌&&◌, ◌||◌, nat_lt, if◌then◌else◌, IsTrue, Option, Some, None, List, [], ◌∷◌, ◌++◌, fold, flat_map, refl, ap, sym, ◌∙◌}
use Rattle.tbr_model.proofs.Common.{inl, inr, arith, append_assoc, append-nil, subst, lt-ltb, Each, list_any, flat_map-append, fold-append, and_parts, false_from_ne_true, cases_Bool, both_ways, Entry}
use Rattle.tbr_model.proofs.Common.{character, marker_entry, Item, items_width, items_of, kept_items, is_break, is_break_entry, blank_of, first_of, has_character, Word, word_of, Reading, works, read}
use Rattle.tbr_model.proofs.Common.{words_of, trailing, takes_columns, HasColumns, NoBreakWorks, EndsAtWorkingBreak, first_blank, word_after}
use Rattle.std.proofs.lemmas.Bool.{and_from}
use Rattle.tbr_model.specs.Regions.{Region, region_entries, IsParted, words_after, words_between, markers_left}
use Rattle.tbr_model.proofs.words.Items.{items_width-append}
use Rattle.tbr_model.proofs.lists.Joined.{cut_twice}
use Rattle.tbr_model.proofs.lists.Each.{each_append, if_same}

-- ---- a kept character of positive width, and the width of kept items

pub lt-zero-add : (a b : ℕ) → nat_lt 0 (a + b) ≡ nat_lt 0 a || nat_lt 0 b
lt-zero-add zero b = ap (nat_lt 0) (let e : 0 + b ≡ b = omega arith in e)
lt-zero-add (suc a) b = rw (lt-ltb 0 (suc a + b) (omega arith), lt-ltb 0 (suc a) (omega arith)) refl

takes_columns_width : {A : Type 0} (columns : ℕ → Option ℕ) (e : Entry A) → takes_columns columns e ≡ nat_lt 0 (items_width columns (items_of columns e))
takes_columns_width columns (character c a b mode) = grind (arith, cases_Bool)
takes_columns_width columns (marker_entry name) = refl

pub has_columns_width : {A : Type 0} (columns : ℕ → Option ℕ) (es : List (Entry A)) → list_any (takes_columns columns) es ≡ nat_lt 0 (items_width columns (kept_items columns es))
has_columns_width columns [] = refl
has_columns_width columns (e ∷ es) = grind (arith, takes_columns_width, lt-zero-add, items_width-append, has_columns_width columns es)

kept_more : {A : Type 0} (columns : ℕ → Option ℕ) (es : List (Entry A)) (e : Entry A) → kept_items columns (es ++ e ∷ []) ≡ kept_items columns es ++ items_of columns e
kept_more columns es e = simp (flat_map-append, append-nil)

-- ---- reading on where no break point works

first_of_assoc : {A : Type 0} (a b c : Option A) → first_of (first_of a b) c ≡ first_of a (first_of b c)
first_of_assoc None b c = refl
first_of_assoc (Some x) b c = refl

pub first_of_none : {A : Type 0} (a : Option A) → first_of a None ≡ a
first_of_none None = refl
first_of_none (Some x) = refl

pub first_blank-append : {A : Type 0} (a b : List (Entry A)) → first_blank (a ++ b) ≡ first_of (first_blank a) (first_blank b)
first_blank-append [] b = refl
first_blank-append (e ∷ a) b = ap (first_of (blank_of e)) (first_blank-append a b) ∙ sym (first_of_assoc (blank_of e) (first_blank a) (first_blank b))

-- where the reading has read, since the last working break point, these entries after that break point
abbrev pub read_since : {A : Type 0} → (ℕ → Option ℕ) → List (Word A) → List (Entry A) → List (Entry A) → Reading A
read_since columns words before since = record { words = words; gap = first_blank (before ++ since); items = kept_items columns since }

goes_on : {A : Type 0} (columns : ℕ → Option ℕ) (words : List (Word A)) (before since : List (Entry A)) (e : Entry A) →
    (IsTrue (is_break_entry e) → ¬ HasColumns columns since) → read columns (read_since columns words before since) e ≡ read_since columns words before (since ++ e ∷ [])
goes_on {A} columns words before since e h =
    rw stays same
  where
    stays : works columns (read_since columns words before since) e ≡ false
    stays = elim (cases_Bool (is_break_entry e)) [ inl k ↦ rw k (sym (has_columns_width columns since) ∙ false_from_ne_true _ (h k)) | inr k ↦ rw k refl ]

    blank : first_of (first_blank (before ++ since)) (blank_of e) ≡ first_blank (before ++ (since ++ e ∷ []))
    blank = ap (first_of (first_blank (before ++ since))) (sym (first_of_none (blank_of e))) ∙ sym (first_blank-append (before ++ since) (e ∷ [])) ∙ ap first_blank (append_assoc before since (e ∷ []))

    same : let r : Reading A =
        record {
          words = words;
          gap = first_of (first_blank (before ++ since)) (blank_of e);
          items =
              kept_items columns since ++ items_of columns e;
        } in r ≡ read_since columns words before (since ++ e ∷ [])
    same = rw (← kept_more columns since e) (ap (λ (gap : Option A). let r : Reading A = record { words = words; gap = gap; items = kept_items columns (since ++ e ∷ []) } in r) blank)

pub still : {A : Type 0} (columns : ℕ → Option ℕ) (words : List (Word A)) (before since es : List (Entry A)) → NoBreakWorks columns (since ++ es) →
    fold (read columns) (read_since columns words before since) es ≡ read_since columns words before (since ++ es)
still columns words before since [] h = ap (read_since columns words before) (sym (append-nil since))
still {A} columns words before since (e ∷ es) h =
    ap (λ (r : Reading A). fold (read columns) r es) (goes_on columns words before since e (h since e es refl))
    ∙ still columns words before (since ++ e ∷ []) es (subst (NoBreakWorks columns) (sym (append_assoc since (e ∷ []) es)) h)
    ∙ ap (read_since columns words before) (append_assoc since (e ∷ []) es)

-- ---- reading over the regions

stops : {A : Type 0} (columns : ℕ → Option ℕ) (words : List (Word A)) (before : List (Entry A)) (r : Region A) → EndsAtWorkingBreak columns r →
    read columns (read_since columns words before r.content) r.break ≡ read_since columns (words ++ word_after columns before r.content ∷ []) (r.break ∷ []) []
stops {A} columns words before r h =
    rw ends (ap (λ (gap : Option A). let q : Reading A = record { words = words ++ word_after columns before r.content ∷ []; gap = gap; items = [] } in q) (sym (first_of_none (blank_of r.break))))
  where
    ends : works columns (read_since columns words before r.content) r.break ≡ true
    ends = and_from _ _ h.is_break (sym (has_columns_width columns r.content) ∙ h.works)

pub over_region : {A : Type 0} (columns : ℕ → Option ℕ) (words : List (Word A)) (before : List (Entry A)) (r : Region A) (es : List (Entry A)) → EndsAtWorkingBreak columns r →
    fold (read columns) (read_since columns words before []) (region_entries r ++ es) ≡ fold (read columns)
    (read_since columns (words ++ word_after columns before r.content ∷ []) (r.break ∷ []) []) es
over_region {A} columns words before r es h =
    fold-append (read columns) (read_since columns words before []) (r.content ++ r.break ∷ []) es
    ∙ ap (λ (q : Reading A). fold (read columns) q es) (
    fold-append (read columns) (read_since columns words before []) r.content (r.break ∷ [])
    ∙ ap (λ (q : Reading A). read columns q r.break) (still columns words before [] r.content h.none_before)
    ∙ stops columns words before r h
    )

finished : {A : Type 0} → Reading A → List (Word A)
finished r = if has_character r.items then r.words ++ word_of r ∷ [] else r.words

left : {A : Type 0} → Reading A → List (Item A)
left r = if has_character r.items then [] else r.items

over_rest : {A : Type 0} (columns : ℕ → Option ℕ) (words : List (Word A)) (before rest : List (Entry A)) →
    (finished (read_since columns words before rest) ≡ words ++ words_after columns before [] rest) × (left (read_since columns words before rest) ≡ markers_left columns rest)
unfolding finished left
over_rest {A} columns words before rest = (if_same (λ (ws : List (Word A)). words ++ ws) (has_character (kept_items columns rest)) _ _ _ _ refl (sym (append-nil words)), refl)

over_parts : {A : Type 0} (columns : ℕ → Option ℕ) (words : List (Word A)) (before : List (Entry A)) (regions : List (Region A)) (rest : List (Entry A)) →
    Each (EndsAtWorkingBreak columns) regions → NoBreakWorks columns rest →
    let r = fold (read columns) (read_since columns words before []) (flat_map region_entries regions ++ rest) in
    (finished r ≡ words ++ words_after columns before regions rest) × (left r ≡ markers_left columns rest)
over_parts {A} columns words before [] rest each last =
    rw (still columns words before [] rest last) (over_rest columns words before rest)
over_parts {A} columns words before (r ∷ rs) rest each last =
    let whole : (region_entries r ++ flat_map region_entries rs) ++ rest ≡ region_entries r ++
    (flat_map region_entries rs ++ rest) = append_assoc (region_entries r) (flat_map region_entries rs) rest in
    let read_all = ap (fold (read columns) (read_since columns words before [])) whole ∙ over_region columns words before r (flat_map region_entries rs ++ rest) each.0 in
    let later = over_parts columns (words ++ word_after columns before r.content ∷ []) (r.break ∷ []) rs rest each.1 last in
    (ap finished read_all ∙ later.0 ∙ append_assoc words (word_after columns before r.content ∷ []) (words_after columns (r.break ∷ []) rs rest), ap left read_all ∙ later.1)

pub words_parted : {A : Type 0} (columns : ℕ → Option ℕ) (run : List (Entry A)) (regions : List (Region A)) (rest : List (Entry A)) → IsParted columns run regions rest →
    (words_of columns run ≡ words_between columns regions rest) × (trailing columns run ≡ markers_left columns rest)
unfolding finished left
words_parted {A} columns run regions rest h =
    let both = over_parts columns [] [] regions rest h.each h.last in
    (ap (words_of columns) (sym h.whole) ∙ both.0, ap (trailing columns) (sym h.whole) ∙ both.1)

-- ---- each run is parted

pub longer_rest : {A : Type 0} (columns : ℕ → Option ℕ) (rest : List (Entry A)) (e : Entry A) →
    NoBreakWorks columns rest → (IsTrue (is_break_entry e) → ¬ HasColumns columns rest) →
    NoBreakWorks columns (rest ++ e ∷ [])
longer_rest {A} columns rest e h k before b after same breaks =
    elim (cut_twice rest (e ∷ []) before (b ∷ after) same) [
      | inl w ↦ at_end w.0 w.1 w.2
      | inr w ↦ within w.0 w.1 w.2 w.3
    ]
  where
    at_end : (z : List (Entry A)) → before ≡ rest ++ z → e ∷ [] ≡ z ++ b ∷ after → ¬ HasColumns columns before
    at_end [] p q = let same_entry : e ≡ b = cc in rw (p, append-nil) (k (rw same_entry breaks))
    at_end (x ∷ []) p q = cc
    at_end (x ∷ y ∷ z) p q = cc

    within : (y : Entry A) (z : List (Entry A)) → rest ≡ before ++ y ∷ z → b ∷ after ≡ (y ∷ z) ++ e ∷ [] → ¬ HasColumns columns before
    within y z p q = let same_entry : b ≡ y = cc in h before y z p (rw same_entry at breaks)

pub no_break : {A : Type 0} (columns : ℕ → Option ℕ) → NoBreakWorks {A = A} columns []
no_break columns [] b after same = cc
no_break columns (x ∷ before) b after same = cc

more_regions : {A : Type 0} (columns : ℕ → Option ℕ) (run : List (Entry A)) (regions : List (Region A)) (rest : List (Entry A)) (e : Entry A) → IsParted columns run regions rest →
    IsTrue (is_break_entry e) → HasColumns columns rest → IsParted columns (run ++ e ∷ []) (regions ++ record { content = rest; break = e } ∷ []) []
more_regions {A} columns run regions rest e h breaks has = record {
  whole = simp (flat_map-append, append-nil) (sym (append_assoc (flat_map region_entries regions) rest (e ∷ [])) ∙ ap (λ (es : List (Entry A)). es ++ e ∷ []) h.whole);
  each = each_append (EndsAtWorkingBreak columns) regions (record { content = rest; break = e } ∷ []) h.each (record { is_break = breaks; works = has; none_before = h.last }, tt);
  last = no_break columns;
}

part_more : {A : Type 0} (columns : ℕ → Option ℕ) (run more : List (Entry A)) (regions : List (Region A)) (rest : List (Entry A)) → IsParted columns run regions rest →
    (rs : List (Region A)) × (r : List (Entry A)) × IsParted columns (run ++ more) rs r
part_more columns run [] regions rest h = (regions, rest, record { whole = h.whole ∙ sym (append-nil run); each = h.each; last = h.last })
part_more {A} columns run (e ∷ more) regions rest h =
    let w = step (is_break_entry e && list_any (takes_columns columns) rest) refl in
    let v = part_more columns (run ++ e ∷ []) more w.0 w.1 w.2 in
    (v.0, v.1, record { whole = v.2.whole ∙ append_assoc run (e ∷ []) more; each = v.2.each; last = v.2.last })
  where
    step : (b : Bool) → is_break_entry e && list_any (takes_columns columns) rest ≡ b →
        (rs : List (Region A)) × (r : List (Entry A)) × IsParted columns (run ++ e ∷ []) rs r
    step true k = let both = and_parts _ _ k in (regions ++ record { content = rest; break = e } ∷ [], [], more_regions columns run regions rest e h both.0 both.1)
    step false k = (
      regions,
      rest ++ e ∷ [],
      record {
        whole = sym (append_assoc (flat_map region_entries regions) rest (e ∷ [])) ∙ ap (λ (es : List (Entry A)). es ++ e ∷ []) h.whole;
        each = h.each;
        last = longer_rest columns rest e h.last (λ p q. both_ways _ k (and_from _ _ p q));
      },
    )

pub parting : {A : Type 0} (columns : ℕ → Option ℕ) (run : List (Entry A)) → (rs : List (Region A)) × (r : List (Entry A)) × IsParted columns run rs r
parting {A} columns run = part_more columns [] run [] [] (record { whole = refl; each = tt; last = no_break columns })

-- ---- in one way only

-- the first break point that works after one list of entries is that after another
one_end : {A : Type 0} (columns : ℕ → Option ℕ) (c d x y : List (Entry A)) (b e : Entry A) →
    c ++ b ∷ x ≡ d ++ e ∷ y → HasColumns columns c → IsTrue (is_break_entry b) → HasColumns columns d → IsTrue (is_break_entry e) → NoBreakWorks columns c → NoBreakWorks columns d →
    (c ≡ d) × (b ≡ e) × (x ≡ y)
one_end {A} columns c d x y b e same some is_break some_too is_break_too none none_too =
    elim (cut_twice c (b ∷ x) d (e ∷ y) same) [
      | inl w ↦ first w.0 w.1 w.2
      | inr w ↦ second w.0 w.1 w.2 w.3
    ]
  where
    first : (z : List (Entry A)) → d ≡ c ++ z → b ∷ x ≡ z ++ e ∷ y → (c ≡ d) × (b ≡ e) × (x ≡ y)
    first [] p q = (sym (p ∙ append-nil c), cc, cc)
    first (v ∷ z) p q = let head : b ≡ v = cc in absurd (none_too c v z p (rw head at is_break) some)

    second : (v : Entry A) (z : List (Entry A)) → c ≡ d ++ v ∷ z → e ∷ y ≡ (v ∷ z) ++ b ∷ x → (c ≡ d) × (b ≡ e) × (x ≡ y)
    second v z p q = let head : e ≡ v = cc in absurd (none d v z p (rw head at is_break_too) some_too)

parted_once : {A : Type 0} (columns : ℕ → Option ℕ) (rs ss : List (Region A)) (rest other : List (Entry A)) →
    flat_map region_entries rs ++ rest ≡ flat_map region_entries ss ++ other →
    Each (EndsAtWorkingBreak columns) rs → Each (EndsAtWorkingBreak columns) ss → NoBreakWorks columns rest → NoBreakWorks columns other → (rs ≡ ss) × (rest ≡ other)
parted_once columns [] [] rest other same each each_too last last_too = (refl, same)
parted_once columns [] (s ∷ ss) rest other same each each_too last last_too =
    absurd (last s.content s.break (flat_map region_entries ss ++ other) (same ∙ simp append_assoc) each_too.0.is_break each_too.0.works)
parted_once columns (r ∷ rs) [] rest other same each each_too last last_too =
    absurd (last_too r.content r.break (flat_map region_entries rs ++ rest) (sym same ∙ simp append_assoc) each.0.is_break each.0.works)
parted_once {A} columns (r ∷ rs) (s ∷ ss) rest other same each each_too last last_too =
    let spread = simp append_assoc at same in
    let ends = one_end columns r.content s.content (flat_map region_entries rs ++ rest) (flat_map region_entries ss ++ other) r.break s.break spread
    each.0.works each.0.is_break each_too.0.works each_too.0.is_break each.0.none_before each_too.0.none_before in
    let later = parted_once columns rs ss rest other ends.2 each.1 each_too.1 last last_too in
    let region : r ≡ s = same_region ends.0 ends.1 in
    let regions : rs ≡ ss = later.0 in
    (cc, later.1)
  where
    same_region : r.content ≡ s.content → r.break ≡ s.break → r ≡ s
    same_region p q =
        ap (λ (c : List (Entry A)). let t : Region A = record { content = c; break = r.break } in t) p
        ∙ ap (λ (b : Entry A). let t : Region A = record { content = s.content; break = b } in t) q

pub parted_alike : {A : Type 0} (columns : ℕ → Option ℕ) (run : List (Entry A)) (rs ss : List (Region A)) (rest other : List (Entry A)) →
    IsParted columns run rs rest → IsParted columns run ss other → (rs ≡ ss) × (rest ≡ other)
parted_alike columns run rs ss rest other h k = parted_once columns rs ss rest other (h.whole ∙ sym k.whole) h.each k.each h.last k.last
