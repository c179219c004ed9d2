-- Lines after prefixes.
use Rattle.tbr_kept_lines.proofs.Common.{◌≡◌, ℕ, zero, suc, ◌+◌, ◌<◌, lt-ltb, take, drop, get_or, Bool, true, false, ◌||◌, if◌then◌else◌, Option, None, Some, List, [], ◌∷◌, ◌++◌, map, length, refl}
use Rattle.tbr_kept_lines.proofs.Common.{ap, sym, ◌∙◌, subst, arith, append_assoc, append-nil, chars, nat_lt, ◌==◌, IsEquivalence, AllZip, Each, list_any, eqb-true, map-append, length-append}
use Rattle.tbr_kept_lines.proofs.Common.{take_more, flat_map-append, chars-nil, Item, has_character, is_some_list, RenderLine, Text, Rule, items_under, IsMergedText, items_of, SameItems, IsMerged}
use Rattle.tbr_kept_lines.proofs.Common.{text_items, merged_piece_has, line_characters, lines_characters, prefixed_characters, all_zip_append, same_items, same_items_trans, same_items_append}
use Rattle.tbr_kept_lines.proofs.Common.{part_seen, parts_seen, HoldsPart, Part, Line, text, line_seen, text_lines, SameSeen, as_text, after_prefixes, prefixed_lines, Appends, Pushes}
use Rattle.std.proofs.Common.{drop_of_length-le, take_all, set, ◌&&◌}
use Rattle.std.specs.Option.{unwrap_or}
use Rattle.std.proofs.lemmas.List.{length-map, length-drop, get_or-drop, drop-set-lt, drop-drop, take_more_set}
use Rattle.tbr_model.specs.Run.{glyph, marker}
use Rattle.tbr_model.specs.Codes.{newline_character}
use Rattle.tbr_tagged.specs.Elements.{Element, characters, has_piece, SameElements}
use Rattle.tbr_tagged.specs.Walks.{item_character, item_characters}
use Rattle.tbr_tagged.proofs.LineWalks.{items_have_characters}
use Rattle.tbr_tagged.proofs.TextAfter.{same_merged}
use Rattle.tbr_tagged.proofs.SameItems.{same_items_of, same_texts}
use Rattle.tbr_kept_lines.specs.Prefixed.{texts_after, AreMerged}
use Rattle.tbr_kept_lines.specs.declared.prefixed_lines.Prefixes.{Prefixes}
use Rattle.tbr_kept_lines.proofs.KeptParts.{none_there, each_after, each_append, some_after, part_some, text_lines_append}

-- ---- counts

some_there : (n : ℕ) → nat_lt 0 (suc n) ≡ true
some_there n = lt-ltb 0 (suc n) (omega arith)

one_less : (n : ℕ) → nat_lt 1 (suc n) ≡ nat_lt 0 n
one_less zero = refl
one_less (suc n) = lt-ltb 1 (suc (suc n)) (omega arith) ∙ sym (some_there n)

-- ---- texts

module _ {T : Type 0} where
  same_prefix : (o : List (Item T)) (texts : List (List (Item T))) → after_prefixes o o texts ≡ map (λ is. o ++ is) texts
  same_prefix o [] = refl
  same_prefix o (is ∷ texts) = refl

  after_append : (f o : List (Item T)) (xs ys : List (List (Item T))) →
      after_prefixes f o (xs ++ ys) ≡ after_prefixes f o xs ++ after_prefixes (if is_some_list xs then o else f) o ys
  after_append f o [] ys = refl
  after_append f o (x ∷ xs) ys = ap (λ ls. (f ++ x) ∷ ls) (map-append (λ is. o ++ is) xs ys ∙ ap (λ ls. map (λ is. o ++ is) xs ++ ls) (sym (same_prefix o ys)))

  map_twice : (o p : List (Item T)) (texts : List (List (Item T))) → map (λ is. o ++ is) (map (λ is. p ++ is) texts) ≡ map (λ is. (o ++ p) ++ is) texts
  map_twice o p [] = refl
  map_twice o p (is ∷ texts) = λ i. sym (append_assoc o p is) i ∷ map_twice o p texts i

  -- prefixes before prefixes
  pub after_twice : (f o g p : List (Item T)) (texts : List (List (Item T))) → after_prefixes f o (after_prefixes g p texts) ≡ after_prefixes (f ++ g) (o ++ p) texts
  after_twice f o g p [] = refl
  after_twice f o g p (is ∷ texts) = λ i. sym (append_assoc f g is) i ∷ map_twice o p texts i

  has-append : (is js : List (Item T)) → has_character (is ++ js) ≡ has_character is || has_character js
  has-append [] js = refl
  has-append (glyph c a ∷ is) js = refl
  has-append (marker name ∷ is) js = has-append is js

  any_before : (o : List (Item T)) (texts : List (List (Item T))) →
      list_any has_character (map (λ is. o ++ is) texts) ≡ (nat_lt 0 (length texts) && has_character o) || list_any has_character texts
  any_before o [] = refl
  any_before o (is ∷ texts) = ap (λ b. b || list_any has_character (map (λ js. o ++ js) texts)) (has-append o is) ∙ ap (λ b. (has_character o || has_character is) || b) (any_before o texts)
      ∙ go (has_character o) (has_character is) (nat_lt 0 (length texts)) (list_any has_character texts)
      ∙ ap (λ b. (b && has_character o) || (has_character is || list_any has_character texts)) (sym (some_there (length texts)))
    where
      go : (a b c d : Bool) → (a || b) || ((c && a) || d) ≡ a || (b || d)
      go true b c d = refl
      go false true c d = refl
      go false false true d = refl
      go false false false d = refl

  -- whether one of them has a character
  pub any_after : (f o : List (Item T)) (texts : List (List (Item T))) →
      list_any has_character (after_prefixes f o texts) ≡ ((nat_lt 0 (length texts) && has_character f) || (nat_lt 1 (length texts) && has_character o)) || list_any has_character texts
  any_after f o [] = refl
  any_after f o (is ∷ texts) =
      ap (λ b. b || list_any has_character (map (λ js. o ++ js) texts)) (has-append f is) ∙ ap (λ b. (has_character f || has_character is) || b) (any_before o texts)
      ∙ go (has_character f) (has_character is) (nat_lt 0 (length texts) && has_character o) (list_any has_character texts)
      ∙ (λ i. ((sym (some_there (length texts)) i && has_character f) || (sym (one_less (length texts)) i && has_character o)) || (has_character is || list_any has_character texts))
    where
      go : (a b c d : Bool) → (a || b) || (c || d) ≡ (a || c) || (b || d)
      go true b c d = refl
      go false true true d = refl
      go false true false d = refl
      go false false c d = refl

  length_after : (f o : List (Item T)) (texts : List (List (Item T))) → length (after_prefixes f o texts) ≡ length texts
  length_after f o [] = refl
  length_after f o (is ∷ texts) = ap suc (length-map texts (λ js. o ++ js))

  whole_line : (prefix : List (Element T)) (is : List (Item T)) → line_characters (items_of prefix ++ is) ≡ characters prefix ++ line_characters is
  whole_line prefix is =
      ap (λ cs. cs ++ newline_character ∷ []) (flat_map-append item_character (items_of prefix) is ∙ ap (λ cs. cs ++ item_characters is) (items_have_characters prefix))
      ∙ append_assoc (characters prefix) (item_characters is) (newline_character ∷ [])

  shown_after : (f o : List (Element T)) (texts : List (List (Item T))) → prefixed_characters (characters f) (characters o) texts ≡ lines_characters (after_prefixes (items_of f) (items_of o) texts)
  shown_after f o [] = refl
  shown_after f o (is ∷ texts) =
      λ i. sym (whole_line f is) i ++ (shown_after o o texts ∙ ap lines_characters (same_prefix (items_of o) texts)) i

  after_nothing : (texts : List (List (Item T))) → after_prefixes [] [] texts ≡ texts
  after_nothing [] = refl
  after_nothing (is ∷ texts) = ap (λ ls. is ∷ ls) (sym (same_prefix [] texts) ∙ after_nothing texts)

  -- texts after the prefixes that there are, or after none
  pub texts_with : (o : Option (Prefixes T)) (none p : Prefixes T) → none ≡ record { first = []; others = [] } → p ≡ unwrap_or o none → (texts : List (List (Item T))) →
      after_prefixes (items_of p.first) (items_of p.others) texts ≡ texts_after o texts
  texts_with None none p nothing is texts = ap (λ (q : Prefixes T). after_prefixes (items_of q.first) (items_of q.others) texts) (is ∙ nothing) ∙ after_nothing texts
  texts_with (Some q) none p nothing is texts = ap (λ (r : Prefixes T). after_prefixes (items_of r.first) (items_of r.others) texts) is

  -- their pieces
  pub merged_with : (eq : T → T → Bool) (o : Option (Prefixes T)) (none p : Prefixes T) →
      none ≡ record { first = []; others = [] } → p ≡ unwrap_or o none → AreMerged eq o →
      IsMerged eq p.first × IsMerged eq p.others
  merged_with eq None none p nothing is merged = subst (λ (q : Prefixes T). IsMerged eq q.first × IsMerged eq q.others) (sym (is ∙ nothing)) (tt, tt)
  merged_with eq (Some q) none p nothing is merged = subst (λ (r : Prefixes T). IsMerged eq r.first × IsMerged eq r.others) (sym is) merged

  -- and their characters
  pub shown_with : (o : Option (Prefixes T)) (none p : Prefixes T) → none ≡ record { first = []; others = [] } → p ≡ unwrap_or o none → (texts : List (List (Item T))) →
      prefixed_characters (characters p.first) (characters p.others) texts ≡ lines_characters (texts_after o texts)
  shown_with o none p nothing is texts = shown_after p.first p.others texts ∙ ap lines_characters (texts_with o none p nothing is texts)

  -- whether texts after prefixes have a character, by their pieces
  pub any_shown : (eq : T → T → Bool) (o : Option (Prefixes T)) (p : Prefixes T) → o ≡ Some p → AreMerged eq o →
      (n : ℕ) (texts lines : List (List (Item T))) → texts_after o texts ≡ lines → n ≡ length texts →
      ((nat_lt 0 n && has_piece p.first) || (nat_lt 1 n && has_piece p.others)) || list_any has_character texts ≡ list_any has_character lines
  any_shown eq o p is merged n texts lines seen count = grind (arith, merged_piece_has, any_after)

-- an empty prefix shows nothing
pub no_prefix : {T : Type 0} (prefix : List ℕ) (tag : T) (is : List (Item T)) → (length prefix == 0) ≡ true → is ≡ text_items (chars prefix) tag ++ is
no_prefix [] tag is empty = ap (λ cs. text_items cs tag ++ is) (sym chars-nil)
no_prefix (b ∷ prefix) tag is empty = let none = eqb-true (length (b ∷ prefix)) 0 empty in absurd (omega (arith, none))

-- ---- lines

module _ {T : Type 0} (tag : T) (f o : List ℕ) where
  some_texts : (lines : List (Line T)) → is_some_list (map (as_text tag) lines) ≡ is_some_list lines
  some_texts [] = refl
  some_texts (l ∷ lines) = refl

  if_prefix : (b : Bool) → (if b then text_items o tag else text_items f tag) ≡ text_items (if b then o else f) tag
  if_prefix true = refl
  if_prefix false = refl

  -- lines, and more after them
  pub prefixed_append : (xs ys : List (Line T)) → prefixed_lines tag f o (xs ++ ys) ≡ prefixed_lines tag f o xs ++ prefixed_lines tag (if is_some_list xs then o else f) o ys
  prefixed_append xs ys = grind (arith, map-append, after_append, some_texts, if_prefix)

  texts_as_text : (texts : List (List (Item T))) → map (as_text tag) (text_lines texts) ≡ texts
  texts_as_text [] = refl
  texts_as_text (is ∷ texts) = ap (λ ls. is ∷ ls) (texts_as_text texts)

  -- texts as lines
  pub prefixed_texts : (texts : List (List (Item T))) → prefixed_lines tag f o (text_lines texts) ≡ text_lines (after_prefixes (text_items f tag) (text_items o tag) texts)
  prefixed_texts texts =
      ap (λ ts. map text (after_prefixes (text_items f tag) (text_items o tag) ts)) (texts_as_text texts)
      ∙ sym (lines_are (after_prefixes (text_items f tag) (text_items o tag) texts))
    where
      lines_are : (ts : List (List (Item T))) → text_lines ts ≡ map text ts
      lines_are [] = refl
      lines_are (t ∷ ts) = ap (λ ls. text t ∷ ls) (lines_are ts)

-- ---- under equal tags

module _ {T : Type 0} (eq : T → T → Bool) (laws : IsEquivalence eq) where
  -- a text under a copy of a tag, and more after it
  pub under_copy : (cs : List ℕ) (a b : T) (is js : List (Item T)) → eq b a ≡ true → SameItems eq is (text_items cs b ++ js) → SameItems eq is (text_items cs a ++ js)
  under_copy cs a b is js k h =
      same_items_trans eq laws is (text_items cs b ++ js) (text_items cs a ++ js) h
      (same_items_append eq laws (text_items cs b) (text_items cs a) js js (same_texts eq laws cs b a k) (same_items eq laws js))

  same_before : (o p : List (Item T)) → SameItems eq o p → (texts : List (List (Item T))) → AllZip (SameItems eq) (map (λ is. o ++ is) texts) (map (λ is. p ++ is) texts)
  same_before o p h [] = tt
  same_before o p h (is ∷ texts) = (same_items_append eq laws o p is is h (same_items eq laws is), same_before o p h texts)

  -- the same prefixes before texts
  pub same_after : (f o g p : List (Item T)) → SameItems eq f g → SameItems eq o p → (texts : List (List (Item T))) → AllZip (SameItems eq) (after_prefixes f o texts) (after_prefixes g p texts)
  same_after f o g p h k [] = tt
  same_after f o g p h k (is ∷ texts) = (same_items_append eq laws f g is is h (same_items eq laws is), same_before o p k texts)

module _ {T : Type 0} (eq : T → T → Bool) where
  pub same_text_lines : (xs ys : List (List (Item T))) → AllZip (SameItems eq) xs ys → AllZip (SameSeen eq) (text_lines xs) (text_lines ys)
  same_text_lines [] [] h = tt
  same_text_lines [] (y ∷ ys) h = absurd h
  same_text_lines (x ∷ xs) [] h = absurd h
  same_text_lines (x ∷ xs) (y ∷ ys) h = (h.0, same_text_lines xs ys h.1)

  -- lines, and more after them
  pub appends_more : (a b c ls ms : List (Line T)) → Appends eq a ls b → Appends eq b ms c → Appends eq a (ls ++ ms) c
  appends_more a b c ls ms (more, is, same) (later, was, alike) =
      (more ++ later, was ∙ ap (λ xs. xs ++ later) is ∙ append_assoc a more later, all_zip_append (SameSeen eq) more later ls ms same alike)

  -- texts, and more after them
  pub pushes_more : (a b c : List (RenderLine T)) (xs ys : List (List (Item T))) → Pushes eq a xs b → Pushes eq b ys c → Pushes eq a (xs ++ ys) c
  pushes_more a b c xs ys (more, is, same, merged) (later, was, alike, whole) = (
    more ++ later,
    was ∙ ap (λ ls. ls ++ later) is ∙ append_assoc a more later,
    subst (λ ls. AllZip (SameSeen eq) ls (text_lines (xs ++ ys))) (sym (map-append line_seen more later))
        (subst (AllZip (SameSeen eq) (map line_seen more ++ map line_seen later)) (sym (text_lines_append xs ys))
        (all_zip_append (SameSeen eq) (map line_seen more) (map line_seen later) (text_lines xs) (text_lines ys) same alike)),
    each_append (IsMergedText eq) more later merged whole,
  )

module _ {T : Type 0} (eq : T → T → Bool) (laws : IsEquivalence eq) where
  -- texts in front of the prefixes that there are, or of none
  pub in_front_of : (o : Option (Prefixes T)) (none p : Prefixes T) → none ≡ record { first = []; others = [] } → p ≡ unwrap_or o none → (f others : List (Item T)) (first after : List (Element T)) →
      SameItems eq (items_of first) (f ++ items_of p.first) → SameItems eq (items_of after) (others ++ items_of p.others) → (texts : List (List (Item T))) →
      AllZip (SameItems eq) (after_prefixes (items_of first) (items_of after) texts) (after_prefixes f others (texts_after o texts))
  in_front_of o none p nothing is f others first after h k texts =
      let front = after_prefixes (items_of first) (items_of after) texts in
      subst (λ ts. AllZip (SameItems eq) front (after_prefixes f others ts)) (texts_with o none p nothing is texts)
      (subst (AllZip (SameItems eq) front) (sym (after_twice f others (items_of p.first) (items_of p.others) texts))
      (same_after eq laws (items_of first) (items_of after) (f ++ items_of p.first) (others ++ items_of p.others) h k texts))

  -- a line after a copy of its prefix
  pub after_copy : (prefix copy whole : List (Element T)) (is : List (Item T)) → IsMerged eq prefix → SameElements eq copy prefix → SameItems eq (items_of whole) (items_of copy ++ is) →
      (IsMerged eq copy → IsMerged eq whole) → SameItems eq (items_of whole) (items_of prefix ++ is) × IsMerged eq whole
  after_copy prefix copy whole is merged same joined keeps = (
    same_items_trans eq laws (items_of whole) (items_of copy ++ is) (items_of prefix ++ is) joined
        (same_items_append eq laws (items_of copy) (items_of prefix) is is (same_items_of eq laws copy prefix same) (same_items eq laws is)),
    keeps (same_merged eq laws copy prefix same merged),
  )

module _ {T : Type 0} (eq : T → T → Bool) where
  -- no text is pushed
  pub pushes_none : (a : List (RenderLine T)) → Pushes eq a [] a
  pushes_none a = ([], sym (append-nil a), tt, tt)

  -- one text is pushed after its prefix, and then the others
  pub pushes_first : (a b all : List (RenderLine T)) (line : List (Element T)) (prefix others is : List (Item T))
      (rest : List (List (Item T))) → b ≡ a ++ Text line ∷ [] →
      SameItems eq (items_of line) (prefix ++ is) × IsMerged eq line →
      Pushes eq b (after_prefixes others others rest) all → Pushes eq a (after_prefixes prefix others (is ∷ rest)) all
  pushes_first a b all line prefix others is rest pushed (same, merged) h =
      pushes_more eq a b all ((prefix ++ is) ∷ []) (map (λ js. others ++ js) rest) (Text line ∷ [], pushed, (same, tt), (merged, tt)) (subst (λ ls. Pushes eq b ls all) (same_prefix others rest) h)

-- ---- lines, one by one

-- a line with a border's cells under a tag, as a contract sees it
pub under_seen : {T : Type 0} (tag : T) (line : RenderLine T) → items_under tag line ≡ as_text tag (line_seen line)
under_seen tag (Text es) = refl
under_seen tag (Rule b) = refl

-- an item that is as it was
still_there : {X : Type 0} (all now : List X) (i : ℕ) (d : X) → drop i now ≡ drop i all → get_or all i d ≡ get_or now i d
still_there all now i d rest =
    let zero : i + 0 ≡ i = omega arith in
    ap (λ j. get_or all j d) (sym zero) ∙ sym (get_or-drop i all 0 d) ∙ ap (λ ls. get_or ls 0 d) (sym rest) ∙ get_or-drop i now 0 d
    ∙ ap (λ j. get_or now j d) zero

module _ {T : Type 0} (eq : T → T → Bool) (tag : T) (first others : List ℕ) where
  abbrev prefixed : List (Line T) → List (Line T)
  prefixed lines = prefixed_lines tag first others lines

  -- what the prefix is after these lines
  abbrev pub next_prefix : List (Line T) → List ℕ
  next_prefix lines = if is_some_list lines then others else first

  -- lines after prefixes, and more after them
  pub prefixed_more : (xs ys old mid new : List (Line T)) (next : List ℕ) → next ≡ next_prefix xs → Appends eq old (prefixed xs) mid → Appends eq mid (prefixed_lines tag next others ys) new →
      Appends eq old (prefixed (xs ++ ys)) new
  prefixed_more xs ys old mid new next is h k =
      subst (λ ls. Appends eq old ls new) (sym (prefixed_append tag first others xs ys))
      (appends_more eq old mid new (prefixed xs) (prefixed_lines tag (next_prefix xs) others ys) h (subst (λ p. Appends eq mid (prefixed_lines tag p others ys) new) is k))

  -- the lines of one part more
  pub part_more : (ps : List (Part T)) (p : Part T) (old mid new : List (Line T)) (next : List ℕ) → HoldsPart eq p →
      next ≡ next_prefix (parts_seen ps) → Appends eq old (prefixed (parts_seen ps)) mid →
      Appends eq mid (prefixed_lines tag next others (part_seen p)) new → Appends eq old (prefixed (parts_seen (ps ++ p ∷ []))) new × (others ≡ next_prefix (parts_seen (ps ++ p ∷ [])))
  part_more ps p old mid new next holds is h k =
      let whole : parts_seen (ps ++ p ∷ []) ≡ parts_seen ps ++ part_seen p = flat_map-append part_seen ps (p ∷ []) ∙ ap (λ ls. parts_seen ps ++ ls) (append-nil (part_seen p)) in (
        subst (λ ls. Appends eq old (prefixed ls) new) (sym whole) (prefixed_more (parts_seen ps) (part_seen p) old mid new next is h k),
        ap (λ b. if b then others else first) (sym (ap is_some_list whole ∙ some_after (parts_seen ps) (part_seen p) (part_some eq p holds))),
      )

  -- texts after the lines of a part
  pub texts_more : (before old mid new : List (Line T)) (ended shown : List (List (Item T))) (next : List ℕ) → next ≡ next_prefix before → Appends eq old (prefixed before) mid →
      AllZip (SameItems eq) shown (after_prefixes (text_items next tag) (text_items others tag) ended) → new ≡ mid ++ text_lines shown → Appends eq old (prefixed (before ++ text_lines ended)) new
  texts_more before old mid new ended shown next is h alike pushed =
      prefixed_more before (text_lines ended) old mid new next is h (
        text_lines shown,
        pushed,
        subst (AllZip (SameSeen eq) (text_lines shown))
            (sym (prefixed_texts tag next others ended))
            (same_text_lines eq shown (after_prefixes (text_items next tag) (text_items others tag) ended) alike),
      )

  -- So many lines have their prefixes, and the others are as they were.
  pub record HasPut (lines now : List (RenderLine T)) (count : ℕ) (next : List ℕ) : Type 0 where
    pub put : AllZip (SameSeen eq) (map line_seen (take count now)) (prefixed (map line_seen (take count lines)))
    pub merged : Each (IsMergedText eq) (take count now)
    pub rest : drop count now ≡ drop count lines
    pub prefix : next ≡ next_prefix (map line_seen (take count lines))

  pub put_more : (lines now : List (RenderLine T)) (count : ℕ) (next : List ℕ) (d line : RenderLine T) → HasPut lines now count next → count < length lines →
      SameSeen eq (line_seen line) (text (text_items next tag ++ as_text tag (line_seen (get_or now count d)))) → IsMergedText eq line → HasPut lines (set now count line) (count + 1) others
  put_more lines now count next d line h below same merged =
      let here : count < length now = omega (arith, below, length-drop count now, length-drop count lines, ap length h.rest) in
      let old = get_or now count d in
      let seen = map line_seen (take count lines) in
      let whole : map line_seen (take (count + 1) lines) ≡ seen ++ line_seen old ∷ [] =
      ap (map line_seen)
      (take_more lines count d below
      ∙ ap (λ l. take count lines ++ l ∷ []) (still_there lines now count d h.rest))
      ∙ map-append line_seen (take count lines) (old ∷ []) in
      let put_whole : take (count + 1) (set now count line) ≡ take count now ++ line ∷ [] = take_more_set now count line here in
      let all = all_zip_append (SameSeen eq) (map line_seen (take count now)) (line_seen line ∷ []) (prefixed seen) (prefixed_lines tag (next_prefix seen) others (line_seen old ∷ [])) h.put
      (subst (λ p. SameSeen eq (line_seen line) (text (text_items p tag ++ as_text tag (line_seen old)))) h.prefix same, tt) in record {
        put = rw (put_whole, whole, prefixed_append tag first others seen (line_seen old ∷ []), map-append line_seen (take count now) (line ∷ [])) all;
        merged = subst (Each (IsMergedText eq)) (sym put_whole) (each_after (IsMergedText eq) (take count now) line h.merged merged);
        rest = drop-set-lt (count + 1) now count line (omega arith) ∙ sym (drop-drop 1 count now) ∙ ap (drop 1) h.rest ∙ drop-drop 1 count lines;
        prefix = ap (λ b. if b then others else first) (sym (ap is_some_list whole ∙ some_after seen (line_seen old ∷ []) refl));
      }

-- ---- what is left

some_zip : {X Y : Type 0} (R : X → Y → Type 0) (xs : List X) (ys : List Y) → AllZip R xs ys → is_some_list xs ≡ is_some_list ys
some_zip R [] [] h = refl
some_zip R [] (y ∷ ys) h = absurd h
some_zip R (x ∷ xs) [] h = absurd h
some_zip R (x ∷ xs) (y ∷ ys) h = refl

some_prefixed : {T : Type 0} (f o : List (Item T)) (texts : List (List (Item T))) → is_some_list (after_prefixes f o texts) ≡ is_some_list texts
some_prefixed f o [] = refl
some_prefixed f o (is ∷ texts) = refl

-- as many texts are there after prefixes
pub some_shown : {T : Type 0} (eq : T → T → Bool) (f o : List (Item T)) (texts shown : List (List (Item T))) →
    AllZip (SameItems eq) shown (after_prefixes f o texts) → is_some_list texts ≡ true → is_some_list shown ≡ true
some_shown eq f o texts shown h some = some_zip (SameItems eq) shown (after_prefixes f o texts) h ∙ some_prefixed f o texts ∙ some

length_lines : {T : Type 0} (texts : List (List (Item T))) → length (text_lines texts) ≡ length texts
length_lines [] = refl
length_lines (is ∷ texts) = ap suc (length_lines texts)

-- the lines of one part more, counted
pub lines_counted : {T : Type 0} (ps : List (Part T)) (i : ℕ) (p : Part T) (n m k before ended : ℕ) → i < length ps →
    p ≡ get_or ps i p → n ≡ length (parts_seen (take i ps)) → before ≡ length p.before.items → m ≡ n + before →
    ended ≡ length p.ended → k ≡ m + ended →
    k ≡ length (parts_seen (take (i + 1) ps))
lines_counted ps i p n m k before ended below is count front more tail sum =
    let whole : parts_seen (take (i + 1) ps) ≡ parts_seen (take i ps) ++ part_seen p =
    ap parts_seen (take_more ps i p below ∙ ap (λ q. take i ps ++ q ∷ []) (sym is))
    ∙ flat_map-append part_seen (take i ps) (p ∷ [])
    ∙ ap (λ ls. parts_seen (take i ps) ++ ls) (append-nil (part_seen p)) in
    omega (
      arith,
      count,
      front,
      more,
      tail,
      sum,
      ap length whole,
      length-append (parts_seen (take i ps)) (part_seen p),
      length-append (map line_seen p.before.items) (text_lines p.ended),
      length-map p.before.items line_seen,
      length_lines p.ended,
    )

-- what is written over all of a vector is what it holds
pub written_over : {X : Type 0} (items new : List X) (len : ℕ) → len ≡ length items → length new ≡ length items → take len (new ++ drop (length new) items) ≡ new
written_over items new len whole same =
    ap (λ ls. take len (new ++ ls)) (drop_of_length-le items {i = length new} (omega (arith, same))) ∙ ap (take len) (append-nil new) ∙ take_all len new (omega (arith, whole, same))

-- the prefix after lines of which it is known whether there is one
pub prefix_if_none : {T : Type 0} (eq : T → T → Bool) (tag : T) (first others : List ℕ) (lines : List (RenderLine T)) (len : ℕ) (none : Bool) → len ≡ length lines → none ≡ (len == 0) →
    (if none then first else others) ≡ next_prefix eq tag first others (map line_seen lines)
prefix_if_none eq tag first others [] len none long is = rw (is, long) refl
prefix_if_none eq tag first others (l ∷ lines) len none long is = rw (is ∙ none_there (l ∷ lines) len long) refl
