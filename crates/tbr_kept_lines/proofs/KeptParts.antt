-- Lines that are kept by themselves or in texts of blocks.
use Rattle.tbr_kept_lines.proofs.Common.{◌≡◌, ℕ, zero, suc, ◌+◌, ◌-◌, ◌≤◌, ◌<◌, arith, take, get_or, not, None, if◌then◌else◌, Bool, true, false, ◌||◌, List, [], ◌∷◌, ◌++◌, map, length, refl, ap, sym}
use Rattle.tbr_kept_lines.proofs.Common.{◌∙◌, subst, append_assoc, append-nil, lt-ltb, filter, nat_lt, ◌==◌, AllZip, Each, list_any, eqb-true, map-append, take_more, flat_map-append, Item}
use Rattle.tbr_kept_lines.proofs.Common.{has_character, Border, all_zip_append, same_items, IsEquivalence, line_characters, lines_characters, IsMergedText, is_some_list, merged_piece_has, RenderLine}
use Rattle.tbr_kept_lines.proofs.Common.{Text, Rule, Line, text, border, line_seen, line_has_content, text_lines, SameSeen, part_seen, parts_seen, HoldsPart, last_border, lines_text, Part}
use Rattle.std.proofs.Common.{length-append}
use mir.Val.{bool_byte}
use Rattle.std.proofs.lemmas.List.Elements.{filter-append}
use Rattle.tbr_border.specs.Border.{has_holes}
use Rattle.tbr_border.specs.RenderLine.{line_items, has_content as line_holds}
use Rattle.tbr_kept_lines.specs.Text.{items_shown}

-- ---- whether there is a line

pub some_after : {X : Type 0} (xs ys : List X) → is_some_list ys ≡ true → is_some_list (xs ++ ys) ≡ true
some_after [] ys h = h
some_after (x ∷ xs) ys h = refl

text_lines_some : {T : Type 0} (texts : List (List (Item T))) → is_some_list texts ≡ true → is_some_list (text_lines texts) ≡ true
text_lines_some [] h = h
text_lines_some (is ∷ texts) h = refl

pub part_some : {T : Type 0} (eq : T → T → Bool) (p : Part T) → HoldsPart eq p → is_some_list (part_seen p) ≡ true
part_some eq p h = some_after (map line_seen p.before.items) (text_lines p.ended) (text_lines_some p.ended h.some)

some_in_front : {X : Type 0} (xs ys : List X) → is_some_list xs ≡ true → is_some_list (xs ++ ys) ≡ true
some_in_front [] ys h = cc
some_in_front (x ∷ xs) ys h = refl

parts_some : {T : Type 0} (eq : T → T → Bool) (ps : List (Part T)) → Each (HoldsPart eq) ps → is_some_list (parts_seen ps) ≡ is_some_list ps
parts_some eq [] h = refl
parts_some eq (p ∷ ps) h = some_in_front (part_seen p) (parts_seen ps) (part_some eq p h.0)

-- none is in a vector of no length
pub none_there : {X : Type 0} (xs : List X) (n : ℕ) → n ≡ length xs → (n == 0) ≡ not (is_some_list xs)
none_there [] n is = ap (λ k. k == 0) is
none_there (x ∷ xs) n is = go (n == 0) refl
  where
    go : (zero : Bool) → (n == 0) ≡ zero → (n == 0) ≡ false
    go true h = let none = eqb-true n 0 h in absurd (omega (arith, is, none))
    go false h = h

-- where a part is there, so is a line
pub some_in_parts : {T : Type 0} (eq : T → T → Bool) (ps : List (Part T)) (last : List (RenderLine T)) →
    Each (HoldsPart eq) ps → false ≡ not (is_some_list ps) →
    false ≡ not (is_some_list (parts_seen ps ++ map line_seen last))
some_in_parts eq [] last h some = cc
some_in_parts eq (p ∷ ps) last h some = ap not (sym (some_in_front (parts_seen (p ∷ ps)) (map line_seen last) (parts_some eq (p ∷ ps) h)))

-- ---- content

any_append : {X : Type 0} (test : X → Bool) (xs ys : List X) → list_any test (xs ++ ys) ≡ list_any test xs || list_any test ys
any_append test [] ys = refl
any_append test (x ∷ xs) ys = go (test x) (any_append test xs ys)
  where
    go : (b : Bool) → list_any test (xs ++ ys) ≡ list_any test xs || list_any test ys → b || list_any test (xs ++ ys) ≡ (b || list_any test xs) || list_any test ys
    go true h = refl
    go false h = h

text_content : {T : Type 0} (texts : List (List (Item T))) → list_any line_has_content (text_lines texts) ≡ list_any has_character texts
text_content [] = refl
text_content (is ∷ texts) = ap (λ b. has_character is || b) (text_content texts)

-- the last lines, and a block's after them, are a part more
pub part_after : {T : Type 0} (ps : List (Part T)) (p : Part T) → parts_seen (ps ++ p ∷ []) ≡ (parts_seen ps ++ map line_seen p.before.items) ++ text_lines p.ended
part_after ps p =
    flat_map-append part_seen ps (p ∷ []) ∙ ap (λ ls. parts_seen ps ++ ls) (append-nil (part_seen p)) ∙ sym (append_assoc (parts_seen ps) (map line_seen p.before.items) (text_lines p.ended))

pub content_after : {T : Type 0} (ps : List (Part T)) (p : Part T) (above last : Bool) →
    above ≡ list_any line_has_content (parts_seen ps ++ map line_seen p.before.items) →
    last ≡ list_any has_character p.ended →
    above || last ≡ list_any line_has_content (parts_seen (ps ++ p ∷ []))
content_after ps p above last h k = grind (arith, text_content, any_append, part_after)

-- ---- the last border

last_after : {T : Type 0} (xs ys : List (Line T)) → is_some_list ys ≡ true → last_border (xs ++ ys) ≡ last_border ys
last_after [] ys h = refl
last_after (x ∷ []) [] h = cc
last_after (x ∷ []) (y ∷ ys) h = refl
last_after (x ∷ w ∷ xs) ys h = last_after (w ∷ xs) ys h

no_border_in_texts : {T : Type 0} (texts : List (List (Item T))) → last_border (text_lines texts) ≡ None
no_border_in_texts [] = refl
no_border_in_texts (is ∷ []) = refl
no_border_in_texts (is ∷ js ∷ texts) = no_border_in_texts (js ∷ texts)

no_border_in_parts : {T : Type 0} (eq : T → T → Bool) (ps : List (Part T)) → Each (HoldsPart eq) ps → last_border (parts_seen ps) ≡ None
no_border_in_parts eq [] h = refl
no_border_in_parts eq (p ∷ []) h =
    ap last_border (append-nil (part_seen p)) ∙ last_after (map line_seen p.before.items) (text_lines p.ended) (text_lines_some p.ended h.0.some) ∙ no_border_in_texts p.ended
no_border_in_parts eq (p ∷ q ∷ ps) h =
    last_after (part_seen p) (parts_seen (q ∷ ps)) (parts_some eq (q ∷ ps) h.1) ∙ no_border_in_parts eq (q ∷ ps) h.1

-- where no border ends the last lines, none ends all lines
pub no_border : {T : Type 0} (eq : T → T → Bool) (ps : List (Part T)) (last : List (RenderLine T)) → Each (HoldsPart eq) ps → last_border (map line_seen last) ≡ None →
    last_border (parts_seen ps ++ map line_seen last) ≡ None
no_border eq ps [] h none = ap last_border (append-nil (parts_seen ps)) ∙ no_border_in_parts eq ps h
no_border eq ps (l ∷ last) h none = last_after (parts_seen ps) (map line_seen (l ∷ last)) refl ∙ none

-- ---- how many lines have content

pub each_after : {X : Type 0} (P : X → Type 0) (xs : List X) (x : X) → Each P xs → P x → Each P (xs ++ x ∷ [])
each_after P [] x h k = (k, tt)
each_after P (y ∷ xs) x h k = (h.0, each_after P xs x h.1 k)

pub each_front : {X : Type 0} (P : X → Type 0) (xs : List X) (x : X) → Each P (xs ++ x ∷ []) → Each P xs
each_front P [] x h = tt
each_front P (y ∷ xs) x h = (h.0, each_front P xs x h.1)

count_after : {X : Type 0} (test : X → Bool) (xs : List X) (x : X) → length (filter test (xs ++ x ∷ [])) ≡ length (filter test xs) + (if test x then 1 else 0)
count_after {X} test xs x = ap length (filter-append test xs (x ∷ [])) ∙ length-append (filter test xs) (filter test (x ∷ [])) ∙ ap (λ n. length (filter test xs) + n) (go (test x))
  where
    go : (b : Bool) → length (if b then x ∷ [] else []) ≡ (if b then 1 else 0)
    go true = refl
    go false = refl

-- some pass where their count is above zero
any_counted : {X : Type 0} (test : X → Bool) (xs : List X) → nat_lt 0 (length (filter test xs)) ≡ list_any test xs
any_counted test [] = refl
any_counted test (x ∷ xs) = go (test x) (any_counted test xs)
  where
    go : (b : Bool) → nat_lt 0 (length (filter test xs)) ≡ list_any test xs → nat_lt 0 (length (if b then x ∷ filter test xs else filter test xs)) ≡ b || list_any test xs
    go true h = lt-ltb 0 (length (x ∷ filter test xs)) (omega arith)
    go false h = h

-- content above, or below
pub content_of_both : {T : Type 0} (ps : List (Part T)) (last : List (RenderLine T)) (above : Bool) (n : ℕ) →
    above ≡ list_any line_has_content (parts_seen ps) → n ≡ length (filter line_has_content (map line_seen last)) →
    above || nat_lt 0 n ≡ list_any line_has_content (parts_seen ps ++ map line_seen last)
content_of_both ps last above n h k = grind (arith, any_counted, any_append)

pub one_or_none : (b : Bool) → bool_byte b ≡ (if b then 1 else 0)
one_or_none true = refl
one_or_none false = refl

-- a line has content where it is seen to have it
content_seen : {T : Type 0} (eq : T → T → Bool) (line : RenderLine T) → IsMergedText eq line → line_holds line ≡ line_has_content (line_seen line)
content_seen eq (Text line) merged = merged_piece_has eq line merged
content_seen eq (Rule b) merged = refl

module _ {T : Type 0} (b : Border T) (old new : List (RenderLine T)) (is : old ≡ new ++ Rule b ∷ []) where
  -- lines with content, and a border after them
  pub counted : length (filter line_has_content (map line_seen old)) ≡ length (filter line_has_content (map line_seen new)) + (if not (has_holes b.holes) then 1 else 0)
  counted = grind (arith, map-append, count_after)

  -- a border without holes counts
  pub some_counted : (n : ℕ) → n ≡ length (filter line_has_content (map line_seen old)) → has_holes b.holes ≡ false → 1 ≤ n
  some_counted n content bare = grind (arith, ℕ, counted)

  pub one_less : (n : ℕ) → n ≡ length (filter line_has_content (map line_seen old)) → has_holes b.holes ≡ false → n - 1 ≡ length (filter line_has_content (map line_seen new))
  one_less n content bare = grind (arith, ℕ, counted)

  pub none_less : (n : ℕ) → n ≡ length (filter line_has_content (map line_seen old)) → has_holes b.holes ≡ true → n ≡ length (filter line_has_content (map line_seen new))
  none_less n content holed = grind (arith, ℕ, counted)

-- one more line
pub content_more : {T : Type 0} (eq : T → T → Bool) (line : RenderLine T) (lines : List (RenderLine T)) (n : ℕ) → IsMergedText eq line → n ≡ length (filter line_has_content (map line_seen lines)) →
    n + (if line_holds line then 1 else 0) ≡ length (filter line_has_content (map line_seen (lines ++ line ∷ [])))
content_more eq line lines n merged content = grind (arith, content_seen, count_after, map-append)

pub each_get_or : {X : Type 0} (P : X → Type 0) (xs : List X) (i : ℕ) (d : X) → i < length xs → Each P xs → P (get_or xs i d)
each_get_or P [] i d below h = absurd (omega (arith, below))
each_get_or P (x ∷ xs) zero d below h = h.0
each_get_or P (x ∷ xs) (suc i) d below h = each_get_or P xs i d (omega (arith, below)) h.1

-- the count of the first lines, and of one more
pub content_next : {T : Type 0} (eq : T → T → Bool) (lines : List (RenderLine T)) (i n byte : ℕ) (line : RenderLine T) → Each (IsMergedText eq) lines → i < length lines → line ≡ get_or lines i line →
    n ≡ length (filter line_has_content (map line_seen (take i lines))) → byte ≡ bool_byte (line_holds line) → n + byte ≡ length (filter line_has_content (map line_seen (take (i + 1) lines)))
content_next eq lines i n byte line merged below is count one =
    ap (λ k. n + k) (one ∙ one_or_none (line_holds line))
    ∙ content_more eq line (take i lines) n (subst (IsMergedText eq) (sym is) (each_get_or (IsMergedText eq) lines i line below merged)) count
    ∙ ap (λ ls. length (filter line_has_content (map line_seen ls))) (ap (λ l. take i lines ++ l ∷ []) is ∙ sym (take_more lines i line below))

-- the count of lines, and of more after them
pub content_appended : {T : Type 0} (lines more : List (RenderLine T)) →
    length (filter line_has_content (map line_seen (lines ++ more))) ≡ length
    (filter line_has_content (map line_seen lines)) + length (filter line_has_content (map line_seen more))
content_appended lines more = grind (arith, map-append, filter-append, length-append)

-- ---- a block's lines, one by one

-- Lines of a block were pushed, and the others are left.
pub text_lines_append : {T : Type 0} (xs ys : List (List (Item T))) → text_lines (xs ++ ys) ≡ text_lines xs ++ text_lines ys
text_lines_append [] ys = refl
text_lines_append (x ∷ xs) ys = ap (λ ls. text x ∷ ls) (text_lines_append xs ys)

-- ---- texts

-- a line of memory shows its items
pub line_seen_shows : {T : Type 0} (line : RenderLine T) → items_shown (line_seen line) ≡ line_items line
line_seen_shows (Text es) = refl
line_seen_shows (Rule b) = refl

texts_shown : {T : Type 0} (texts : List (List (Item T))) → lines_text (text_lines texts) ≡ lines_characters texts
texts_shown [] = refl
texts_shown (is ∷ texts) = ap (λ cs. line_characters is ++ cs) (texts_shown texts)

-- the text of one part more
pub part_shown : {T : Type 0} (ps : List (Part T)) (p : Part T) (front : List ℕ) →
    ((front ++ lines_text (parts_seen ps)) ++ lines_text (map line_seen p.before.items)) ++ lines_characters p.ended ≡ front ++ lines_text (parts_seen (ps ++ p ∷ []))
part_shown ps p front = grind (arith, append_assoc, flat_map-append, texts_shown, part_after)

-- ---- all lines by themselves

module _ {T : Type 0} (eq : T → T → Bool) (laws : IsEquivalence eq) where
  same_line : (l : Line T) → SameSeen eq l l
  same_line (text is) = same_items eq laws is
  same_line (border b) = refl

  pub same_lines : (ls : List (Line T)) → AllZip (SameSeen eq) ls ls
  same_lines [] = tt
  same_lines (l ∷ ls) = (same_line l, same_lines ls)

  -- lines, and last ones after them
  pub lines_after : (lines last : List (RenderLine T)) (seen : List (Line T)) →
      AllZip (SameSeen eq) (map line_seen lines) seen →
      AllZip (SameSeen eq) (map line_seen (lines ++ last)) (seen ++ map line_seen last)
  lines_after lines last seen h = grind (arith, map-append, all_zip_append, same_lines)

  -- the lines of one part more
  pub part_listed : (ps : List (Part T)) (p : Part T) (lines more all : List (RenderLine T)) →
      AllZip (SameSeen eq) (map line_seen lines) (parts_seen ps) →
      AllZip (SameSeen eq) (map line_seen more) (text_lines p.ended) →
      all ≡ (lines ++ p.before.items) ++ more → AllZip (SameSeen eq) (map line_seen all) (parts_seen (ps ++ p ∷ []))
  part_listed ps p lines more all h k is = grind (arith, all_zip_append, lines_after, part_after, map-append)

pub each_append : {X : Type 0} (P : X → Type 0) (xs ys : List X) → Each P xs → Each P ys → Each P (xs ++ ys)
each_append P [] ys h k = k
each_append P (x ∷ xs) ys h k = (h.0, each_append P xs ys h.1 k)

pub all_merged : {T : Type 0} (eq : T → T → Bool) (lines before more all : List (RenderLine T)) →
    Each (IsMergedText eq) lines → Each (IsMergedText eq) before → Each (IsMergedText eq) more →
    all ≡ (lines ++ before) ++ more → Each (IsMergedText eq) all
all_merged eq lines before more all h k m is =
    subst (λ ls. Each (IsMergedText eq) ls) (sym is) (each_append (IsMergedText eq) (lines ++ before) more (each_append (IsMergedText eq) lines before h k) m)

pub each_at : {X : Type 0} (P : X → Type 0) (xs : List X) (x : X) (ys : List X) → Each P (xs ++ x ∷ ys) → P x
each_at P [] x ys h = h.0
each_at P (z ∷ xs) x ys h = each_at P xs x ys h.1

-- one part, and no line after it
pub part_alone : {T : Type 0} (ps rest : List (Part T)) (last : List (RenderLine T)) (p : Part T) →
    ps ≡ rest ++ p ∷ [] → length ps ≡ 1 → length last ≡ 0 → part_seen p ≡ parts_seen ps ++ map line_seen last
part_alone ps [] [] p is one none = rw is (sym (append-nil (part_seen p ++ []) ∙ append-nil (part_seen p)))
part_alone ps (q ∷ rest) last p is one none = absurd (omega (arith, one, ap length is, length-append rest (p ∷ [])))
part_alone ps rest (l ∷ last) p is one none = absurd (omega (arith, none))
