-- Lines of other renderers, one after another.
use Rattle.tbr_renderer.proofs.Common.{◌≡◌, ◌↔◌, IsTrue, ℕ, suc, arith, ◌+◌, ◌-◌, ◌<◌, Bool, false, Option, None, Result, Ok, Err, List, [], ◌∷◌, ◌++◌, map, fold, take, replicate, length}
use Rattle.tbr_renderer.proofs.Common.{refl, ap, sym, ◌∙◌, append-nil, append_assoc, chars, OnOk, map-append, length-append, length-map, replicate_more, fold-append, Item, Outcome, done}
use Rattle.tbr_renderer.proofs.Common.{gathered, RenderLine, text_items, Line, text, line_seen, same_annotations, Renderer, Settings, KeepsSettings, with_line, slash, AreAlike, alike}
use Rattle.tbr_renderer.proofs.Common.{texts_of, prefixed, handed_out, with_prefixed, with_divider, with_cell, with_cell_below}
use Rattle.std.proofs.Common.{zero, get_or}
use Rattle.std.proofs.lemmas.List.{length-replicate, take_more}
use Rattle.tbr_renderer.proofs.OutcomeParts.{gathered_last}
use Rattle.tbr_kept_lines.specs.Prefixed.{as_text, prefixed_lines, Appends}
use Rattle.tbr_renderer.proofs.JoinedLines.{lines_told, added_at_once}

-- ---- prefixes

prefixed-append : {T : Type 0} (tag : T) (prefixes more : List (List ℕ)) (lines others : List (Line T)) → length prefixes ≡ length lines →
    prefixed tag (prefixes ++ more) (lines ++ others) ≡ prefixed tag prefixes lines ++ prefixed tag more others
prefixed-append tag [] more [] others same = refl
prefixed-append tag [] more (l ∷ lines) others same = cc
prefixed-append tag (p ∷ prefixes) more [] others same = cc
prefixed-append tag (p ∷ prefixes) more (l ∷ lines) others same =
    ap (λ ts. (text_items p tag ++ as_text tag l) ∷ ts) (prefixed-append tag prefixes more lines others (omega (arith, same)))

module _ {A : Type 0} where
  -- the lines as a contract sees them
  abbrev pub seen : List (RenderLine (List A)) → List (Line (List A))
  seen lines = map line_seen lines

  pub length-seen : (lines : List (RenderLine (List A))) → length (seen lines) ≡ length lines
  length-seen lines = length-map lines line_seen

module _ {D A : Type 0} (columns : ℕ → Option ℕ) (first : Renderer D A (List A)) where
  -- ---- texts that were put one by one

  pub record HasPut (texts : List (List (Item (List A)))) (now : Renderer D A (List A)) : Type 0 where
    pub unfailed : now.failure ≡ None
    pub settings : KeepsSettings first now
    pub lines : now ≡ fold (with_line columns) first texts

  -- ---- a cell

  abbrev pub HasCell : List (RenderLine (List A)) → Renderer D A (List A) → Type 0
  HasCell lines now = HasPut (map (as_text first.annotations) (seen lines)) now

-- ---- prefixes that are alike

-- one text more that is alike
pub all_more : {X : Type 0} (read : X → List ℕ) (xs : List X) (i : ℕ) (x : X) (t : List ℕ) → i < length xs →
    x ≡ get_or xs i x → read x ≡ t → texts_of read (take i xs) ≡ replicate i (chars t) → texts_of read (take (i + 1) xs) ≡ replicate (i + 1) (chars t)
all_more read xs i x t below is same all =
    ap (texts_of read) (take_more xs i x below ∙ ap (λ y. take i xs ++ y ∷ []) (sym is)) ∙ map-append (λ y. chars (read y)) (take i xs) (x ∷ [])
    ∙ (λ k. all k ++ chars (same k) ∷ []) ∙ one_longer i ∙ ap (λ n. replicate n (chars t)) (let more : suc i ≡ i + 1 = omega arith in more)
  where
    one_longer : (n : ℕ) → replicate n (chars t) ++ chars t ∷ [] ≡ replicate (suc n) (chars t)
    one_longer zero = refl
    one_longer (suc n) = ap (λ ts. chars t ∷ ts) (one_longer n)

module _ {T : Type 0} (tag : T) (first others : List ℕ) where
  rest_alike : (lines : List (Line T)) → prefixed tag (replicate (length lines) others) lines ≡ map (λ is. text_items others tag ++ is) (map (as_text tag) lines)
  rest_alike [] = refl
  rest_alike (l ∷ lines) = ap (λ ts. (text_items others tag ++ as_text tag l) ∷ ts) (rest_alike lines)

  -- lines after them
  pub prefixed_alike : (lines : List (Line T)) → map text (prefixed tag (alike first others (length lines)) lines) ≡ prefixed_lines tag first others lines
  prefixed_alike [] = refl
  prefixed_alike (l ∷ lines) = ap (λ ts. map text ((text_items first tag ++ as_text tag l) ∷ ts)) (rest_alike lines)

-- prefixes that are alike are as many as they are
pub alike_all : (first others : List ℕ) (prefixes : List (List ℕ)) (n : ℕ) → AreAlike first others prefixes → length prefixes ≡ n → prefixes ≡ alike first others n
alike_all first others [] n alike is = absurd (omega (arith, ap length alike))
alike_all first others (p ∷ prefixes) n alike_ is =
    let count : length (p ∷ prefixes) - 1 ≡ length prefixes = omega arith in
    alike_ ∙ ap (λ m. first ∷ replicate m others) count ∙ ap (alike first others) is

module _ (first others : List ℕ) where
  -- the prefix of a line with so many before it
  abbrev pub prefix_after : ℕ → List ℕ
  prefix_after zero = first
  prefix_after (suc n) = others

  pub later_prefix : {X : Type 0} (xs : List X) (x : X) → others ≡ prefix_after (length (xs ++ x ∷ []))
  later_prefix [] x = refl
  later_prefix (y ∷ xs) x = refl

  pub length-alike : (n : ℕ) → length (alike first others n) ≡ n
  length-alike zero = refl
  length-alike (suc n) = omega (arith, length-replicate n others)

  -- one more
  alike_more : (n : ℕ) → alike first others (n + 1) ≡ alike first others n ++ prefix_after n ∷ []
  alike_more zero = refl
  alike_more (suc n) = let more : suc n + 1 ≡ suc (n + 1) = omega arith in rw more (ap (λ ps. first ∷ ps) (sym (replicate_more n others)))

-- ---- lines after prefixes, one by one

module _ {D A P : Type 0} (columns : ℕ → Option ℕ) (first : Renderer D A (List A)) (read : P → List ℕ) (all : List (RenderLine (List A))) where
  abbrev tag : List A
  tag = first.annotations

  -- So many lines have come after their prefixes, and these are left.
  pub record HasAfter (given : List P) (left : List (RenderLine (List A))) (now : Renderer D A (List A)) : Type 0 where
    pub taken : List (RenderLine (List A))
    pub whole : all ≡ taken ++ left
    pub as_many : length taken ≡ length given
    pub put : HasPut columns first (prefixed tag (texts_of read given) (seen taken)) now

  same_length : (given : List P) (taken : List (RenderLine (List A))) → length taken ≡ length given → length (texts_of read given) ≡ length (seen taken)
  same_length given taken same = omega (arith, same, length-map given (λ x. chars (read x)), length-seen taken)

  pub after_more : (given : List P) (left rest : List (RenderLine (List A))) (now next : Renderer D A (List A))
      (line : RenderLine (List A)) (p : P) (shown : List (Item (List A))) → HasAfter given left now → left ≡ line ∷ rest →
      shown ≡ text_items (chars (read p)) now.annotations ++ as_text now.annotations (line_seen line) →
      next ≡ with_line columns now shown → KeepsSettings now next → next.failure ≡ None → HasAfter (given ++ p ∷ []) rest next
  after_more given left rest now next line p shown h begins is added kept live =
      let under : now.annotations ≡ tag = ap (λ (s : Settings D A). s.annotations) h.put.settings in
      let texts = prefixed tag (texts_of read given) (seen h.taken) in
      let more = is ∙ ap (λ t. text_items (chars (read p)) t ++ as_text t (line_seen line)) under in
      let longer : prefixed tag (texts_of read (given ++ p ∷ [])) (seen (h.taken ++ line ∷ [])) ≡ texts ++ shown ∷ [] =
      (λ i. prefixed tag (map-append (λ x. chars (read x)) given (p ∷ []) i) (map-append line_seen h.taken (line ∷ []) i))
      ∙ prefixed-append tag (texts_of read given) (chars (read p) ∷ []) (seen h.taken) (seen (line ∷ [])) (same_length given h.taken h.as_many) ∙ ap (λ t. texts ++ t ∷ []) (sym more) in record {
        taken = h.taken ++ line ∷ [];
        whole = h.whole ∙ ap (λ ls. h.taken ++ ls) begins ∙ sym (append_assoc h.taken (line ∷ []) rest);
        as_many = omega (arith, h.as_many, length-append h.taken (line ∷ []), length-append given (p ∷ []));
        put = record {
          unfailed = live;
          settings = kept ∙ h.put.settings;
          lines = added ∙ ap (λ (r : Renderer D A (List A)). with_line columns r shown) h.put.lines
              ∙ sym (fold-append (with_line columns) first texts (shown ∷ [])) ∙ ap (fold (with_line columns) first) (sym longer);
        };
      }

  -- the prefixes that were given, or the lines, have ended
  pub after_all : (given more : List P) (left : List (RenderLine (List A))) (now : Renderer D A (List A)) → HasAfter given left now → prefixed tag (texts_of read more) (seen left) ≡ [] →
      now ≡ with_prefixed columns first (texts_of read (given ++ more)) (seen all)
  after_all given more left now h none = grind (arith, map-append, prefixed-append, same_length, append-nil)

  pub no_line : (more : List P) → prefixed tag (texts_of read more) [] ≡ []
  no_line [] = refl
  no_line (p ∷ more) = refl

-- ---- lines after two prefixes, one by one

module _ {D A : Type 0} (columns : ℕ → Option ℕ) (start : Renderer D A (List A)) (first others : List ℕ) where
  abbrev texts_after : List (RenderLine (List A)) → List (List (Item (List A)))
  texts_after lines = prefixed start.annotations (alike first others (length lines)) (seen lines)

  -- These lines have come.
  abbrev pub HasTexts : List (RenderLine (List A)) → Renderer D A (List A) → Type 0
  HasTexts lines now = HasPut columns start (texts_after lines) now

  one_more : (lines : List (RenderLine (List A))) (line : RenderLine (List A)) →
      texts_after (lines ++ line ∷ []) ≡ texts_after lines ++ (text_items (prefix_after first others (length lines)) start.annotations ++ as_text start.annotations (line_seen line)) ∷ []
  one_more lines line =
      let n = length lines in let tag = start.annotations in
      let longer : length (lines ++ line ∷ []) ≡ n + 1 = length-append lines (line ∷ []) in
      let same : length (alike first others n) ≡ length (seen lines) = omega (arith, length-alike first others n, length-seen lines) in
      (λ i. prefixed tag (alike first others (longer i)) (map-append line_seen lines (line ∷ []) i))
      ∙ ap (λ ps. prefixed tag ps (seen lines ++ seen (line ∷ []))) (alike_more first others n)
      ∙ prefixed-append tag (alike first others n) (prefix_after first others n ∷ []) (seen lines) (seen (line ∷ [])) same

  pub texts_more : (lines : List (RenderLine (List A))) (line : RenderLine (List A)) (now next : Renderer D A (List A)) (prefix : List ℕ) (shown : List (Item (List A))) → HasTexts lines now →
      prefix ≡ prefix_after first others (length lines) → shown ≡ text_items prefix now.annotations ++ as_text now.annotations (line_seen line) →
      next ≡ with_line columns now shown → KeepsSettings now next → next.failure ≡ None → HasTexts (lines ++ line ∷ []) next
  texts_more lines line now next prefix shown h at is added kept live =
      let under : now.annotations ≡ start.annotations = ap (λ (s : Settings D A). s.annotations) h.settings in
      let more = is ∙ (λ i. text_items (at i) (under i) ++ as_text (under i) (line_seen line)) in record {
        unfailed = live;
        settings = kept ∙ h.settings;
        lines = added ∙ ap (λ (r : Renderer D A (List A)). with_line columns r shown) h.lines ∙ sym (fold-append (with_line columns) start (texts_after lines) (shown ∷ []))
            ∙ ap (fold (with_line columns) start) (ap (λ t. texts_after lines ++ t ∷ []) more ∙ sym (one_more lines line));
      }

-- ---- cells below one another

module _ {D A : Type 0} (columns : ℕ → Option ℕ) (first : Renderer D A (List A)) where
  abbrev pub hands : Renderer D A (List A) → Outcome (List (Line (List A)))
  hands col = handed_out columns col

  pub record HasCells (cols : List (Renderer D A (List A))) (now : Renderer D A (List A)) : Type 0 where
    pub cells : List (List (Line (List A)))
    pub hand : gathered hands cols ≡ done cells
    pub unfailed : now.failure ≡ None
    pub settings : KeepsSettings first now
    pub is : now ≡ fold (with_cell_below columns) first cells

  pub no_cells : first.failure ≡ None → HasCells [] first
  no_cells live = record { cells = []; hand = refl; unfailed = live; settings = refl; is = refl }

  pub cells_go_on : (cols : List (Renderer D A (List A))) (col : Renderer D A (List A)) (lines : List (Line (List A)))
      (now divided next : Renderer D A (List A)) → (h : HasCells cols now) → hands col ≡ done lines →
      divided ≡ with_divider columns slash now → next ≡ with_cell columns divided lines → KeepsSettings now divided → KeepsSettings divided next → next.failure ≡ None →
      HasCells (cols ++ col ∷ []) next
  cells_go_on cols col lines now divided next h given divides puts kept still live = record {
    cells = h.cells ++ lines ∷ [];
    hand = gathered_last hands cols h.cells col lines h.hand given;
    unfailed = live;
    settings = still ∙ kept ∙ h.settings;
    is = puts ∙ ap (λ (r : Renderer D A (List A)). with_cell columns r lines) (divides ∙ ap (with_divider columns slash) h.is) ∙ sym (fold-append (with_cell_below columns) first h.cells (lines ∷ []));
  }

-- ---- lines that are kept, after prefixes

module _ {D A : Type 0} (same : A → A → Bool) (tells : (a b : A) → IsTrue (same a b) ↔ (a ≡ b)) (columns : ℕ → Option ℕ) where
  pub kept_after : {E : Type 0} (r s : Renderer D A (List A)) {X : Type 0} (result : Result X E) (tag : List A) → tag ≡ r.annotations → (first others : List ℕ) (lines : List (Line (List A))) →
      r.options.pad_block_width ≡ false → r.waiting ≡ [] → OnOk result (s ≡ record r { lines = s.lines }) →
      OnOk result (Appends (same_annotations same) r.lines (prefixed_lines tag first others lines) s.lines) → OnOk result (s ≡ with_prefixed columns r (alike first others (length lines)) lines)
  kept_after r s (Ok u) tag under first others lines unpadded none rest (more, is, seen) =
      let prefixes = alike first others (length lines) in
      let shown : more ≡ map text (prefixed r.annotations prefixes lines) =
      lines_told same tells more (prefixed_lines tag first others lines) seen ∙ ap (λ t. prefixed_lines t first others lines) under
      ∙ sym (prefixed_alike r.annotations first others lines) in
      added_at_once columns r s more (prefixed r.annotations prefixes lines) shown unpadded none (rest ∙ ap (λ ls. record r { lines = ls }) is)
  kept_after r s (Err e) tag under first others lines unpadded none rest appended = tt
