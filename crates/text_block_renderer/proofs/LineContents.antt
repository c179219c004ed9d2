-- What whoever looks at items, but not at spaces, sees of lines of text and of the markers that wait.
use Rattle.text_block_renderer.proofs.Common.{◌≡◌, ℕ, Option, None, List, [], ◌∷◌, ◌++◌, map, fold, refl, ap, sym, ◌∙◌, append_assoc, append-nil, rules, map-append, Item, marker, marker_items, Border}
use Rattle.text_block_renderer.proofs.Common.{text_items, spaces, padding_of, Line, text, border, Open, Renderer, with_line, block_width, block_lines, flushed, text_of_lines, items_so_far}
use Rattle.tbr_model.specs.Layout.{joined}

pub text_of_lines-append : {T : Type 0} (ls ms : List (Line T)) → text_of_lines (ls ++ ms) ≡ text_of_lines ls ++ text_of_lines ms
text_of_lines-append [] ms = refl
text_of_lines-append (text is ∷ ls) ms = ap (λ js. is ++ js) (text_of_lines-append ls ms) ∙ sym (append_assoc is (text_of_lines ls) (text_of_lines ms))
text_of_lines-append (border b ∷ ls) ms = text_of_lines-append ls ms

-- a border is no text
pub no_text_after : {T : Type 0} (ls : List (Line T)) (b : Border T) → text_of_lines (ls ++ border b ∷ []) ≡ text_of_lines ls
no_text_after ls b = text_of_lines-append ls (border b ∷ []) ∙ append-nil (text_of_lines ls)

pub marker_items-append : {T : Type 0} (ms ns : List (List ℕ)) → (let is : List (Item T) = marker_items (ms ++ ns) in is) ≡ marker_items ms ++ marker_items ns
marker_items-append {T} ms ns = map-append (λ n. let i : Item T = marker n in i) ms ns

-- One who looks at items, one after another, and sees nothing in spaces.
pub record Looks {T Y : Type 0} (look : List (Item T) → List Y) : Type 0 where
  pub append : (is js : List (Item T)) → look (is ++ js) ≡ look is ++ look js
  pub nothing : look [] ≡ []
  pub spaces_unseen : (n : ℕ) (a : T) → look (text_items (spaces n) a) ≡ []

module _ {A Y : Type 0} (look : List (Item (List A)) → List Y) (looks : Looks look) (columns : ℕ → Option ℕ) where
  -- so it is not seen in texts
  pub unpadded : (o : Option (List A)) (width : ℕ) (ts : List (List (Item (List A)))) → look (joined (map (λ is. is ++ padding_of columns o width is) ts)) ≡ look (joined ts)
  unpadded o width [] = refl
  unpadded o width (t ∷ ts) = search (rules, looks.append, append-nil, unpadded o width ts)

module _ {D A Y : Type 0} (look : List (Item (List A)) → List Y) (looks : Looks look) (columns : ℕ → Option ℕ) where
  -- one line more
  pub seen_line : (r : Renderer D A (List A)) (t : List (Item (List A))) → look (items_so_far (with_line columns r t)) ≡ look (items_so_far r) ++ look t
  seen_line r t = search (rules, append-nil, text_of_lines-append, looks.append, append_assoc)

  -- and several
  pub seen_texts : (ts : List (List (Item (List A)))) (r : Renderer D A (List A)) → look (items_so_far (fold (with_line columns) r ts)) ≡ look (items_so_far r) ++ look (joined ts)
  seen_texts [] r = sym (append-nil (look (items_so_far r))) ∙ ap (λ ys. look (items_so_far r) ++ ys) (sym looks.nothing)
  seen_texts (t ∷ ts) r = rw (seen_texts ts (with_line columns r t), seen_line r t, looks.append t (joined ts)) (append_assoc (look (items_so_far r)) (look t) (look (joined ts)))

  -- the end of a run
  pub seen_flushed : (r : Renderer D A (List A)) (b : Open (List A)) (texts : List (List (Item (List A)))) (names : List (List ℕ)) →
      look (items_so_far (flushed columns r (block_lines columns r b texts) names)) ≡ look (items_so_far r) ++ look (joined texts ++ marker_items names)
  seen_flushed r b texts names =
      let s : Renderer D A (List A) = fold (with_line columns) (record r { block = None }) (block_lines columns r b texts) in
      let came : look (items_so_far s) ≡ look (items_so_far r) ++ look (joined texts) =
      seen_texts (block_lines columns r b texts) (record r { block = None }) ∙ ap (λ ys. look (items_so_far r) ++ ys) (unpadded look looks columns b.padding (block_width r) texts) in
      ap look (ap (λ is. text_of_lines s.lines ++ is) (marker_items-append s.waiting names) ∙ sym (append_assoc (text_of_lines s.lines) (marker_items s.waiting) (marker_items names)))
      ∙ rw (looks.append (items_so_far s) (marker_items names), came, looks.append (joined texts) (marker_items names))
      (append_assoc (look (items_so_far r)) (look (joined texts)) (look (marker_items names)))
