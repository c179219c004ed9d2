-- The hard lines of a run under other annotations, and what is shown of them.
use Rattle.tbr_model.proofs.Common.{◌≡◌, ◌≢◌, ℕ, inl, inr, Bool, true, false, Option, List, [], ◌∷◌, map, take, drop, refl, ap, subst, ◌∙◌, arith, AllZip, map-append, length-map, take-map, drop-map}
use Rattle.tbr_model.proofs.Common.{Entry, character, marker_entry, Item, glyph, marker, joined, onto_first, hard_lines, Parted, glyphs_of, letters_of, entry_letters, visible_entries, IsShown}
use Rattle.tbr_model.proofs.Common.{ShowsVisible, IsPrintableLine, IsTabbedLine, IsSpaces, blank_lines, StandUnder, HasMain, HasContinuation, ShowsHardLine, ShowsPre, ShowsPreWrap, ShowsTabs}
use Rattle.tbr_model.proofs.Common.{map_item, map_items, map_entry, map_run, map_lines}
use Rattle.tbr_model.specs.Hard.{is_visible_entry}
use Rattle.tbr_model.proofs.lists.Each.{if_same, filter-map, zip-map}
use Rattle.tbr_model.proofs.maps.Layouts.{joined-map}

-- ---- hard lines

onto_first-map : {X Y : Type 0} (g : X → Y) (x : X) (xss : List (List X)) → onto_first (g x) (map (map g) xss) ≡ map (map g) (onto_first x xss)
onto_first-map g x [] = refl
onto_first-map g x (xs ∷ xss) = refl

pub hard_lines-map : {A B : Type 0} (f : A → B) (run : List (Entry A)) → hard_lines (map_run f run) ≡ map (map_run f) (hard_lines run)
hard_lines-map f [] = refl
hard_lines-map f (marker_entry name ∷ es) = ap (onto_first (marker_entry name)) (hard_lines-map f es) ∙ onto_first-map (map_entry f) (marker_entry name) (hard_lines es)
hard_lines-map f (character c a b m ∷ es) = grind (arith, if_same, onto_first-map, hard_lines-map f es)

pub parted-map : {X Y Z W : Type 0} (R : Bool → X → List Y → Type 0) (S : Bool → Z → List W → Type 0) (g : X → Z) (k : Y → W) →
    ((more : Bool) (x : X) (ys : List Y) → R more x ys → S more (g x) (map k ys)) → (xs : List X) (ys : List Y) → Parted R xs ys → Parted S (map g xs) (map k ys)
parted-map R S g k each [] ys h = ap (map k) h
parted-map R S g k each (x ∷ []) ys h = each false x ys h
parted-map R S g k each (x ∷ z ∷ xs) ys h =
    let (front, back, whole, first, rest) = h in
    (map k front, map k back, ap (map k) whole ∙ map-append k front back, each true x front first, parted-map R S g k each (z ∷ xs) back rest)

-- ---- characters

abbrev pub map_glyph : {A B : Type 0} → (A → B) → ℕ × A → ℕ × B
map_glyph f g = (g.0, f g.1)

module _ {A B : Type 0} (f : A → B) where
  glyphs_of-map : (is : List (Item A)) → glyphs_of (map_items f is) ≡ map (map_glyph f) (glyphs_of is)
  glyphs_of-map [] = refl
  glyphs_of-map (glyph c a ∷ is) = ap (λ (gs : List (ℕ × B)). (c, f a) ∷ gs) (glyphs_of-map is)
  glyphs_of-map (marker name ∷ is) = glyphs_of-map is

  letters_of-map : (is : List (Item A)) → letters_of (map_items f is) ≡ letters_of is
  letters_of-map [] = refl
  letters_of-map (glyph c a ∷ is) = ap (λ cs. c ∷ cs) (letters_of-map is)
  letters_of-map (marker name ∷ is) = letters_of-map is

  pub entry_letters-map : (es : List (Entry A)) → entry_letters (map_run f es) ≡ entry_letters es
  entry_letters-map [] = refl
  entry_letters-map (character c a b m ∷ es) = ap (λ cs. c ∷ cs) (entry_letters-map es)
  entry_letters-map (marker_entry name ∷ es) = entry_letters-map es

  line_letters-map : (ls : List (List (Item A))) → map letters_of (map_lines f ls) ≡ map letters_of ls
  line_letters-map [] = refl
  line_letters-map (l ∷ ls) = let first = letters_of-map l in let rest = line_letters-map ls in cc

  pub joined_glyphs-map : (ls : List (List (Item A))) → glyphs_of (joined (map_lines f ls)) ≡ map (map_glyph f) (glyphs_of (joined ls))
  joined_glyphs-map ls = ap glyphs_of (joined-map (map_item f) ls) ∙ glyphs_of-map (joined ls)

  -- ---- visible characters

  module _ (columns : ℕ → Option ℕ) where
    pub visible_entries-map : (es : List (Entry A)) → visible_entries columns (map_run f es) ≡ map_run f (visible_entries columns es)
    visible_entries-map = filter-map (map_entry f) (is_visible_entry columns) (is_visible_entry columns) same
      where
        same : (e : Entry A) → is_visible_entry columns (map_entry f e) ≡ is_visible_entry columns e
        same (character c a b m) = refl
        same (marker_entry name) = refl

    printable_unmap : (es : List (Entry A)) → IsPrintableLine columns (map_run f es) → IsPrintableLine columns es
    printable_unmap [] h = tt
    printable_unmap (character c a b m ∷ es) h = (h.0, printable_unmap es h.1)
    printable_unmap (marker_entry name ∷ es) h = absurd h.0

    tabbed_unmap : (es : List (Entry A)) → IsTabbedLine columns (map_run f es) → IsTabbedLine columns es
    tabbed_unmap [] h = tt
    tabbed_unmap (character c a b m ∷ es) h = (h.0, tabbed_unmap es h.1)
    tabbed_unmap (marker_entry name ∷ es) h = absurd h.0

  -- ---- what is shown

  blank_lines-map : (more : Bool) → map_lines f (blank_lines more) ≡ blank_lines more
  blank_lines-map true = refl
  blank_lines-map false = refl

  blank-map : (more : Bool) (h : List (Entry A)) (ls : List (List (Item A))) → (IsSpaces (entry_letters h) → ls ≡ blank_lines more) →
      IsSpaces (entry_letters (map_run f h)) → map_lines f ls ≡ blank_lines more
  blank-map more h ls blank spaces = ap (map_lines f) (blank (subst IsSpaces (entry_letters-map h) spaces)) ∙ blank_lines-map more

  module _ (Same : A → A → Type 0) (Other : B → B → Type 0) (keeps : (x y : A) → Same x y → Other (f x) (f y)) (columns : ℕ → Option ℕ) where
    shown-map : (gs : List (ℕ × A)) (es : List (Entry A)) → AllZip (IsShown Same) gs es → AllZip (IsShown Other) (map (map_glyph f) gs) (map_run f es)
    shown-map = zip-map (IsShown Same) (IsShown Other) (map_glyph f) (map_entry f) one
      where
        one : (g : ℕ × A) (e : Entry A) → IsShown Same g e → IsShown Other (map_glyph f g) (map_entry f e)
        one g (character c a b m) (same, inl h) = (same, inl (keeps g.1 a h))
        one g (character c a b m) (same, inr h) = (same, inr (keeps g.1 b h))
        one g (marker_entry name) h = absurd h

    pub visible-map : (run : List (Entry A)) (ls : List (List (Item A))) → ShowsVisible columns Same run ls → ShowsVisible columns Other (map_run f run) (map_lines f ls)
    visible-map run ls h = grind (arith, ℕ, joined_glyphs-map, filter-map, visible_entries-map, shown-map)

    stand-map : (Has : Entry A → A → Type 0) (HasNow : Entry B → B → Type 0) → ((e : Entry A) (x : A) → Has e x → HasNow (map_entry f e) (f x)) →
        (gs : List (ℕ × A)) (es : List (Entry A)) → StandUnder Has gs es → StandUnder HasNow (map (map_glyph f) gs) (map_run f es)
    stand-map Has HasNow each = zip-map (λ g e. g.0 ≢ 32 → Has e g.1) (λ g e. g.0 ≢ 32 → HasNow e g.1) (map_glyph f) (map_entry f) (λ g e h other. each e g.1 (h other))

    pub main-map : (e : Entry A) (x : A) → HasMain Same e x → HasMain Other (map_entry f e) (f x)
    main-map (character c a b m) x h = keeps x a h
    main-map (marker_entry name) x h = absurd h

    pub continuation-map : (e : Entry A) (x : A) → HasContinuation Same e x → HasContinuation Other (map_entry f e) (f x)
    continuation-map (character c a b m) x h = keeps x b h
    continuation-map (marker_entry name) x h = absurd h

    pub hard_line-map : (more : Bool) (h : List (Entry A)) (ls : List (List (Item A))) → ShowsHardLine columns Same more h ls → ShowsHardLine columns Other more (map_run f h) (map_lines f ls)
    hard_line-map more h ls s = record { line = λ some. omega (arith, s.line some, length-map ls (map_items f)); visible = visible-map h ls s.visible; blank = blank-map more h ls s.blank }

    pub pre-map : (width : ℕ) (more : Bool) (h : List (Entry A)) (ls : List (List (Item A))) → ShowsPre columns Same width more h ls → ShowsPre columns Other width more (map_run f h) (map_lines f ls)
    pre-map width more h ls s = record {
      kept = rw (joined-map (map_item f) ls, letters_of-map (joined ls), entry_letters-map h) s.kept;
      fits = rw (line_letters-map ls, entry_letters-map h, length-map h (map_entry f)) (λ printable some fits. s.fits (printable_unmap columns h printable) some fits);
      cut = rw (line_letters-map ls, entry_letters-map h) (λ printable begins. s.cut (printable_unmap columns h printable) begins);
      blank = blank-map more h ls s.blank;
      main = rw (entry_letters-map h, joined_glyphs-map ls, take-map (map_glyph f), take-map (map_entry f))
          (λ printable begins. stand-map (HasMain Same) (HasMain Other) main-map (take width (glyphs_of (joined ls))) (take width h) (s.main (printable_unmap columns h printable) begins));
      continuation = rw (entry_letters-map h, joined_glyphs-map ls, drop-map (map_glyph f), drop-map (map_entry f))
          (λ printable begins. stand-map (HasContinuation Same) (HasContinuation Other) continuation-map
          (drop width (glyphs_of (joined ls))) (drop width h) (s.continuation (printable_unmap columns h printable) begins));
    }

  pub prewrap-map : (columns : ℕ → Option ℕ) (width : ℕ) (more : Bool) (h : List (Entry A)) (ls : List (List (Item A))) →
      ShowsPreWrap columns width more h ls → ShowsPreWrap columns width more (map_run f h) (map_lines f ls)
  prewrap-map columns width more h ls s = record {
    fits = rw (line_letters-map ls, entry_letters-map h) (λ printable some fits. s.fits (printable_unmap columns h printable) some fits);
    whole = rw (line_letters-map ls, entry_letters-map h) (λ printable. s.whole (printable_unmap columns h printable));
    wrapped = rw (line_letters-map ls, entry_letters-map h) (λ printable other. s.wrapped (printable_unmap columns h printable) other);
    blank = blank-map more h ls s.blank;
  }

  pub tabs-map : (columns : ℕ → Option ℕ) (width : ℕ) (more : Bool) (h : List (Entry A)) (ls : List (List (Item A))) →
      ShowsTabs columns width more h ls → ShowsTabs columns width more (map_run f h) (map_lines f ls)
  tabs-map columns width more h ls s = record {
    tabs = rw (line_letters-map ls, entry_letters-map h) (λ tabbed ends fits. s.tabs (tabbed_unmap columns h tabbed) ends fits);
  }

  -- ---- all hard lines of a run

  pub hard_parts-map : (R : Bool → List (Entry A) → List (List (Item A)) → Type 0) (S : Bool → List (Entry B) → List (List (Item B)) → Type 0) →
      ((more : Bool) (h : List (Entry A)) (ls : List (List (Item A))) → R more h ls → S more (map_run f h) (map_lines f ls)) →
      (run : List (Entry A)) (lines : List (List (Item A))) → Parted R (hard_lines run) lines → Parted S (hard_lines (map_run f run)) (map_lines f lines)
  hard_parts-map R S each run lines h = rw (hard_lines-map f run) (parted-map R S (map_run f) (map_items f) each (hard_lines run) lines h)
