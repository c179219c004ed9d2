-- Whether a row fits, told cell by cell.
use Rattle.tbr_rows.proofs.Common.{◌≡◌, ℕ, ◌+◌, ◌-◌, ◌<◌, ◌≤◌, Bool, true, false, ◌&&◌, ◌||◌, ◌==◌, List, [], ◌∷◌, map, refl, ap, sym, ◌∙◌, arith, inl, inr, take, length, get_or, ◌++◌}
use Rattle.tbr_rows.proofs.Common.{append_assoc, is_none, list_all, list_any, AllZip, eqb-false, and_parts, Cell, end_of, AreSideBySide, AreApart, Spot, spot_of, spots_from, look}
use Rattle.tbr_rows.proofs.Common.{first_line, is_left_for, ends_before, row_fits, RenderLine, Fitting, fits_with}
use Rattle.std.proofs.lemmas.Bool.{ne_eqb, eq-eqb, lt-leb, and_from, or_cases, or_left, or_right, and_right}
use Rattle.tbr_rows.specs.Cells.{stands_first, IsAsFree}
use Rattle.std.proofs.lemmas.List.{map_more}
use Rattle.tbr_rows.proofs.Fits.{spots_side_by_side, none_from, elsewhere, past, all_found, finds}

pub spots_are : {A : Type 0} (cs : List (Cell A)) → AreSideBySide 0 cs → map spot_of cs ≡ spots_from 0 (map look cs)
spots_are cs s = spots_side_by_side 0 cs s

-- ---- one more cell

-- It is asked of the row as before, once the first cell that waits has taken its place, or can't.
pub record IsAsked {A : Type 0} (f t : Fitting A) (width : ℕ) (blank : Bool) : Type 0 where
  pub apart : AreApart t.at t.waiting
  pub passed : stands_first t.waiting t.at ≡ false
  pub same : (more : List (ℕ × Bool)) → fits_with t ((width, blank) ∷ more) ≡ fits_with f ((width, blank) ∷ more)

module _ {A : Type 0} (width : ℕ) (blank : Bool) where
  pub taken : (h : Cell A) (hs : List (Cell A)) (at : ℕ) (fits left : Bool) → AreApart at (h ∷ hs) → h.place ≡ at →
      left ≡ (fits && (h.width == width && blank)) →
      IsAsked (record { waiting = h ∷ hs; at = at; fits = fits }) (record { waiting = hs; at = at; fits = left }) width blank
  taken h hs at fits left apart here is = record {
    apart = nearer hs apart.1;
    passed = later hs apart.1;
    same = λ more. rw is (rw (
      eq-eqb h.place at here,
      none_from h (at + width + 1) more (omega (arith, here)),
      lt-leb (at + width + 1) h.place (omega (arith, here)),
    ) (go fits (h.width == width && blank) _));
  }
    where
      nearer : (ks : List (Cell A)) → AreApart (end_of h + 1) ks → AreApart at ks
      nearer [] a = tt
      nearer (k ∷ ks) a = (omega (arith, here, a.0), a.1)

      later : (ks : List (Cell A)) → AreApart (end_of h + 1) ks → stands_first ks at ≡ false
      later [] a = refl
      later (k ∷ ks) a = ne_eqb k.place at (λ e. let no : ⊥ = omega (arith, here, a.0, e) in no)

      go : (x y z : Bool) → ((x && y) && z) ≡ (x && (((y || false) || false) && z))
      go x y z = grind arith

  pub next_after : (f : Fitting A) (k : Cell A) (ks : List (Cell A)) (at to : ℕ) (fits : Bool) → IsAsked f (record { waiting = k ∷ ks; at = at; fits = fits }) width blank →
      width < k.place - at → to ≡ at + width + 1 → (more : List (ℕ × Bool)) →
      (let t : Fitting A = record { waiting = k ∷ ks; at = to; fits = fits } in fits_with t more) ≡ fits_with f ((width, blank) ∷ more)
  next_after f k ks at to fits asked short is more = grind (arith, past)

  pub next_lost : (f : Fitting A) (k : Cell A) (ks : List (Cell A)) (at : ℕ) (fits : Bool) → IsAsked f (record { waiting = k ∷ ks; at = at; fits = fits }) width blank →
      k.place - at ≤ width → (more : List (ℕ × Bool)) → false ≡ fits_with f ((width, blank) ∷ more)
  next_lost f k ks at fits asked long more = grind (arith, elsewhere, eqb-false, none_from, lt-leb, and_right)

-- ---- where fewer cells have lines

or_too : (x y u v : Bool) → (x ≡ true → u ≡ true) → (y ≡ true → v ≡ true) → (x || y) ≡ true → (u || v) ≡ true
or_too x y u v f g e = elim (or_cases x y e) [ inl l ↦ or_left u v (f l) | inr r ↦ or_right u v (g r) ]

and_too : (x y u v : Bool) → (x ≡ true → u ≡ true) → (y ≡ true → v ≡ true) → (x && y) ≡ true → (u && v) ≡ true
and_too x y u v f g e = let both = and_parts x y e in and_from u v (f both.0) (g both.1)

left_too : {A : Type 0} (h : Cell A) (s t : Spot) → IsAsFree s t → is_left_for h s ≡ true → is_left_for h t ≡ true
left_too h s t z e = grind (arith, and_too)

any_too : {A : Type 0} (h : Cell A) (spots others : List Spot) → AllZip IsAsFree spots others → list_any (is_left_for h) spots ≡ true → list_any (is_left_for h) others ≡ true
any_too h [] [] z e = e
any_too h (s ∷ ss) (t ∷ ts) z e =
    or_too (is_left_for h s) (list_any (is_left_for h) ss) (is_left_for h t) (list_any (is_left_for h) ts) (left_too h s t z.0) (any_too h ss ts z.1) e
any_too h _ _ z e = absurd z

all_too : {A : Type 0} (h : Cell A) (spots others : List Spot) → AllZip IsAsFree spots others → list_all (ends_before h) spots ≡ true → list_all (ends_before h) others ≡ true
all_too h [] [] z e = e
all_too h (s ∷ ss) (t ∷ ts) z e =
    rw (z.0.0, z.0.1) (and_too (ends_before h s) (list_all (ends_before h) ss) (ends_before h s) (list_all (ends_before h) ts) (λ k. k) (all_too h ss ts z.1) e)
all_too h _ _ z e = absurd z

pub fits_with_fewer_lines : {A : Type 0} (hanging : List (Cell A)) (spots others : List Spot) → AllZip IsAsFree spots others → row_fits hanging spots ≡ true → row_fits hanging others ≡ true
fits_with_fewer_lines [] spots others z e = e
fits_with_fewer_lines (h ∷ hs) spots others z e =
    and_too (finds spots h) (row_fits hs spots) (finds others h) (row_fits hs others)
    (or_too (list_any (is_left_for h) spots) (list_all (ends_before h) spots) (list_any (is_left_for h) others) (list_all (ends_before h) others)
    (any_too h spots others z) (all_too h spots others z))
    (fits_with_fewer_lines hs spots others z) e

-- ---- the cells of a row, told one after another

pub no_line : {A : Type 0} (ls : List (RenderLine A)) → (length ls == 0) ≡ is_none (first_line ls)
no_line [] = refl
no_line (l ∷ ls) = ne_eqb (length (l ∷ ls)) 0 (λ e. let no : ⊥ = omega (arith, e) in no)

pub fits_now : {A : Type 0} (f : Fitting A) → f.fits ≡ fits_with f []
fits_now f = rw (← all_found f.waiting) (grind arith)

-- The cells so far were given, each by its width and whether nothing is in it. Whatever comes next is then asked as of
-- the whole row.
pub one_more_told : {X : Type 0} (look_at : X → ℕ × Bool) (now after : List (ℕ × Bool) → Bool) (whole : List (ℕ × Bool) → Bool) (xs : List X) (i : ℕ) (x : X) → i < length xs → x ≡ get_or xs i x →
    ((more : List (ℕ × Bool)) → now more ≡ whole (map look_at (take i xs) ++ more)) → ((more : List (ℕ × Bool)) → after more ≡ now (look_at x ∷ more)) →
    (more : List (ℕ × Bool)) → after more ≡ whole (map look_at (take (i + 1) xs) ++ more)
one_more_told look_at now after whole xs i x below is so_far told more =
    let next : map look_at (take (i + 1) xs) ≡ map look_at (take i xs) ++ look_at x ∷ [] = map_more look_at xs i x below ∙ ap (λ y. map look_at (take i xs) ++ look_at y ∷ []) (sym is) in
    told more ∙ so_far (look_at x ∷ more) ∙ ap whole (sym (ap (λ ws. ws ++ more) next ∙ append_assoc (map look_at (take i xs)) (look_at x ∷ []) more))
