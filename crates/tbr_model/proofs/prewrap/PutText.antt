-- What holds before each entry of a hard line of `PreWrap`, and the items of a word, put one by one: on which lines they are.
use Rattle.tbr_model.proofs.Common.{◌≡◌, ℕ, zero, suc, ◌+◌, ◌<◌, ◌≤◌, ◌⊎◌, inl, inr, nat_le, Option, List, [], ◌∷◌, length, refl, ap, ◌∙◌, arith, subst, le-leb, ◌++◌, map, append_assoc, append-nil}
use Rattle.tbr_model.proofs.Common.{length-append, leb-true, leb-false, ne_eqb, Each, cases_Bool, PreWrap, Item, glyph, marker, items_width, Laid, extended, end_line, put_items, Progress}
use Rattle.tbr_model.proofs.Common.{pending_width, space_of, without_leading, join, without_trailing, letters_of, EndsWithNonBlank, first_stretch, BeginsAfter, map-append}
use Rattle.tbr_model.proofs.words.Items.{each_marker, WaitsIn, pending_width-of, letters_of-append}
use Rattle.tbr_model.proofs.lists.Each.{each_append}
use Rattle.tbr_model.proofs.rule.HardLineStart.{BeginsHardLine}
use Rattle.tbr_model.proofs.rule.Printable.{IsVisible, whitespace_not}
use Rattle.tbr_model.proofs.prewrap.WrappedText.{AreNonBlank, GoesOnFrom, ends_nonblank, stretch_front, stretch_all, longer, ended, begun, last_of}

-- ---- items

-- a visible character, or a marker
abbrev pub IsVisibleOrMarker : {A : Type 0} → (ℕ → Option ℕ) → Item A → Type 0
IsVisibleOrMarker columns (glyph c a) = IsVisible columns c
IsVisibleOrMarker columns (marker name) = Unit {0}

pub plain_width : {A : Type 0} (columns : ℕ → Option ℕ) (is : List (Item A)) → Each (IsVisibleOrMarker columns) is → items_width columns is ≡ length (letters_of is)
plain_width columns [] h = refl
plain_width columns (glyph c a ∷ is) h = rw (h.0.one) (omega (arith, plain_width columns is h.1))
plain_width columns (marker name ∷ is) h = omega (arith, plain_width columns is h.1)

-- such a word begins with no white space
pub plain_leading : {A : Type 0} (columns : ℕ → Option ℕ) (is : List (Item A)) → Each (IsVisibleOrMarker columns) is → without_leading is ≡ is
plain_leading columns [] h = refl
plain_leading columns (glyph c a ∷ is) h = rw (whitespace_not c h.0.from h.0.to) refl
plain_leading columns (marker name ∷ is) h = refl

-- what is kept between entries
pub record IsReadyForWord {A : Type 0} (columns : ℕ → Option ℕ) (p : Progress A) : Type 0 where
  pub plain : Each (IsVisibleOrMarker columns) p.word
  pub measured : p.laid.width ≡ length (letters_of p.laid.line)
  pub apart : (letters_of p.laid.line ≡ []) ⊎ (0 < pending_width p.space)
  pub wraps : WaitsIn PreWrap p.space

-- ---- entries that join it

pub waits : {A : Type 0} (columns : ℕ → Option ℕ) (p : Progress A) (a : A) → Each (IsVisibleOrMarker columns) p.word → p.laid.width ≡ length (letters_of p.laid.line) →
    IsReadyForWord columns (record p { space = space_of (pending_width p.space + 1) a PreWrap })
waits {A} columns p a plain measured =
    record { plain = plain; measured = measured; apart = inr (omega (arith, pending_width-of (pending_width p.space + 1) a PreWrap)); wraps = wrapped (pending_width p.space + 1) }
  where
    wrapped : (n : ℕ) → WaitsIn PreWrap (space_of n a PreWrap)
    wrapped zero = tt
    wrapped (suc n) = refl

pub join_ready : {A : Type 0} (columns : ℕ → Option ℕ) (p : Progress A) (c : ℕ) (a : A) → IsVisible columns c → IsReadyForWord columns p → IsReadyForWord columns (join c a PreWrap p)
join_ready columns p c a v h = record { plain = each_append (IsVisibleOrMarker columns) p.word (glyph c a ∷ []) h.plain (v, tt); measured = h.measured; apart = h.apart; wraps = h.wraps }

pub fresh_ready : {A : Type 0} (columns : ℕ → Option ℕ) (p : Progress A) → BeginsHardLine p → IsReadyForWord columns p
fresh_ready columns p h = grind (arith, each_marker)

-- an open line whose text is no spaces at its end has none there
pub trailing_whole : {A : Type 0} (is : List (Item A)) → (letters_of is ≡ []) ⊎ EndsWithNonBlank (letters_of is) → without_trailing is ≡ is
trailing_whole [] h = refl
trailing_whole (marker name ∷ []) h = refl
trailing_whole (marker name ∷ i ∷ is) h = rw (trailing_whole (i ∷ is) h) refl
trailing_whole (glyph c a ∷ is) (inl none) = cc
trailing_whole (glyph c a ∷ []) (inr ends) = rw (ne_eqb c 32 ends.0) refl
trailing_whole (glyph c a ∷ i ∷ is) (inr ends) = rw (trailing_whole (i ∷ is) (last_of c (letters_of (i ∷ is)) ends)) refl

pub nonblanks : {A : Type 0} (columns : ℕ → Option ℕ) (is : List (Item A)) → Each (IsVisibleOrMarker columns) is → AreNonBlank (letters_of is)
nonblanks columns [] h = tt
nonblanks columns (glyph c a ∷ is) h = (h.0.from, nonblanks columns is h.1)
nonblanks columns (marker name ∷ is) h = nonblanks columns is h.1

module _ {A : Type 0} (columns : ℕ → Option ℕ) (width : ℕ) (some : 0 < width) where
  -- The open line of `l` has the characters y. With w between, the lines that go on from it are those that go on from
  -- the open line of `r`. They reach all of y and w that a line has columns for.
  pub record ReachesFrom (l : Laid A) (y w : List ℕ) (r : Laid A) (text : List ℕ) (ls : List (List ℕ)) : Type 0 where
    pub all : List (List ℕ)
    pub are : map letters_of r.done ++ ls ≡ map letters_of l.done ++ all
    pub goes : GoesOnFrom width y (w ++ text) all
    pub reach : (k : ℕ) → k ≤ width → k ≤ length y + length w → k ≤ length (first_stretch (y ++ goes.more))

  pub record PutsText (l : Laid A) (y w : List ℕ) (r : Laid A) : Type 0 where
    pub nonblank : AreNonBlank (letters_of r.line)
    pub fits : length (letters_of r.line) ≤ width
    pub columns_are : r.width ≡ length (letters_of r.line)
    pub measured : 0 < length y + length w → 0 < length (letters_of r.line)
    pub goes : (text : List ℕ) (ls : List (List ℕ)) → GoesOnFrom width (letters_of r.line) text ls → ReachesFrom l y w r text ls

  put_none : (l : Laid A) (y : List ℕ) → letters_of l.line ≡ y → AreNonBlank y → l.width ≡ length y → length y ≤ width → PutsText l y [] l
  put_none l y letters nonblank columns_are fits = grind (arith, ℕ, stretch_front)

  put_one_here : (l : Laid A) (c : ℕ) (a : A) (y w : List ℕ) (r : Laid A) → PutsText (extended l (glyph c a ∷ []) 1) (y ++ c ∷ []) w r → PutsText l y (c ∷ w) r
  put_one_here l c a y w r k =
      let more : length (y ++ c ∷ []) ≡ length y + 1 = length-append y (c ∷ []) in
      record {
        nonblank = k.nonblank;
        fits = k.fits;
        columns_are = k.columns_are;
        measured = λ h. k.measured (omega (arith, more));
        goes = λ text ls h. (let g = k.goes text ls h in record {
          all = g.all;
          are = g.are;
          goes = longer width y (c ∷ []) (w ++ text) g.all g.goes;
          reach = λ n wide short. subst (λ (cs : List ℕ). n ≤ length (first_stretch cs)) (append_assoc y (c ∷ []) g.goes.more) (g.reach n wide (omega (arith, short, more)));
        });
      }

  put_one_next : (l : Laid A) (c : ℕ) (a : A) (y w : List ℕ) (r : Laid A) → letters_of l.line ≡ y → AreNonBlank y → length y ≡ width → 33 ≤ c →
      PutsText (extended (end_line l) (glyph c a ∷ []) 1) (c ∷ []) w r → PutsText l y (c ∷ w) r
  put_one_next l c a y w r letters nonblank full visible k = record {
    nonblank = k.nonblank;
    fits = k.fits;
    columns_are = k.columns_are;
    measured = λ h. k.measured (omega arith);
    goes = λ text ls h.
        (let g = k.goes text ls h in
        let next = longer width [] (c ∷ []) (w ++ text) g.all g.goes in
        let begins : BeginsAfter width y 0 next.more = inr (
          (λ e. omega (arith, visible, e)),
          (let one : 1 ≤ length (first_stretch (c ∷ g.goes.more)) = stretch_front (c ∷ []) g.goes.more (visible, tt) in omega (arith, full, one)),
          (λ _. (full, stretch_all y nonblank)),
        ) in
        record {
          all = y ∷ g.all;
          are =
              g.are
              ∙ ap (λ (xs : List (List ℕ)). xs ++ g.all)
              (map-append letters_of l.done (l.line ∷ [])
              ∙ ap (λ (x : List ℕ). map letters_of l.done ++ x ∷ []) letters)
              ∙ append_assoc (map letters_of l.done) (y ∷ []) g.all;
          goes = ended width y (c ∷ (w ++ text)) g.all (ends_nonblank y nonblank (omega (arith, full, some))) (omega (arith, full)) (begun width y (c ∷ (w ++ text)) g.all 0 next begins);
          reach = λ n wide _. (let all : length y ≤ length (first_stretch (y ++ [])) = stretch_front y [] nonblank in omega (arith, wide, full, all));
        });
  }

  pub put_text : (is : List (Item A)) (l : Laid A) (y : List ℕ) → Each (IsVisibleOrMarker columns) is → letters_of l.line ≡ y → AreNonBlank y → l.width ≡ length y → l.width ≤ width →
      PutsText l y (letters_of is) (put_items columns width l is)
  put_text [] l y plain letters nonblank measured fits = put_none l y letters nonblank measured (omega (arith, measured, fits))
  put_text (marker name ∷ is) l y plain letters nonblank measured fits =
      rw (le-leb (l.width + 0) width (omega (arith, fits)))
      (let k = put_text is (extended l (marker name ∷ []) 0) y plain.1 (letters_of-append l.line (marker name ∷ []) ∙ append-nil (letters_of l.line) ∙ letters) nonblank
      (omega (arith, measured)) (omega (arith, fits)) in
      record {
        nonblank = k.nonblank;
        fits = k.fits;
        columns_are = k.columns_are;
        measured = k.measured;
        goes =
            λ text ls h. (let g = k.goes text ls h in record { all = g.all; are = g.are; goes = g.goes; reach = g.reach });
      })
  put_text (glyph c a ∷ is) l y plain letters nonblank measured fits =
      elim (cases_Bool (nat_le (l.width + 1) width)) [
        | inl e ↦ rw (plain.0.one, e) (put_one_here l c a y (letters_of is) _
            (put_text is (extended l (glyph c a ∷ []) 1) (y ++ c ∷ []) plain.1 (letters_of-append l.line (glyph c a ∷ []) ∙ ap (λ cs. cs ++ c ∷ []) letters)
            (each_append (λ d. 33 ≤ d) y (c ∷ []) nonblank (plain.0.from, tt)) (omega (arith, measured, length-append y (c ∷ []))) (leb-true _ _ e)))
        | inr e ↦ rw (plain.0.one, e, le-leb 1 width (omega (arith, some)))
            (put_one_next l c a y (letters_of is) _ letters nonblank (omega (arith, leb-false _ _ e, measured, fits)) plain.0.from
            (put_text is (extended (end_line l) (glyph c a ∷ []) 1) (c ∷ []) plain.1 refl (plain.0.from, tt) refl (omega (arith, some))))
      ]
