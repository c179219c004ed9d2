-- A word of Pre that doesn't fit is cut after every `width` characters.
use Rattle.tbr_model.proofs.Common.{◌≡◌, ℕ, ◌+◌, ◌<◌, ◌≤◌, nat_le, true, Option, None, List, [], ◌∷◌, ◌++◌, map, length, refl, ap, sym, ◌∙◌, arith, append_assoc, append-nil, length-append, subst}
use Rattle.tbr_model.proofs.Common.{leb-true, leb-false, inl, inr, le-leb, Each, cond_both, cases_Bool, Item, glyph, marker, items_width, has_character, Laid, extended, end_line, put_items, Progress}
use Rattle.tbr_model.proofs.Common.{pending_width, wrap_space, lay_fresh, flush_word, letters_of, IsCutEvery}
use Rattle.std.proofs.Math.Seq.{take-append_seam, drop-append_seam}
use Rattle.tbr_model.proofs.words.Items.{letters_of-append, some_letters, has_letters}
use Rattle.tbr_model.proofs.rule.LaidText.{text, text-put_items}
use Rattle.tbr_model.proofs.pre.WaitingWord.{IsUnit, units_width, Waits}

-- ---- items of one column for each character, one by one

-- on from the first, these characters are cut into the lines of the second, the open one too
record IsCutFrom {A : Type 0} (width : ℕ) (l : Laid A) (cs : List ℕ) (r : Laid A) : Type 0 where
  lines : List (List (Item A))
  done : r.done ≡ l.done ++ lines
  some : 0 < length (letters_of r.line)
  cut : IsCutEvery width cs (map letters_of (lines ++ r.line ∷ []))

full_first : (width : ℕ) (l cs : List ℕ) (ms : List (List ℕ)) → length l ≡ width → IsCutEvery width cs ms → IsCutEvery width (l ++ cs) (l ∷ ms)
full_first width l cs [] full h = absurd h
full_first width l cs (m ∷ ms) full h = grind (arith, ℕ, take-append_seam, drop-append_seam)

put_cut : {A : Type 0} (columns : ℕ → Option ℕ) (width : ℕ) (is : List (Item A)) (l : Laid A) → 0 < width → Each (IsUnit columns) is → l.width ≡ length (letters_of l.line) → l.width ≤ width →
    0 < length (letters_of l.line ++ letters_of is) → IsCutFrom width l (letters_of l.line ++ letters_of is) (put_items columns width l is)
put_cut columns width [] l wide units same fits some =
    let whole : letters_of l.line ++ [] ≡ letters_of l.line = append-nil (letters_of l.line) in
    record {
      lines = [];
      done = sym (append-nil l.done);
      some = subst (λ (cs : List ℕ). 0 < length cs) whole some;
      cut = (sym whole, subst (λ (cs : List ℕ). 0 < length cs) whole some, omega arith);
    }
put_cut {A} columns width (marker name ∷ is) l wide units same fits some =
    let line : letters_of (l.line ++ marker name ∷ []) ≡ letters_of l.line = letters_of-append l.line (marker name ∷ []) ∙ append-nil (letters_of l.line) in
    let k = put_cut columns width is (extended l (marker name ∷ []) 0) wide units.1 (omega (arith, same, ap length line)) (omega arith) (rw line some) in
    rw (le-leb (l.width + 0) width (omega arith)) (record {
      lines = k.lines;
      done = k.done;
      some = k.some;
      cut = subst (λ (cs : List ℕ). IsCutEvery width (cs ++ letters_of is) (map letters_of (k.lines ++ (put_items columns width (extended l (marker name ∷ []) 0) is).line ∷ []))) line k.cut;
    })
put_cut {A} columns width (glyph c a ∷ is) l wide units same fits some = elim (cases_Bool (nat_le (l.width + 1) width)) [
  | inl e ↦
      let line : letters_of (l.line ++ glyph c a ∷ []) ≡ letters_of l.line ++ c ∷ [] = letters_of-append l.line (glyph c a ∷ []) in
      let whole : letters_of (l.line ++ glyph c a ∷ []) ++ letters_of is ≡ letters_of l.line ++ c ∷ letters_of is =
      ap (λ cs. cs ++ letters_of is) line ∙ append_assoc (letters_of l.line) (c ∷ []) (letters_of is) in
      let k =
      put_cut columns width is (extended l (glyph c a ∷ []) 1) wide units.1
      (omega (arith, same, ap length line, length-append (letters_of l.line) (c ∷ []))) (leb-true _ _ e)
      (rw whole some) in
      rw (units.0, e) (record {
        lines = k.lines;
        done = k.done;
        some = k.some;
        cut = subst (λ (cs : List ℕ). IsCutEvery width cs (map letters_of (k.lines ++ (put_items columns width (extended l (glyph c a ∷ []) 1) is).line ∷ []))) whole k.cut;
      })
  | inr e ↦
      let r = put_items columns width (extended (end_line l) (glyph c a ∷ []) 1) is in
      let k = put_cut columns width is (extended (end_line l) (glyph c a ∷ []) 1) wide units.1 refl (omega (arith, wide)) (omega arith) in
      rw (units.0, e, le-leb 1 width (omega (arith, wide))) (record {
        lines = l.line ∷ k.lines;
        done = k.done ∙ append_assoc l.done (l.line ∷ []) k.lines;
        some = k.some;
        cut = full_first width (letters_of l.line) (c ∷ letters_of is) (map letters_of (k.lines ++ r.line ∷ [])) (omega (arith, same, fits, leb-false _ _ e)) k.cut;
      })
]

-- ---- the word

-- a word is cut on these lines, the open one too
pub record IsCutOn {A : Type 0} (width : ℕ) (is : List (Item A)) (l : Laid A) : Type 0 where
  pub cut : IsCutEvery width (letters_of is) (map letters_of (end_line l).done)
  pub last : has_character l.line ≡ true
  pub whole : text l ≡ is

pub cut_laid : {A : Type 0} (columns : ℕ → Option ℕ) (width : ℕ) (x : List ℕ) (q : Progress A) → 0 < width →
    Waits columns x q → q.space ≡ None → has_character q.word ≡ true →
    IsCutOn width q.word (flush_word columns width q).laid
cut_laid {A} columns width x q wide h none some =
    rw some
    (cond_both (nat_le (q.laid.width + (pending_width q.space + items_width columns q.word)) width) _ _ (λ (r : Progress A). IsCutOn width q.word r.laid)
    (λ e.
    let length_fits : length (letters_of q.word) ≤ width = omega (arith, leb-true _ _ e, units_width columns q.word h.units) in
    rw (h.text.done, h.line, none) (record { cut = (refl, some_letters q.word some, length_fits); last = some; whole = refl }))
    (λ _. subst (λ (m : Laid A). IsCutOn width q.word m) (sym laid) over))
  where
    laid : (lay_fresh columns width (wrap_space columns width q q.space)).laid ≡ put_items columns width q.laid q.word
    laid = rw (none, some, h.line) refl

    over : IsCutOn width q.word (put_items columns width q.laid q.word)
    over =
        let before : letters_of q.laid.line ≡ [] = ap letters_of h.line in
        let all : letters_of q.laid.line ++ letters_of q.word ≡ letters_of q.word = ap (λ cs. cs ++ letters_of q.word) before in
        let k = put_cut columns width q.word q.laid wide h.units h.text.width (omega (arith, h.text.width, ap length before)) (rw all (some_letters q.word some)) in
        let r = put_items columns width q.laid q.word in
        let done : r.done ≡ k.lines = k.done ∙ ap (λ ls. ls ++ k.lines) h.text.done in
        record {
          cut = rw done (subst (λ (cs : List ℕ). IsCutEvery width cs (map letters_of (k.lines ++ r.line ∷ []))) all k.cut);
          last = has_letters r.line k.some;
          whole = text-put_items columns width q.word q.laid ∙ rw (h.text.done, h.line) refl;
        }
