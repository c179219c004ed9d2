-- A hard line of printable characters waits as one word after its first spaces.
use Rattle.tbr_model.proofs.Common.{◌≡◌, ℕ, false, Option, Some, List, [], ◌∷◌, ◌++◌, fold, length, refl, sym, arith, append_assoc, append-nil, subst, inl, inr, Each, cond_both, both_ways, eqb_tells}
use Rattle.tbr_model.proofs.Common.{Pre, character, marker_entry, Item, glyph, marker, items_width, has_character, Event, call, entry, run_of, Progress, keep_space, keep_character, passes, tag_of}
use Rattle.tbr_model.proofs.Common.{enter, step, HasMode, letters_of, entry_letters, IsPrintableEntry, IsSpaces}
use Rattle.tbr_model.proofs.rule.Printable.{preserved_space, preserved_visible, visible_of}
use Rattle.tbr_model.proofs.words.Items.{each_marker, back_has}
use Rattle.tbr_model.proofs.lists.Each.{each_append}
use Rattle.tbr_model.proofs.rule.HardLineStart.{BeginsHardLine}
use Rattle.tbr_model.proofs.tabs.HardLine.{HoldsText, space_reads, continuation_reads, character_reads, character_joins, fresh_reads}

-- ---- items of one column for each character

abbrev pub IsUnit : {A : Type 0} → (ℕ → Option ℕ) → Item A → Type 0
IsUnit columns (glyph c a) = columns c ≡ Some 1
IsUnit columns (marker name) = Unit {0}

pub unit_markers : {A : Type 0} (columns : ℕ → Option ℕ) (is : List (Item A)) → has_character is ≡ false → Each (IsUnit columns) is
unit_markers columns = each_marker (IsUnit columns) (λ name. tt)

pub units_width : {A : Type 0} (columns : ℕ → Option ℕ) (is : List (Item A)) → Each (IsUnit columns) is → items_width columns is ≡ length (letters_of is)
units_width columns [] h = refl
units_width columns (glyph c a ∷ is) h = rw (h.0) (omega (arith, units_width columns is h.1))
units_width columns (marker name ∷ is) h = omega (arith, units_width columns is h.1)

-- ---- what waits

-- No line has begun, and the space and the word hold this text. The word has a character as soon as one is no space.
pub record Waits {A : Type 0} (columns : ℕ → Option ℕ) (x : List ℕ) (q : Progress A) : Type 0 where
  pub text : HoldsText columns x q
  pub line : q.laid.line ≡ []
  pub units : Each (IsUnit columns) q.word
  pub spaces : has_character q.word ≡ false → IsSpaces x

module _ {A : Type 0} (columns : ℕ → Option ℕ) (width : ℕ) (one_space : columns 32 ≡ Some 1) where
  space_waits : (x : List ℕ) (q : Progress A) (a : A) → Waits columns x q → Waits columns (x ++ 32 ∷ []) (keep_space 32 a Pre (Some 1) q)
  space_waits x q a h = grind (arith, space_reads, cond_both, each_append, both_ways, back_has)

  visible_waits : (x : List ℕ) (q : Progress A) (c : ℕ) (a b : A) → columns c ≡ Some 1 → Waits columns x q → Waits columns (x ++ c ∷ []) (keep_character columns width c a b Pre (Some 1) q)
  visible_waits x q c a b one h = record {
    text = character_reads columns width c a b Pre x q one h.text;
    line = cond_both (passes columns width 1 q) _ _ (λ (r : Progress A). r.laid.line ≡ []) (λ _. h.line) (λ _. h.line);
    units = cond_both (passes columns width 1 q) _ _ (λ (r : Progress A). Each (IsUnit columns) r.word)
        (λ _. each_append (IsUnit columns) q.word (glyph c b ∷ []) h.units (one, tt)) (λ _. each_append (IsUnit columns) q.word (glyph c (tag_of q a b) ∷ []) h.units (one, tt));
    spaces = λ none. absurd (both_ways _ none (character_joins columns width c a b Pre q));
  }

  pub line_waits : (es : List (Event A)) (x : List ℕ) (q : Progress A) → Waits columns x q → Each (HasMode Pre) (run_of es) → Each (IsPrintableEntry columns) (run_of es) →
      Waits columns (x ++ entry_letters (run_of es)) (fold (step columns width) q es)
  line_waits [] x q h pre printable = subst (λ (t : List ℕ). Waits columns t q) (sym (append-nil x)) h
  line_waits (call ∷ es) x q h pre printable =
      line_waits es x (record q { in_continuation = q.continuation_flag })
      (record { text = continuation_reads columns x q q.continuation_flag q.continuation_flag h.text; line = h.line; units = h.units; spaces = h.spaces }) pre printable
  line_waits (entry (marker_entry name) ∷ es) x q h pre printable = absurd printable.0
  line_waits (entry (character c a b m) ∷ es) x q h pre printable =
      let first : Waits columns (x ++ c ∷ []) (enter columns width q (character c a b Pre)) = elim (eqb_tells c 32) [
        | inl w ↦ rw (w.1, preserved_space columns width a b Pre q one_space) (space_waits x q (tag_of q a b) h)
        | inr w ↦ rw (preserved_visible columns width c a b Pre q (visible_of columns c printable.0 w.1)) (visible_waits x q c a b printable.0.2 h)
      ] in
      rw (pre.0) (subst (λ (t : List ℕ). Waits columns t (fold (step columns width) (enter columns width q (character c a b Pre)) es)) (append_assoc x (c ∷ []) (entry_letters (run_of es)))
      (line_waits es (x ++ c ∷ []) (enter columns width q (character c a b Pre)) first pre.1 printable.1))

  pub fresh_waits : (p : Progress A) → BeginsHardLine p → Waits columns [] p
  fresh_waits p f = record { text = fresh_reads columns p f; line = f.line; units = unit_markers columns p.word f.word; spaces = λ _. tt }
