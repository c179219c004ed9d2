-- What a counter has counted of several others, and of lines.
use Rattle.callers.proofs.Common.{◌≡◌, ℕ, Bool, true, false, if◌then◌else◌, Option, None, Some, Result, Ok, Err, List, [], ◌∷◌, ◌++◌, map, length, drop, is_some, refl, ap, sym, ◌∙◌, arith, Each}
use Rattle.callers.proofs.Common.{Outcome, done, Error, OutOfMemory, TooNarrow, gathered, cells_given, Line, Counted, with_more, one_line, handed_out, failure, calls}
use Rattle.std.proofs.Common.{inl, inr, ◌+◌, take}
use Rattle.std.specs.Prelude.{OnOk, IfErr}
use Rattle.std.proofs.lemmas.List.{length-replicate}
use Rattle.tbr_tagged.specs.declared.CellAlign.{CellAlign}
use Rattle.tbr_model.specs.Run.{glyph}
use Rattle.tbr_model.specs.Codes.{space_character}
use Rattle.text_block_renderer.specs.Appended.{GivesFirst, texts_of}
use Rattle.text_block_renderer.specs.Outcomes.{and_then, changed, taking}
use Rattle.text_block_renderer.specs.Rows.{GivenCell, next_align}
use Rattle.text_block_renderer.specs.Calls.{after_step, Takes}
use Rattle.callers.specs.Counted.{sum_of, in_lines, in_row, kept_of}
use Rattle.text_block_renderer.proofs.OutcomeParts.{taking_live}

-- it hasn't failed
pub goes_on : (b : Bool) (u : Unit {0}) → Ok u ≡ (if b then Err OutOfMemory else Ok tt) → b ≡ false
goes_on true u is = absurd (let no : ⊥ = cc in no)
goes_on false u is = refl

-- nothing is said of what others have counted
pub nothing_said : {X : Type 0} (xs : List X) → Each (λ (x : X). Unit {0}) xs
nothing_said [] = tt
nothing_said (x ∷ xs) = (tt, nothing_said xs)

-- a counter's one line
pub line_of_all : (c : Counted) → in_lines (one_line c) ≡ c.characters
line_of_all c = omega (arith, length-replicate {A = _} c.characters (glyph space_character (tt {0})))

-- that line after a prefix of an iterator, which drops it where it has none
pub one_prefixed : {S X : Type 0} (gives : S → Option X → S → Type 0) (it next : S) (o : Option X) (read : X → List ℕ) (c : Counted) → gives it o next →
    (given : List X) × (GivesFirst gives 1 it given × (in_lines (take (length (texts_of read given)) (one_line c)) ≡ (if is_some o then c.characters else 0)))
one_prefixed gives it next None read c h = ([], ((it, refl, inr (omega arith, (next, h))), refl))
one_prefixed gives it next (Some x) read c h = (x ∷ [], ((next, (next, h, refl), inl refl), line_of_all c))

pub handed : (c : Counted) → c.failed ≡ false → handed_out c ≡ done (one_line c)
handed c live = rw live refl

-- ---- refusals

if_failed : (b : Bool) → b ≡ true → (if b then Some OutOfMemory else None) ≡ Some OutOfMemory
if_failed true is = refl
if_failed false is = absurd (let no : ⊥ = cc in no)

none_failed : (b : Bool) (e : Error) → b ≡ false → (if b then Some OutOfMemory else None) ≡ Some e → ⊥
none_failed true e is was = let no : ⊥ = cc in no
none_failed false e is was = let no : ⊥ = cc in no

-- ---- several counters

module _ {X : Type 0} (of : X → Counted) where
  abbrev pub total : List X → ℕ
  total xs = sum_of (λ x. (of x).characters) xs

  -- none of them has failed, nor the counter that takes them, which has counted what they have
  abbrev pub HasTaken : Counted → List X → Counted → Type 0
  HasTaken first xs now = (first.failed ≡ false) × Each (λ x. (of x).failed ≡ false) xs × (now ≡ with_more (total xs) first)

  pub none_taken : (first : Counted) → first.failed ≡ false → HasTaken first [] first
  none_taken first live = (live, tt, ap (λ n. record first { characters = n }) (omega arith))

  total_more : (xs : List X) (x : X) → total (xs ++ x ∷ []) ≡ total xs + (of x).characters
  total_more [] x = omega arith
  total_more (y ∷ ys) x = omega (arith, total_more ys x)

  live_more : (xs : List X) (x : X) → Each (λ x. (of x).failed ≡ false) xs → (of x).failed ≡ false → Each (λ x. (of x).failed ≡ false) (xs ++ x ∷ [])
  live_more [] x h live = (live, tt)
  live_more (y ∷ ys) x h live = (h.0, live_more ys x h.1 live)

  pub one_more : (first m now : Counted) (xs : List X) (x : X) → HasTaken first xs m → (of x).failed ≡ false → now ≡ with_more (of x).characters m → HasTaken first (xs ++ x ∷ []) now
  one_more first m now xs x h live is = (
    h.0,
    live_more xs x h.1 live,
    is ∙ ap (with_more (of x).characters) h.2 ∙ ap (λ n. record first { characters = n }) (omega (arith, total_more xs x)),
  )

  -- what is kept where one of them is refused
  pub stopped : (first m now : Counted) (xs : List X) → HasTaken first xs m → now ≡ record m { failed = true } → (kept_of now ≡ kept_of first) × (now.failed ≡ true)
  stopped first m now xs h is = (ap kept_of is ∙ ap kept_of h.2, ap (λ (c : Counted). c.failed) is)

  -- their lines
  pub all_handed : (xs : List X) → Each (λ x. (of x).failed ≡ false) xs → gathered (λ x. handed_out (of x)) xs ≡ done (map (λ x. one_line (of x)) xs)
  all_handed [] h = refl
  all_handed (x ∷ xs) h = rw (handed (of x) h.0, all_handed xs h.1) refl

  pub lines_of_all : (xs : List X) → sum_of in_lines (map (λ x. one_line (of x)) xs) ≡ total xs
  lines_of_all [] = refl
  lines_of_all (x ∷ xs) = omega (arith, line_of_all (of x), lines_of_all xs)

-- ---- cells of a row

-- a counter with the rows that it spans, as a cell
abbrev cell_of : Counted × ℕ → CellAlign → List (Line (Unit {0})) → GivenCell (Unit {0})
cell_of x align lines = record { width = x.0.width; span = x.1; align = align; lines = lines }

-- their cells have what the counters have
pub cells_come : (xs : List (Counted × ℕ)) (aligns : List CellAlign) → Each (λ (x : Counted × ℕ). x.0.failed ≡ false) xs →
    (cells : List (GivenCell (Unit {0}))) × (cells_given (λ (c : Counted). c.width) handed_out xs aligns ≡ done cells) × (in_row cells ≡ total (λ (x : Counted × ℕ). x.0) xs)
cells_come [] aligns live = ([], refl, refl)
cells_come (x ∷ xs) aligns live =
    let (cells, gives, sum) = cells_come xs (drop 1 aligns) live.1 in
    let cell = cell_of x (next_align aligns) (one_line x.0) in (
      cell ∷ cells,
      ap (λ o. and_then (changed (cell_of x (next_align aligns)) o) (λ y. changed (λ ys. y ∷ ys) (cells_given (λ (c : Counted). c.width) handed_out xs (drop 1 aligns)))) (handed x.0 live.0)
          ∙ ap (changed (λ ys. cell ∷ ys)) gives,
      omega (arith, line_of_all x.0, sum),
    )

-- ---- what takes what others give

was_failed : (b : Bool) (e : Error) → (if b then Some OutOfMemory else None) ≡ Some e → (b ≡ true) × (OutOfMemory ≡ e)
was_failed true e was = (refl, let same : OutOfMemory ≡ e = cc in same)
was_failed false e was = absurd (let no : ⊥ = cc in no)

not_narrow : {R : Type 0} (e : Error) → e ≡ OutOfMemory → (let told : Result R Error = Err e in told ≡ Err TooNarrow) → ⊥
not_narrow e memory is = let no : OutOfMemory ≡ TooNarrow = sym memory ∙ (let same : e ≡ TooNarrow = cc in same) in let none : ⊥ = cc in none

-- one that hasn't failed keeps no refusal
pub unfailed : (c : Counted) → c.failed ≡ false → failure c ≡ None
unfailed c is = ap (λ b. if b then Some OutOfMemory else None) is

module _ {X : Type 0} (given : Outcome X) where
  -- what a counter makes of what others give
  abbrev pub counted_of : (X → Counted → Outcome Counted) → Counted → Outcome Counted
  counted_of count = taking (after_step calls calls.new_line) given (λ x. after_step calls (count x))

  pub takes_given : (count : X → Counted → Outcome Counted) (old new : Counted) (x : X) → old.failed ≡ false →
      given ≡ done x → count x old ≡ done new → counted_of count old ≡ done new
  takes_given count old new x live gives is =
      taking_live done given count old failure (unfailed old live)
      ∙ ap (λ o. and_then o (λ y. count y old)) gives ∙ is

  -- a counter refuses with `OutOfMemory` alone
  pub takes_so : {R : Type 0} (wide : Type 0) (count : X → Counted → Outcome Counted) (old new : Counted)
      (result : Result R Error) → OnOk result ((old.failed ≡ false) × (counted_of count old ≡ done new)) →
      IfErr result (λ e. (e ≡ OutOfMemory) × (kept_of new ≡ kept_of old) × (new.failed ≡ true) × (old.failed ≡ true → new ≡ old)) → Takes calls given wide count old result new
  takes_so wide count old new (Ok r) ok err = record {
    ok = ok.1;
    too_narrow = λ is. absurd (let no : ⊥ = cc in no);
    two_columns = λ wide is. (let no : ⊥ = cc in no);
    fails = record { refusal = (tt, λ e was. absurd (none_failed old.failed e ok.0 was)); kept = tt };
  }
  takes_so wide count old new (Err e) ok err = record {
    ok = tt;
    too_narrow = λ is. absurd (not_narrow e err.0 is);
    two_columns = λ wide is. not_narrow e err.0 is;
    fails = record {
      refusal = (
        if_failed new.failed err.2 ∙ ap (λ (x : Error). Some x) (sym err.0),
        λ d was. let (failed, memory) = was_failed old.failed d was in (ap (λ (x : Error). Err x) (err.0 ∙ memory), err.3 failed),
      );
      kept = err.1;
    };
  }
