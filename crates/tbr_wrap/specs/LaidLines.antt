-- What the fields of laid lines say of what is laid.
use Rattle.std.specs.Prelude.{◌≡◌, ℕ, ◌≤◌, ◌<◌, Bool, Option, List, ◌++◌, map, length, take, drop, ⊤, Result, OnOk}
use Rattle.std.specs.List.{AllZip, AllByRecursion as Each}
use Rattle.tbr_model.specs.Run.{Item, items_width}
use Rattle.tbr_model.specs.Layout.{joined}
use Rattle.tbr_model.specs.Laid.{Laid, put_items}
use Rattle.tbr_model.specs.Markers.{names_in_items}
use Rattle.tbr_tagged.specs.Elements.{SameItems}
use Rattle.tbr_wrap.specs.Wrapped.{FitsBlock}
use Rattle.tbr_wrap.specs.declared.laid_lines.LaidLines.{LaidLines}

-- The fields hold what is laid, after the lines of earlier runs.
pub record HoldsLaid {A : Type 0} (b : LaidLines A) (before : List (List (Item A))) (l : Laid A) : Type 0 where
  pub placed : b.flat.placed ≡ joined (before ++ l.done) ++ l.line
  pub lens : b.ended.items ≡ map length (before ++ l.done)
  pub len : b.line_len ≡ length l.line
  pub markers : b.line_markers ≡ length (names_in_items l.line)
  pub width : b.line_width ≡ l.width

-- What is laid is what the rule lays, up to equal tags, but for the first lines, which were handed out.
pub record LaidLikeRule {A : Type 0} (eq : A → A → Bool) (given : List (List (Item A))) (l r : Laid A) : Type 0 where
  pub rest : List (List (Item A))
  pub split : r.done ≡ given ++ rest
  pub done : AllZip (SameItems eq) l.done rest
  pub last : SameItems eq l.line r.line
  pub width : l.width ≡ r.width

-- What the rule lays is no wider than it may be, and the open line's columns are those of its items.
pub record RuleFitsWidth {A : Type 0} (columns : ℕ → Option ℕ) (width : ℕ) (may_overflow : Bool)
    (r : Laid A) : Type 0 where
  pub small : r.width ≤ width
  pub line : r.width ≡ items_width columns r.line
  pub done : Each (FitsBlock columns width may_overflow) r.done

-- The fields hold what the rule lays.
pub record HoldsRule {A : Type 0} (columns : ℕ → Option ℕ) (eq : A → A → Bool) (b : LaidLines A)
    (before given : List (List (Item A))) (r : Laid A) : Type 0 where
  pub laid : Laid A
  pub holds : HoldsLaid b before laid
  pub shows : LaidLikeRule eq given laid r
  pub measured : RuleFitsWidth columns b.width b.may_overflow r

-- Where the fields hold what the rule lays, a call that succeeds does to it what `f` does.
abbrev pub LinesFollow : {A X E : Type 0} → (ℕ → Option ℕ) → (A → A → Bool) → LaidLines A → LaidLines A → Result X E →
    (Laid A → Laid A) → Type 0
LinesFollow {A} columns eq b c result f = (before given : List (List (Item A))) (r : Laid A) →
    HoldsRule columns eq b before given r → OnOk result (HoldsRule columns eq c before given (f r))

-- A call that succeeds takes items that the word begins with, and puts them on lines as the rule does.
pub record PutsFront {A E : Type 0} (columns : ℕ → Option ℕ) (eq : A → A → Bool) (b c : LaidLines A)
    (result : Result ⊤ E) : Type 0 where
  pub count : ℕ
  pub some : OnOk result (0 < count)
  pub word : OnOk result (c.flat.word ≡ drop count b.flat.word)
  pub put : (js : List (Item A)) → SameItems eq b.flat.word js →
      LinesFollow columns eq b c result (λ r. put_items columns b.width r (take count js))

-- The fields hold what is laid, with placed items after it that no line has yet.
pub record HoldsLaidBefore {A : Type 0} (b : LaidLines A) (before : List (List (Item A))) (l : Laid A)
    (after : List (Item A)) : Type 0 where
  pub placed : b.flat.placed ≡ (joined (before ++ l.done) ++ l.line) ++ after
  pub lens : b.ended.items ≡ map length (before ++ l.done)
  pub len : b.line_len ≡ length l.line
  pub markers : b.line_markers ≡ length (names_in_items l.line)
  pub width : b.line_width ≡ l.width

pub record HoldsRuleBefore {A : Type 0} (columns : ℕ → Option ℕ) (eq : A → A → Bool) (b : LaidLines A)
    (before given : List (List (Item A))) (r : Laid A) (after : List (Item A)) : Type 0 where
  pub laid : Laid A
  pub holds : HoldsLaidBefore b before laid after
  pub shows : LaidLikeRule eq given laid r
  pub measured : RuleFitsWidth columns b.width b.may_overflow r

-- The limits are as they were.
pub record KeepsLimits {A : Type 0} (b c : LaidLines A) : Type 0 where
  pub width : c.width ≡ b.width
  pub may_overflow : c.may_overflow ≡ b.may_overflow

-- What a line that is handed out leaves.
pub record LeavesAfterLine {A : Type 0} (b c : LaidLines A) (rest : List (List (Item A))) (l : Laid A) : Type 0 where
  pub placed : c.flat.placed ≡ joined rest ++ l.line
  pub word : c.flat.word ≡ b.flat.word
  pub lens : c.ended.items ≡ map length rest
  pub len : c.line_len ≡ b.line_len
  pub markers : c.line_markers ≡ b.line_markers
  pub width : c.line_width ≡ b.line_width
