-- What the fields of a wrapper say of the pending space and of the word under way.
use Rattle.std.specs.Prelude.{◌≡◌, ◌≤◌, ◌<◌, ◌+◌, ◌⊎◌, ℕ, Bool, true, false, Option, None, Some, List, [], ◌++◌, fold, length, take, Result, OnOk, Err}
use Rattle.std.specs.List.{AllZip, AllByRecursion as Each}
use Rattle.tbr_model.specs.declared.white_space.WhiteSpace.{WhiteSpace}
use Rattle.tbr_model.specs.declared.white_space.WhiteSpace.TheVariants.{Normal}
use Rattle.tbr_model.specs.Run.{Item, Entry, items_width}
use Rattle.tbr_model.specs.Rule.{Space, Progress, at_start, is_pre, join, enter, finished, waiting}
use Rattle.tbr_model.specs.Fits.{lines_fit}
use Rattle.tbr_tagged.specs.Elements.{SameItems}
use Rattle.tbr_tagged.specs.declared.error.Error.{Error}
use Rattle.tbr_tagged.specs.declared.error.Error.TheVariants as E
use Rattle.tbr_wrap.specs.Plain.{JoinWord, AreWords}
use Rattle.tbr_wrap.specs.Wrapped.{FitsBlock}
use Rattle.tbr_wrap.specs.LaidLines.{HoldsRule}
use Rattle.tbr_wrap.specs.declared.wrapper.Wrapper.{Wrapper}
use Rattle.tbr_wrap.specs.declared.wrapper.Space.{Space as HeldSpace}

-- spaces of as many columns and one mode, under equal tags
abbrev pub SameSpace : {A : Type 0} → (A → A → Bool) → Option (HeldSpace A) → Option (Space A) → Type 0
SameSpace eq None None = Unit {0}
SameSpace eq (Some s) (Some t) = (s.width ≡ t.width) × (eq s.tag t.tag ≡ true) × (s.mode ≡ t.mode)
SameSpace eq None (Some t) = ⊥
SameSpace eq (Some s) None = ⊥

abbrev pub held_width : {A : Type 0} → Option (HeldSpace A) → ℕ
held_width None = 0
held_width (Some s) = s.width

-- Characters of so many columns change no tag. In `Pre` the open line has room for them after pending space and word.
-- Or the continuation tag has begun there, for this call and the next.
abbrev pub KeepsTag : {A : Type 0} → Wrapper A → WhiteSpace → ℕ → Type 0
KeepsTag b mode n = is_pre mode ≡ true →
    (b.lines.line_width + (held_width b.space + (b.word_width + n)) ≤ b.lines.width)
    ⊎ ((b.continuation_flag ≡ true) × (b.in_continuation ≡ true))

-- White space that is pending is dropped where the word after it doesn't fit.
abbrev pub DropsSpace : {A : Type 0} → Option (HeldSpace A) → Type 0
DropsSpace {A} held = (s : HeldSpace A) → held ≡ Some s → s.mode ≡ Normal

-- Words of which the first doesn't fit after what is pending, as so many characters of it don't, and which all fit a
-- fresh line.
pub record AreMoved {A : Type 0} (columns : ℕ → Option ℕ) (b : Wrapper A) (text : List ℕ) : Type 0 where
  pub words : AreWords columns text
  pub space : DropsSpace b.space
  pub first : ℕ
  pub letters : JoinWord columns false (take first text)
  pub wide : b.lines.width < b.lines.line_width + (held_width b.space + (b.word_width + first))
  pub fits : b.word_width + length text ≤ b.lines.width + 1

-- The wrapper is where the rule is.
pub record IsAtProgress {A : Type 0} (columns : ℕ → Option ℕ) (eq : A → A → Bool) (b : Wrapper A)
    (before given : List (List (Item A))) (p : Progress A) : Type 0 where
  pub lays : HoldsRule columns eq b.lines before given p.laid
  pub space : SameSpace eq b.space p.space
  pub word : SameItems eq b.lines.flat.word p.word
  pub word_width : b.word_width ≡ items_width columns p.word
  pub mode : b.word_mode ≡ p.mode
  pub continuation_flag : b.continuation_flag ≡ p.continuation_flag
  pub in_continuation : b.in_continuation ≡ p.in_continuation

-- characters join the word, one by one
abbrev pub join_all : {A : Type 0} → List ℕ → A → WhiteSpace → Progress A → Progress A
join_all cs a mode p = fold (λ q c. join c a mode q) p cs

-- The rule is somewhere.
abbrev pub IsUnderWay : {A : Type 0} → (ℕ → Option ℕ) → (A → A → Bool) → Wrapper A → Type 0
IsUnderWay {A} columns eq b = (before : List (List (Item A))) × (given : List (List (Item A))) × (p : Progress A)
    × IsAtProgress columns eq b before given p

-- wherever the rule is
abbrev pub Wherever : {A : Type 0} → (ℕ → Option ℕ) → (A → A → Bool) → Wrapper A → (Progress A → Type 0) → Type 0
Wherever {A} columns eq b Q = (before given : List (List (Item A))) (p : Progress A) →
    IsAtProgress columns eq b before given p → Q p

-- Wherever the rule is, a call that succeeds leads to where `f` leads.
abbrev pub WrapperFollows : {A X E : Type 0} → (ℕ → Option ℕ) → (A → A → Bool) → Wrapper A → Wrapper A → Result X E →
    (Progress A → Progress A) → Type 0
WrapperFollows {A} columns eq b c result f = (before given : List (List (Item A))) (p : Progress A) →
    IsAtProgress columns eq b before given p → OnOk result (IsAtProgress columns eq c before given (f p))

-- Wherever the rule is, a call answers `TooNarrow` only where no line may be wider, and a line of the rule, as `f`
-- leads there, is.
abbrev pub RefusesWider : {A X : Type 0} → (ℕ → Option ℕ) → (A → A → Bool) → Wrapper A → Result X Error →
    (Progress A → List (List (Item A))) → Type 0
RefusesWider {A} columns eq b result f = result ≡ Err E.TooNarrow → (before given : List (List (Item A)))
    (p : Progress A) → IsAtProgress columns eq b before given p →
    (b.lines.may_overflow ≡ false) × (lines_fit columns b.lines.width (f p) ≡ false)

-- Wherever the rule is, these entries lead on.
abbrev pub Enters : {A : Type 0} → (ℕ → Option ℕ) → (A → A → Bool) → Wrapper A → Wrapper A → List (Entry A) → Type 0
Enters {A} columns eq b c es = (before given : List (List (Item A))) (p : Progress A) →
    IsAtProgress columns eq b before given p →
    IsAtProgress columns eq c before given (fold (enter columns b.lines.width) p es)

-- The run has ended: the lines of it that weren't handed out are after those of earlier runs, and a run can begin
-- with the markers that wait.
pub record RunIsFinished {A : Type 0} (columns : ℕ → Option ℕ) (eq : A → A → Bool) (b c : Wrapper A)
    (before given : List (List (Item A))) (p : Progress A) : Type 0 where
  pub now : List (List (Item A))
  pub rest : List (List (Item A))
  pub split : (finished columns b.lines.width p).done ≡ given ++ rest
  pub same : AllZip (SameItems eq) now rest
  pub fits : Each (FitsBlock columns b.lines.width b.lines.may_overflow) (finished columns b.lines.width p).done
  pub stands : IsAtProgress columns eq c (before ++ now) [] (record at_start { word = waiting columns b.lines.width p })
