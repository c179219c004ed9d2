-- What a block is, and what each call makes of it.
use Rattle.std.specs.Prelude.{◌≡◌, ℕ, zero, suc, ◌≤◌, ◌<◌, Bool, true, false, not, ◌||◌, ◌&&◌, ◌==◌, if◌then◌else◌, Option, None, IsSomeAnd, IsTrue, ◌↔◌, length, List, [], ◌∷◌, ◌++◌, map, drop, chars}
use Rattle.tbr_model.specs.declared.white_space.WhiteSpace.{WhiteSpace}
use Rattle.tbr_model.specs.Run.{marker_entry, Item, items_width, has_character, kept_items}
use Rattle.tbr_model.specs.Markers.{names_in_items}
use Rattle.tbr_model.specs.Rule.{Event, call, entry, run_of, Progress, progress, finished, waiting}
use Rattle.tbr_model.specs.Fits.{lines_fit}
use Rattle.tbr_model.specs.TakenOut.{without_markers}
use Rattle.tbr_tagged.specs.declared.error.Error.{Error}
use Rattle.tbr_tagged.specs.declared.error.Error.TheVariants as E
use Rattle.tbr_tagged.specs.Elements.{Element}
use Rattle.tbr_tagged.specs.Outcome.{Outcome, done, refused, if_live}
use Rattle.tbr_wrap.specs.Runs.{is_some_list, text_entries, IsNormal}
use Rattle.tbr_wrap.specs.Wrapped.{ShowsText}

pub record Block (A : Type 0) : Type 0 where
  -- the columns of a line, whether a line may be wider, and the tag of the padding where lines are padded
  pub width : ℕ
  pub may_overflow : Bool
  pub padding : Option A
  -- the kept refusal
  pub failure : Option Error
  -- whether a line has ended in an earlier run, and the lines of earlier runs that aren't handed out
  pub begun : Bool
  pub ended : List (List (Item A))
  -- what came in the current run, and how many of its lines were handed out
  pub events : List (Event A)
  pub handed : ℕ

-- a block to which nothing was added
abbrev pub new_block : {A : Type 0} → ℕ → Bool → Option A → Block A
new_block width may_overflow padding = record {
  width = width;
  may_overflow = may_overflow;
  padding = padding;
  failure = None;
  begun = false;
  ended = [];
  events = [];
  handed = 0;
}

-- what a call leaves as it is
pub record Settings (A : Type 0) : Type 0 where
  pub width : ℕ
  pub may_overflow : Bool
  pub padding : Option A

abbrev pub settings_of : {A : Type 0} → Block A → Settings A
settings_of s = record { width = s.width; may_overflow = s.may_overflow; padding = s.padding }

abbrev pub failure_of : {A : Type 0} → Block A → Option Error
failure_of s = s.failure

-- ---- what a block holds

-- where the rule is in the run
abbrev pub progress_of : {A : Type 0} → (ℕ → Option ℕ) → Block A → Progress A
progress_of columns s = progress columns s.width s.events

-- the lines that the run has ended so far, and all that it has if it ends here
abbrev pub lines : {A : Type 0} → (ℕ → Option ℕ) → Block A → List (List (Item A))
lines columns s = (progress_of columns s).laid.done

abbrev pub all_lines : {A : Type 0} → (ℕ → Option ℕ) → Block A → List (List (Item A))
all_lines columns s = (finished columns s.width (progress_of columns s)).done

-- the lines that have ended and aren't handed out, in order
abbrev pub left : {A : Type 0} → (ℕ → Option ℕ) → Block A → List (List (Item A))
left columns s = s.ended ++ drop s.handed (lines columns s)

-- whether a line has ended, in an earlier run or in this one
abbrev pub any_line : {A : Type 0} → (ℕ → Option ℕ) → Block A → Bool
any_line columns s = s.begun || is_some_list (lines columns s)

-- whether open line and word take no columns, and whether they have no character
abbrev pub takes_no_columns : {A : Type 0} → (ℕ → Option ℕ) → Block A → Bool
takes_no_columns columns s =
    let p = progress_of columns s in (p.laid.width == 0) && (items_width columns p.word == 0)

abbrev pub has_no_character : {A : Type 0} → (ℕ → Option ℕ) → Block A → Bool
has_no_character columns s =
    let p = progress_of columns s in not (has_character p.laid.line) && not (has_character p.word)

-- the names of a word's markers, if it has no character
abbrev pub loose_names : {A : Type 0} → List (Item A) → List (List ℕ)
loose_names word = if has_character word then [] else names_in_items word

abbrev pub loose : {A : Type 0} → (ℕ → Option ℕ) → Block A → List (List ℕ)
loose columns s = loose_names (progress_of columns s).word

-- the markers that wait if the run ends here
abbrev pub waiting_names : {A : Type 0} → (ℕ → Option ℕ) → Block A → List (List ℕ)
waiting_names columns s = names_in_items (waiting columns s.width (progress_of columns s))

-- no line is wider than the block, or lines may be
abbrev pub allows : {A : Type 0} → (ℕ → Option ℕ) → Block A → List (List (Item A)) → Bool
allows columns s ls = s.may_overflow || lines_fit columns s.width ls

-- ---- what a call makes of it

abbrev pub grown : {A : Type 0} → Block A → List (Event A) → Block A
grown s es = record s { events = s.events ++ es }

-- the lines that have ended are those that the block allows, or it is too narrow
abbrev pub settled : {A : Type 0} → (ℕ → Option ℕ) → Block A → Outcome (Block A)
settled columns s = if allows columns s (lines columns s) then done s else refused E.TooNarrow

-- a text's events: a call, and its entries
abbrev pub text_events : {A : Type 0} → List ℕ → A → A → WhiteSpace → List (Event A)
text_events cs a b mode = call ∷ map entry (text_entries cs a b mode)

-- a text joins the run
abbrev pub after_text : {A : Type 0} → (ℕ → Option ℕ) → List ℕ → A → A → WhiteSpace → Block A → Outcome (Block A)
after_text columns cs a b mode s = if_live s.failure (settled columns (grown s (text_events cs a b mode)))

-- The beginning of a text has come after these events, and the rest is left.
pub record HasGrown {A : Type 0} (old : Block A) (events : List (Event A)) (text rest : List ℕ) (a b : A)
    (mode : WhiteSpace) (new : Block A) : Type 0 where
  pub front : List ℕ
  pub split : chars text ≡ front ++ chars rest
  pub is : new ≡ grown old (events ++ map entry (text_entries front a b mode))

-- a marker joins the run
abbrev pub after_marker : {A : Type 0} → List ℕ → Block A → Outcome (Block A)
after_marker name s = if_live s.failure (done (grown s (entry (marker_entry name) ∷ [])))

-- the loose markers are taken out of the run
abbrev pub without_loose : {A : Type 0} → (ℕ → Option ℕ) → Block A → Block A
without_loose columns s = record s { events = without_markers (length (loose columns s)) s.events }

abbrev pub after_taking : {A : Type 0} → (ℕ → Option ℕ) → Block A → Outcome (Block A)
after_taking columns s = if_live s.failure (done (without_loose columns s))

-- the run has ended, and the markers that wait begin the next one
abbrev pub flushed : {A : Type 0} → (ℕ → Option ℕ) → Block A → Block A
flushed columns s = record s {
  begun = s.begun || is_some_list (all_lines columns s);
  ended = s.ended ++ drop s.handed (all_lines columns s);
  events = map (λ n. entry (marker_entry n)) (waiting_names columns s);
  handed = 0;
}

abbrev pub after_flush : {A : Type 0} → (ℕ → Option ℕ) → Block A → Outcome (Block A)
after_flush columns s = if_live s.failure
    (if allows columns s (all_lines columns s) then done (flushed columns s) else refused E.TooNarrow)

-- the first line that isn't handed out is
abbrev pub line_handed_out : {A : Type 0} → Block A → Block A
line_handed_out s =
    if is_some_list s.ended then record s { ended = drop 1 s.ended } else record s { handed = suc s.handed }

-- so many of them are, one by one
abbrev pub lines_handed_out : {A : Type 0} → ℕ → Block A → Block A
lines_handed_out zero s = s
lines_handed_out (suc n) s = lines_handed_out n (line_handed_out s)

abbrev pub after_line : {A : Type 0} → (ℕ → Option ℕ) → Block A → Outcome (Block A)
after_line columns s =
    if_live s.failure (done (if is_some_list (left columns s) then line_handed_out s else s))

-- a call hands out the first of these lines, if there is one
abbrev pub HandsOutFirst : {A : Type 0} → (ℕ → Option ℕ) → (A → A → Bool) → Block A → List (List (Item A)) →
    Option (List (Element A)) → Type 0
HandsOutFirst columns eq s [] o = o ≡ None
HandsOutFirst columns eq s (text ∷ texts) o = IsSomeAnd o (λ line. ShowsText columns eq s.padding s.width line text)

-- ---- what holds of it

-- A block has at least one column. It allows its lines that have ended, and only such lines were handed out.
pub record IsSound {A : Type 0} (columns : ℕ → Option ℕ) (s : Block A) : Type 0 where
  pub wide : 0 < s.width
  pub allowed : allows columns s (lines columns s) ≡ true
  pub within : s.handed ≤ length (lines columns s)

-- it hasn't failed, its run is `Normal`, and no line may be wider than it
abbrev pub WrapsNormally : {A : Type 0} → Block A → Type 0
WrapsNormally s = (s.failure ≡ None) × (s.may_overflow ≡ false) × IsNormal (run_of s.events)

-- The kept characters of the run decide whether open line and word take columns or have a character, and whether a line
-- has ended.
pub record RunDecides {A : Type 0} (columns : ℕ → Option ℕ) (s : Block A) : Type 0 where
  pub no_columns : IsTrue (takes_no_columns columns s) ↔ (items_width columns (kept_items columns (run_of s.events)) ≡ 0)
  pub no_character : IsTrue (has_no_character columns s) ↔ (has_character (kept_items columns (run_of s.events)) ≡ false)
  pub no_line : items_width columns (kept_items columns (run_of s.events)) ≡ 0 → lines columns s ≡ []
