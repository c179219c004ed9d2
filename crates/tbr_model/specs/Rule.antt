-- How a block goes on with each entry of a run, in every mode.
--
-- A character or marker joins the word under way, and white space in front of a word is pending. A break lays both:
-- on the open line where they fit (`lay_here`), and else on a fresh one (`lay_fresh`), where `wrap_space` says what
-- becomes of the space. Space and a word that is wider than a line are put item by item (`put_spaces`, `put_items`),
-- and a line that is full is ended. A newline ends the open line. What is left where a run ends is laid, or waits if
-- it has no character.
use Rattle.std.specs.Prelude.{ℕ, zero, suc, ◌+◌, ◌-◌, ◌%◌, Bool, true, false, ◌&&◌, nat_lt, nat_le, ◌==◌, if◌then◌else◌, Option, None, Some, is_none, is_some, List, [], ◌∷◌, ◌++◌, fold, replicate}
use Rattle.std.specs.Char.{is_whitespace}
use Rattle.tbr_model.specs.Codes.{tab_character, newline_character, space_character, zero_width_space}
use Rattle.tbr_model.specs.declared.white_space.WhiteSpace.{WhiteSpace}
use Rattle.tbr_model.specs.declared.white_space.WhiteSpace.TheVariants.{Normal, Pre, PreWrap}
use Rattle.tbr_model.specs.Run.{Entry, character, marker_entry, Item, glyph, marker, items_width, has_character, is_blank, is_break}
use Rattle.tbr_model.specs.Laid.{Laid, nothing_laid, extended, end_line, end_if_character, put_items}

-- A call begins, or an entry comes.
pub data Event (A : Type 0) : Type 0 where
  call : Event A
  entry : Entry A → Event A

-- the entries that come, whatever the calls
abbrev pub run_of : {A : Type 0} → List (Event A) → List (Entry A)
run_of [] = []
run_of (call ∷ es) = run_of es
run_of (entry e ∷ es) = e ∷ run_of es

-- White space that waits for a word: its columns, at least one, its annotation and its mode.
pub record Space (A : Type 0) : Type 0 where
  pub width : ℕ
  pub tag : A
  pub mode : WhiteSpace

-- Where a block is in a run.
pub record Progress (A : Type 0) : Type 0 where
  pub laid : Laid A
  -- the space that waits
  pub space : Option (Space A)
  -- the word under way, and the mode of its first character
  pub word : List (Item A)
  pub mode : WhiteSpace
  -- the next call begins with the continuation annotation
  pub continuation_flag : Bool
  -- this call has it
  pub in_continuation : Bool

abbrev pub at_start : {A : Type 0} → Progress A
at_start = record {
  laid = nothing_laid;
  space = None;
  word = [];
  mode = Normal;
  continuation_flag = false;
  in_continuation = false;
}

abbrev pub spaces : {A : Type 0} → ℕ → A → List (Item A)
spaces n a = replicate n (glyph space_character a)

abbrev pub pending_width : {A : Type 0} → Option (Space A) → ℕ
pending_width None = 0
pending_width (Some s) = s.width

abbrev pub space_text : {A : Type 0} → Option (Space A) → List (Item A)
space_text None = []
space_text (Some s) = spaces s.width s.tag

-- a space of no columns is none
abbrev pub space_of : {A : Type 0} → ℕ → A → WhiteSpace → Option (Space A)
space_of zero a mode = None
space_of (suc n) a mode = Some (record { width = suc n; tag = a; mode = mode })

-- ---- a word that doesn't fit

abbrev pub is_space_item : {A : Type 0} → Item A → Bool
is_space_item (glyph c a) = c == space_character
is_space_item (marker name) = false

abbrev pub is_white_item : {A : Type 0} → Item A → Bool
is_white_item (glyph c a) = is_whitespace c
is_white_item (marker name) = false

-- without the white space at the beginning, up to a marker
abbrev pub without_leading : {A : Type 0} → List (Item A) → List (Item A)
without_leading [] = []
without_leading (i ∷ is) = if is_white_item i then without_leading is else i ∷ is

-- without the spaces at the end, back to a marker
abbrev pub without_trailing : {A : Type 0} → List (Item A) → List (Item A)
without_trailing [] = []
without_trailing (i ∷ is) = front i (without_trailing is)
  where
    front : {A : Type 0} → Item A → List (Item A) → List (Item A)
    front i [] = if is_space_item i then [] else i ∷ []
    front i (j ∷ js) = i ∷ j ∷ js

-- the open line without the spaces at its end
abbrev pub trimmed : {A : Type 0} → (ℕ → Option ℕ) → Laid A → Laid A
trimmed columns l = record {
  done = l.done;
  line = without_trailing l.line;
  width = items_width columns (without_trailing l.line);
}

-- What becomes of pending space in front of a word that doesn't fit, by the space's mode. `Normal` space is dropped.
-- `Pre` space is laid if it ends before the line does, else what is left of it after the line's end waits. `PreWrap`
-- space is dropped, with the spaces before it on the line and the white space after it in the word.
abbrev pub wrap_space_by : {A : Type 0} → (ℕ → Option ℕ) → ℕ → Progress A → Space A → WhiteSpace → Progress A
wrap_space_by columns width p s Normal = record p { space = None }
wrap_space_by columns width p s Pre =
    if nat_le (width - p.laid.width) s.width
    then record p { space = space_of (s.width - (width - p.laid.width)) s.tag Pre }
    else record p { laid = extended p.laid (spaces s.width s.tag) s.width; space = None }
wrap_space_by columns width p s PreWrap =
    record p { laid = trimmed columns p.laid; space = None; word = without_leading p.word }

-- the same of space that may wait
abbrev pub wrap_space : {A : Type 0} → (ℕ → Option ℕ) → ℕ → Progress A → Option (Space A) → Progress A
wrap_space columns width p None = p
wrap_space columns width p (Some s) = wrap_space_by columns width p s s.mode

-- one space; a line that it fills is ended
abbrev pub put_space : {A : Type 0} → ℕ → A → Laid A → Laid A
put_space width a l =
    let m = extended l (glyph space_character a ∷ []) 1 in
    if l.width + 1 == width then end_line m else m

-- spaces, one by one
abbrev pub put_spaces : {A : Type 0} → ℕ → A → ℕ → Laid A → Laid A
put_spaces width a zero l = l
put_spaces width a (suc n) l = put_spaces width a n (put_space width a l)

-- space that waits, one by one
abbrev pub put_pending : {A : Type 0} → ℕ → Option (Space A) → Laid A → Laid A
put_pending width None l = l
put_pending width (Some s) l = put_spaces width s.tag s.width l

-- ---- a word

abbrev pub is_pre : WhiteSpace → Bool
is_pre Normal = false
is_pre Pre = true
is_pre PreWrap = false

-- the space and the word on the open line
abbrev pub lay_here : {A : Type 0} → (ℕ → Option ℕ) → Progress A → Progress A
lay_here columns p = record p {
  laid = extended p.laid (space_text p.space ++ p.word) (pending_width p.space + items_width columns p.word);
  space = None;
  word = [];
  continuation_flag = false;
}

-- The word on a fresh line, after what is still pending. A word that has lost its characters stays.
abbrev pub lay_fresh : {A : Type 0} → (ℕ → Option ℕ) → ℕ → Progress A → Progress A
lay_fresh columns width p =
    let l = put_pending width p.space (end_if_character p.laid) in
    if has_character p.word
    then record p {
      laid = put_items columns width l p.word;
      space = None;
      word = [];
      continuation_flag = is_pre p.mode;
    }
    else record p { laid = l; space = None; continuation_flag = is_pre p.mode }

-- the word is laid, on the open line where it fits with the space
abbrev pub lay : {A : Type 0} → (ℕ → Option ℕ) → ℕ → Progress A → Progress A
lay columns width p =
    if nat_le (p.laid.width + (pending_width p.space + items_width columns p.word)) width
    then lay_here columns p
    else lay_fresh columns width (wrap_space columns width p p.space)

-- a word that has a character is laid
abbrev pub flush_word : {A : Type 0} → (ℕ → Option ℕ) → ℕ → Progress A → Progress A
flush_word columns width p = if has_character p.word then lay columns width p else p

-- a word that takes columns is laid
abbrev pub break_word : {A : Type 0} → (ℕ → Option ℕ) → ℕ → Progress A → Progress A
break_word columns width p = if nat_lt 0 (items_width columns p.word) then lay columns width p else p

-- a character joins the word
abbrev pub join : {A : Type 0} → ℕ → A → WhiteSpace → Progress A → Progress A
join c a mode p = record p { word = p.word ++ glyph c a ∷ []; mode = (if has_character p.word then p.mode else mode) }

-- ---- the modes

-- white space that collapses: one space waits after what takes columns
abbrev pub collapse : {A : Type 0} → ℕ → A → Progress A → Progress A
collapse c a p =
    if is_blank c && (nat_lt 0 p.laid.width && is_none p.space) then record p { space = space_of 1 a Normal } else p

-- a newline ends the open line, and space that waits is dropped
abbrev pub newline : {A : Type 0} → Progress A → Progress A
newline p = record p { laid = end_line p.laid; space = None; continuation_flag = false; in_continuation = false }

-- spaces from a column up to the next multiple of eight, or up to the end of the line, which is then ended
abbrev pub put_tab : {A : Type 0} → ℕ → ℕ → A → Laid A → Laid A
put_tab width column a l =
    let n = 8 - column % 8 in
    if nat_le n (width - column)
    then extended l (spaces n a) n
    else end_line (extended l (spaces (width - column) a) (width - column))

-- A tab counts pending space, which goes on waiting. Where no column is left, it begins a fresh line.
abbrev pub tab : {A : Type 0} → ℕ → A → Progress A → Progress A
tab width a p =
    let column = p.laid.width + pending_width p.space in
    record p {
      laid =
          if nat_lt column width
          then put_tab width column a p.laid
          else put_tab width 0 a (end_if_character p.laid);
    }

-- white space that is kept: it waits, or joins the word's characters
abbrev pub keep_space : {A : Type 0} → ℕ → A → WhiteSpace → Option ℕ → Progress A → Progress A
keep_space c a mode None p = p
keep_space c a mode (Some n) p =
    if has_character p.word then join c a mode p else record p { space = space_of (pending_width p.space + n) a mode }

-- whether line, space and word would pass the width with n columns more
abbrev pub passes : {A : Type 0} → (ℕ → Option ℕ) → ℕ → ℕ → Progress A → Bool
passes columns width n p = nat_lt width (p.laid.width + (pending_width p.space + (items_width columns p.word + n)))

-- the annotation that a character has in this call
abbrev pub tag_of : {A : Type 0} → Progress A → A → A → A
tag_of p a b = if p.in_continuation then b else a

-- Any other character joins the word, if it has a width. In `Pre` the one that would pass the line's end, and those
-- after it, have the continuation annotation.
abbrev pub keep_character : {A : Type 0} →
    (ℕ → Option ℕ) → ℕ → ℕ → A → A → WhiteSpace → Option ℕ → Progress A → Progress A
keep_character columns width c a b mode None p = p
keep_character columns width c a b mode (Some n) p =
    if is_pre mode && passes columns width n p
    then join c b mode (record p { continuation_flag = true; in_continuation = true })
    else join c (tag_of p a b) mode p

-- a character in a preserving mode
abbrev pub preserve : {A : Type 0} → (ℕ → Option ℕ) → ℕ → ℕ → A → A → WhiteSpace → Progress A → Progress A
preserve columns width c a b mode p =
    if c == zero_width_space then p
    else if c == newline_character then newline (flush_word columns width p)
    else if c == tab_character then tab width (tag_of p a b) (flush_word columns width p)
    else if is_blank c then keep_space c (tag_of p a b) mode (columns c) p
    else keep_character columns width c a b mode (columns c) p

-- a character in `Normal` mode
abbrev pub enter_normal : {A : Type 0} → (ℕ → Option ℕ) → ℕ → ℕ → A → Progress A → Progress A
enter_normal columns width c a p =
    if is_break c then collapse c a (break_word columns width p)
    else (if is_some (columns c) then join c a Normal p else p)

-- an entry
abbrev pub enter : {A : Type 0} → (ℕ → Option ℕ) → ℕ → Progress A → Entry A → Progress A
enter columns width p (marker_entry name) = record p { word = p.word ++ marker name ∷ [] }
enter columns width p (character c a b Normal) = enter_normal columns width c (tag_of p a b) p
enter columns width p (character c a b Pre) = preserve columns width c a b Pre p
enter columns width p (character c a b PreWrap) =
    preserve columns width c a b PreWrap (if is_break c then break_word columns width p else p)

-- an event
abbrev pub step : {A : Type 0} → (ℕ → Option ℕ) → ℕ → Progress A → Event A → Progress A
step columns width p call = record p { in_continuation = p.continuation_flag }
step columns width p (entry e) = enter columns width p e

-- where a run is
abbrev pub progress : {A : Type 0} → (ℕ → Option ℕ) → ℕ → List (Event A) → Progress A
progress columns width es = fold (step columns width) at_start es

-- where a run ends
abbrev pub finished : {A : Type 0} → (ℕ → Option ℕ) → ℕ → Progress A → Laid A
finished columns width p = end_if_character (flush_word columns width p).laid

-- The markers that wait where a run ends: those of an open line without a character, then those of a word without one.
abbrev pub waiting : {A : Type 0} → (ℕ → Option ℕ) → ℕ → Progress A → List (Item A)
waiting columns width p = let q = flush_word columns width p in (end_if_character q.laid).line ++ q.word

-- the lines of a run
abbrev pub lines_of : {A : Type 0} → (ℕ → Option ℕ) → ℕ → List (Event A) → List (List (Item A))
lines_of columns width es = (finished columns width (progress columns width es)).done
