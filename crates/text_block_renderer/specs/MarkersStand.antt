-- Where markers are among the characters that calls brought, and which of them wait.
use Rattle.std.specs.Prelude.{◌≡◌, ℕ, true, false, Option, None, Some, List, [], ◌∷◌, ◌++◌, filter}
use Rattle.std.specs.List.{AllZip}
use Rattle.tbr_model.specs.Run.{Entry, Item, is_kept, kept_items, has_character, trailing}
use Rattle.tbr_model.specs.Markers.{names_in_items, names_in_run, marker_items, marker_run, names_after}
use Rattle.tbr_model.specs.Hard.{is_visible}
use Rattle.tbr_model.specs.Shown.{without_spaces, is_visible_or_marker, is_entry_to_show, ShowsEntry}
use Rattle.tbr_wrap.specs.Runs.{IsNormal, AreLastOf}
use Rattle.tbr_kept_lines.specs.Line.{Line, text, border}
use Rattle.tbr_renderer.specs.Renderer.{Renderer, may_overflow, open_run}
use Rattle.tbr_renderer.specs.Calls.{text_of_lines}
use Rattle.text_block_renderer.specs.Acts.{StaysLine}
use Rattle.text_block_renderer.specs.Drawn.{AreDrawnAmong}

-- the items of the lines of text, and after them the markers that wait
abbrev pub items_so_far : {D A : Type 0} → Renderer D A (List A) → List (Item (List A))
items_so_far r = text_of_lines r.lines ++ marker_items r.waiting

-- Of the entries that came, those of the open run are in no line yet. The others are in the lines of text, or are
-- markers that wait.
pub record Stands {D A : Type 0} (columns : ℕ → Option ℕ) (r : Renderer D A (List A))
    (es : List (Entry (List A))) : Type 0 where
  pub ended : List (Entry (List A))
  pub whole : ended ++ open_run r.block ≡ es
  -- once and in order: so each marker is between the same visible characters
  pub order : AllZip (ShowsEntry (λ a b. a ≡ b))
      (filter (is_visible_or_marker columns) (items_so_far r)) (filter (is_entry_to_show columns) ended)
  pub markers : names_in_items (text_of_lines r.lines) ++ r.waiting ≡ names_in_run ended
  -- no marker waits that has a visible character after it
  pub waits : AreLastOf r.waiting (names_after (is_visible columns) ended)
  -- the same of kept characters in `Normal`; gaps and padding are U+0020
  pub kept : IsNormal ended → without_spaces (items_so_far r) ≡ kept_items columns ended
  pub waits_kept : IsNormal ended → AreLastOf r.waiting (names_after (is_kept columns) ended)

-- What a flush puts into lines, and what it makes wait. Markers that waited count as the first of the run.
pub record FlushStands {D A : Type 0} (columns : ℕ → Option ℕ) (run : List (Entry (List A)))
    (r s : Renderer D A (List A)) : Type 0 where
  pub waits : AreLastOf s.waiting (names_after (is_visible columns) (marker_run r.waiting ++ run))
  pub waits_kept : IsNormal run → AreLastOf s.waiting (names_after (is_kept columns) (marker_run r.waiting ++ run))
  pub kept : IsNormal run →
      without_spaces (items_so_far s) ≡ without_spaces (items_so_far r) ++ kept_items columns run
  -- of a run with a kept character just the trailing markers wait
  pub trails : may_overflow r ≡ false → IsNormal run → has_character (kept_items columns run) ≡ true →
      marker_items s.waiting ≡ trailing columns run
  -- and a run without one adds no line
  pub bare : may_overflow r ≡ false → IsNormal run → has_character (kept_items columns run) ≡ false →
      (s.lines ≡ r.lines) × (s.waiting ≡ r.waiting ++ names_in_run run)

-- the items of the first line of text
abbrev pub first_text : {T : Type 0} → List (Line T) → Option (List (Item T))
first_text [] = None
first_text (text is ∷ ls) = Some is
first_text (border b ∷ ls) = first_text ls

abbrev pub BeginsWith : {X : Type 0} → List X → List X → Type 0
BeginsWith {X} front all = (rest : List X) × (all ≡ front ++ rest)

-- The next line of text begins with the markers that wait, and until it comes they go on waiting. Borders that were
-- drawn as text count as no text, and rows give borders that there were other cells.
pub record WaitForText {D A : Type 0} (borders : List (List (Item (List A)))) (r s : Renderer D A (List A)) :
    Type 0 where
  pub kept : List (Line (List A))
  pub more : List (Line (List A))
  pub lines : s.lines ≡ kept ++ more
  pub stay : AllZip StaysLine r.lines kept
  -- those that came, but for the borders drawn as text
  pub rest : List (Line (List A))
  pub among : AreDrawnAmong borders more rest
  pub stand : (is : List (Item (List A))) → first_text rest ≡ Some is → BeginsWith (marker_items r.waiting) is
  pub wait : first_text rest ≡ None → BeginsWith r.waiting s.waiting
