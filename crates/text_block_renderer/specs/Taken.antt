-- Lines that renderers hand out and others take.
use Rattle.std.specs.Prelude.{◌≡◌, ℕ, zero, suc, ◌+◌, ◌≤◌, ◌⊎◌, ⊤, Option, List, [], ◌∷◌, ◌++◌, length, filter, flat_map}
use Rattle.std.specs.List.{AllZip, AllByRecursion as Each}
use Rattle.tbr_model.specs.Run.{Entry, Item}
use Rattle.tbr_model.specs.Markers.{marker_items, names_after}
use Rattle.tbr_model.specs.Hard.{is_visible}
use Rattle.tbr_model.specs.Shown.{is_visible_or_marker, is_entry_to_show, ShowsEntry}
use Rattle.tbr_wrap.specs.Runs.{AreLastOf}
use Rattle.tbr_decor.specs.Decoration.{Decoration}
use Rattle.tbr_border.specs.Border.{Border}
use Rattle.tbr_tagged.specs.Elements.{element_items}
use Rattle.tbr_kept_lines.specs.Line.{Line, text, border}
use Rattle.tbr_renderer.specs.Renderer.{Renderer, open_run}
use Rattle.tbr_tagged.specs.Outcome.{done}
use Rattle.tbr_renderer.specs.Outcomes.{run}
use Rattle.tbr_renderer.specs.Appended.{handed_out}
use Rattle.tbr_renderer.specs.Calls.{Call, append_subrender, append_vert_row}
use Rattle.tbr_rows.specs.CellsShown.{StandsAmong}
use Rattle.tbr_renderer.specs.Rows.{GivenCell}
use Rattle.text_block_renderer.specs.Acts.{Act, call, row, rows_of, after_act}

-- They are there in order, with others between.
abbrev pub StandWithin : {X : Type 0} → List X → List X → Type 0
StandWithin [] ys = ⊤
StandWithin (x ∷ xs) [] = ⊥
StandWithin (x ∷ xs) (y ∷ ys) = ((x ≡ y) × StandWithin xs ys) ⊎ StandWithin (x ∷ xs) ys

-- the text in front of a border
abbrev pub text_before : {T : Type 0} → Border T → List (Item T)
text_before b = flat_map (λ h. element_items h.element) b.holes

-- all that is written in lines: their texts, and those in front of borders
abbrev pub written : {T : Type 0} → List (Line T) → List (Item T)
written [] = []
written (text is ∷ ls) = is ++ written ls
written (border b ∷ ls) = text_before b ++ written ls

-- the visible characters and the markers of items
abbrev pub to_show : {T : Type 0} → (ℕ → Option ℕ) → List (Item T) → List (Item T)
to_show columns is = filter (is_visible_or_marker columns) is

-- Lines have the visible characters and the markers of what came, once and in order, with others between. Only some
-- of the markers that no visible character follows may be missing.
pub record AreWrittenIn {T : Type 0} (columns : ℕ → Option ℕ) (es : List (Entry T))
    (lines : List (Line T)) : Type 0 where
  pub shown : List (Item T)
  pub missing : List (List ℕ)
  pub order : AllZip (ShowsEntry (λ a b. a ≡ b)) (shown ++ marker_items missing) (filter (is_entry_to_show columns) es)
  pub last : AreLastOf missing (names_after (is_visible columns) es)
  pub stand : StandWithin shown (to_show columns (written lines))

-- Of the entries that came, those of the open run are in no line yet. The visible characters and the markers of the
-- others are in the lines, once and in order, with others between, but for the markers that wait.
pub record IsWrittenSoFar {D A : Type 0} (columns : ℕ → Option ℕ) (r : Renderer D A (List A))
    (es : List (Entry (List A))) : Type 0 where
  pub ended : List (Entry (List A))
  pub whole : ended ++ open_run r.block ≡ es
  pub shown : List (Item (List A))
  pub order : AllZip (ShowsEntry (λ a b. a ≡ b))
      (shown ++ marker_items r.waiting) (filter (is_entry_to_show columns) ended)
  pub stand : StandWithin shown (to_show columns (written r.lines))

-- a call that takes the lines, after as many prefixes or as a cell
abbrev pub CallTakes : {T : Type 0} → List (Line T) → Call T → Type 0
CallTakes lines (append_subrender prefixes taken) = (taken ≡ lines) × (length lines ≤ length prefixes)
CallTakes lines (append_vert_row cells) = StandsAmong lines cells
CallTakes lines other = ⊥

-- and a row takes them as a cell that spans so many rows
abbrev pub Takes : {A : Type 0} → ℕ → List (Line (List A)) → Act A → Type 0
Takes span lines (call c) = CallTakes lines c
Takes {A} span lines (row collapses cells) =
    (cell : GivenCell (List A)) × StandsAmong cell cells × (cell.span ≡ span) × (cell.lines ≡ lines)
Takes span lines other = ⊥

-- nothing is left in the cells that overhang
abbrev pub NothingOverhangs : {D A T : Type 0} → Renderer D A T → Type 0
NothingOverhangs r = Each (λ cell. cell.lines ≡ []) r.hanging

-- Calls and rows lead from a renderer to another. It takes the lines at one of these, and hands out its own after all.
-- The rows that a cell spans all come, or in the end nothing overhangs.
pub record TakesIn {D A : Type 0} (columns : ℕ → Option ℕ) (decoration : Decoration D A)
    (inside outside : List (Line (List A))) : Type 0 where
  pub first : Renderer D A (List A)
  pub last : Renderer D A (List A)
  pub before : List (Act A)
  pub taking : Act A
  pub after : List (Act A)
  pub leads : run (after_act columns decoration) (before ++ taking ∷ after) first ≡ done last
  pub span : ℕ
  pub takes : Takes span inside taking
  pub come : (span ≤ 1 + length (rows_of after)) ⊎ NothingOverhangs last
  pub gives : handed_out columns last ≡ done outside

-- so many renderers do, one after another
abbrev pub AreTakenIn : {D A : Type 0} →
    (ℕ → Option ℕ) → Decoration D A → ℕ → List (Line (List A)) → List (Line (List A)) → Type 0
AreTakenIn columns decoration zero inside outside = outside ≡ inside
AreTakenIn {D} {A} columns decoration (suc depth) inside outside =
    (between : List (Line (List A))) × TakesIn columns decoration inside between
    × AreTakenIn columns decoration depth between outside
