-- Blocks inside blocks, each after prefixes of its own.
use Rattle.std.specs.Prelude.{◌≡◌, ℕ, zero, suc, ◌+◌, min, Option, Some, List, [], ◌∷◌, ◌++◌, length}
use Rattle.std.specs.List.{slice_get}
use Rattle.tbr_model.specs.Run.{Item}
use Rattle.tbr_model.specs.Markers.{marker_items}
use Rattle.tbr_model.specs.Hard.{visible_glyphs}
use Rattle.tbr_tagged.specs.Elements.{text_items}
use Rattle.tbr_decor.specs.Decoration.{Decoration}
use Rattle.tbr_kept_lines.specs.Line.{Line}
use Rattle.tbr_renderer.specs.Flush.{after_flush}
use Rattle.tbr_renderer.specs.Renderer.{Renderer}
use Rattle.tbr_renderer.specs.Appended.{as_text, prefixed, handed_out}
use Rattle.tbr_tagged.specs.Outcome.{done}
use Rattle.tbr_renderer.specs.Calls.{append_subrender, Does}
use Rattle.text_block_renderer.specs.Stretches.{padded_line, lines_laid}

-- A block inside others: the renderer that takes it, after its flush, and a prefix for each line.
pub record Level (D A : Type 0) : Type 0 where
  pub taker : Renderer D A (List A)
  pub prefixes : List (List ℕ)

module _ {D A : Type 0} (columns : ℕ → Option ℕ) where
  -- lines after the prefixes of all levels, of which the first is the outermost; and before them the lines of each
  abbrev pub nested : List (Level D A) → List (Line (List A)) → List (Line (List A))
  nested [] lines = lines
  nested (level ∷ levels) lines =
      let r = level.taker in
      r.lines ++ lines_laid columns r (prefixed r.annotations level.prefixes (nested levels lines))

  -- the markers that wait come before the first line
  abbrev pub markers_before : Renderer D A (List A) → ℕ → List (Item (List A))
  markers_before r zero = marker_items r.waiting
  markers_before r (suc i) = []

  -- Line i of the innermost block is line j in the end, and is this there: after the prefix of its number in each level,
  -- and padded there.
  abbrev pub BecomesLine : List (Level D A) → ℕ → Line (List A) → ℕ → Line (List A) → Type 0
  BecomesLine [] i line j last = (j ≡ i) × (last ≡ line)
  BecomesLine (level ∷ levels) i line j last =
      let r = level.taker in
      (k : ℕ) × (inside : Line (List A)) × (prefix : List ℕ) × BecomesLine levels i line k inside
      × (slice_get level.prefixes k ≡ Some prefix) × (j ≡ length r.lines + k)
      × (last ≡ padded_line columns r
      (markers_before r k ++ (text_items prefix r.annotations ++ as_text r.annotations inside)))

-- how many lines there are in the end, of so many: at each level no more than prefixes, and those before them
abbrev pub lines_left : {D A : Type 0} → List (Level D A) → ℕ → ℕ
lines_left [] n = n
lines_left (level ∷ levels) n =
    let r = level.taker in length r.lines + min (length level.prefixes) (lines_left levels n)

-- the visible characters of a prefix and of the line after it
abbrev pub visible_after : {T : Type 0} → (ℕ → Option ℕ) → T → List ℕ × Line T → List (ℕ × T)
visible_after columns tag p = visible_glyphs columns (text_items p.0 tag) ++ visible_glyphs columns (as_text tag p.1)

-- A renderer takes the lines inside after the prefixes, and hands out its lines.
pub record HandsOn {D A : Type 0} (columns : ℕ → Option ℕ) (decoration : Decoration D A) (level : Level D A)
    (inside lines : List (Line (List A))) : Type 0 where
  pub first : Renderer D A (List A)
  pub last : Renderer D A (List A)
  pub flushes : after_flush columns first ≡ done level.taker
  pub takes : Does columns decoration (append_subrender level.prefixes inside) first last
  pub gives : handed_out columns last ≡ done lines

-- and so does one renderer after another, the innermost first
abbrev pub HandOn : {D A : Type 0} → (ℕ → Option ℕ) → Decoration D A → List (Level D A) → List (Line (List A))
    → List (Line (List A)) → Type 0
HandOn columns decoration [] inside lines = lines ≡ inside
HandOn {D} {A} columns decoration (level ∷ levels) inside lines =
    (between : List (Line (List A))) × HandOn columns decoration levels inside between
    × HandsOn columns decoration level between lines
