-- Lines less the borders that padding made text.
use Rattle.std.specs.Prelude.{◌≡◌, ℕ, ◌-◌, false, ◌⊎◌, if◌then◌else◌, Option, None, Some, List, [], ◌∷◌, ◌++◌, map, flat_map, length, replicate}
use Rattle.tbr_model.specs.Run.{Item}
use Rattle.tbr_border.specs.Border.{Border, shown, without_holes}
use Rattle.tbr_border.specs.Cell.{Cell, horizontal, slash}
use Rattle.tbr_decor.specs.Decoration.{Decoration}
use Rattle.tbr_rows.specs.Rows.{SeenRow}
use Rattle.tbr_renderer.specs.declared.options.RenderOptions.{RenderOptions}
use Rattle.tbr_kept_lines.specs.Line.{Line, text}
use Rattle.tbr_renderer.specs.Renderer.{Renderer, line_padding}
use Rattle.tbr_renderer.specs.Calls.{Call, add_border, append_vert_row}
use Rattle.text_block_renderer.specs.Added.{Part, ruled}
use Rattle.text_block_renderer.specs.Acts.{Act, Added, part_added, row_added, acts_add, row_seen}

-- A line as it is, or a border that was drawn as this text.
pub data Put (T : Type 0) : Type 0 where
  as_it_is : Line T → Put T
  drawn : List (Item T) → Put T

abbrev pub line_put : {T : Type 0} → Put T → Line T
line_put (as_it_is line) = line
line_put (drawn is) = text is

abbrev pub not_drawn : {T : Type 0} → Put T → List (Line T)
not_drawn (as_it_is line) = line ∷ []
not_drawn (drawn is) = []

abbrev pub text_drawn : {T : Type 0} → Put T → List (List (Item T))
text_drawn (as_it_is line) = []
text_drawn (drawn is) = is ∷ []

-- Of the lines these texts are borders that were drawn, in order, and the rest are the others.
abbrev pub AreDrawnAmong : {T : Type 0} → List (List (Item T)) → List (Line T) → List (Line T) → Type 0
AreDrawnAmong {T} borders lines rest =
    (puts : List (Put T)) × (lines ≡ map line_put puts) × (borders ≡ flat_map text_drawn puts)
    × (rest ≡ flat_map not_drawn puts)

-- It holds of the renderer with its lines less these borders, which were drawn as text.
abbrev pub WithoutDrawnBorders : {D A : Type 0} →
    List (List (Item (List A))) → (Renderer D A (List A) → Type 0) → Renderer D A (List A) → Type 0
WithoutDrawnBorders {D} {A} borders P r =
    (rest : List (Line (List A))) × AreDrawnAmong borders r.lines rest × P (record r { lines = rest })

-- ---- the borders that are drawn

module _ {D A : Type 0} (columns : ℕ → Option ℕ) where
  -- the text that a border becomes, where lines are padded
  abbrev pub border_drawn : Renderer D A (List A) → Border (List A) → List (List (Item (List A)))
  border_drawn r b =
      let is = shown b.tag b in if r.options.pad_block_width then (is ++ line_padding columns r is) ∷ [] else []

  -- the border of a part
  abbrev pub drawn_of_part : Part D A → List (List (Item (List A)))
  drawn_of_part (ruled r cells) = border_drawn r (without_holes cells r.annotations)
  drawn_of_part other = []

  -- the border below a row
  abbrev pub drawn_below : Renderer D A (List A) → Option (Border (List A)) → List (List (Item (List A)))
  drawn_below r None = []
  drawn_below r (Some b) = border_drawn r b

  abbrev pub drawn_of_row : Renderer D A (List A) → Option (SeenRow (List A)) → List (List (Item (List A)))
  drawn_of_row r None = []
  drawn_of_row r (Some seen) = drawn_below r seen.next

  module _ (decoration : Decoration D A) where
    abbrev pub drawn_of_added : Added D A → List (List (Item (List A)))
    drawn_of_added (part_added p) = drawn_of_part p
    drawn_of_added (row_added r collapses cells) = drawn_of_row r (row_seen columns decoration collapses cells r)
    drawn_of_added other = []

    -- the borders that calls and rows draw as text
    abbrev pub borders_drawn : List (Act A) → Renderer D A (List A) → List (List (Item (List A)))
    borders_drawn acts r = flat_map drawn_of_added (acts_add columns decoration acts r)

    -- No border becomes text: lines aren't padded, or none is added.
    abbrev pub DrawNone : List (Act A) → Renderer D A (List A) → Type 0
    DrawNone acts r = (r.options.pad_block_width ≡ false) ⊎ (borders_drawn acts r ≡ [])

-- ---- the borders of calls

-- a slashed one between each two of so many cells, and a plain one after them
abbrev pub row_borders : ℕ → ℕ → List (List Cell)
row_borders width cells = replicate (cells - 1) (replicate width slash) ++ replicate width horizontal ∷ []

-- those that a call adds to a renderer of this width, with these options
abbrev pub borders_added : {T : Type 0} → ℕ → RenderOptions → Call T → List (List Cell)
borders_added width options (add_border columns) = replicate columns horizontal ∷ []
borders_added width options (append_vert_row cells) =
    if options.draw_borders then row_borders width (length cells) else []
borders_added width options other = []
