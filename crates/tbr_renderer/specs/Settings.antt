-- Which settings a call changes.
use Rattle.std.specs.Prelude.{ℕ, suc, ◌-◌, Option, None, Some, List, [], ◌∷◌, ◌++◌}
use Rattle.tbr_decor.specs.Start as start
use Rattle.tbr_decor.specs.End as end
use Rattle.tbr_decor.specs.Decoration.{Decoration}
use Rattle.tbr_renderer.specs.Renderer.{Renderer, without_annotation}
use Rattle.tbr_kept_lines.specs.LastBorder.{without_last}
use Rattle.tbr_renderer.specs.Image.{shown_title}
use Rattle.tbr_renderer.specs.Decorated.{struck_from, struck_until, asked_to_close, annotated, coloured, uncoloured}
use Rattle.tbr_renderer.specs.Calls.{Call, push_ws, pop_ws, push_preformat, pop_preformat, begin, finish, start_strikeout, end_strikeout, add_image, push_colour, pop_colour}

module _ {D A : Type 0} (decoration : Decoration D A) where
  abbrev pub settled_by_image : List ℕ → Option (List ℕ) → Renderer D A (List A) → Renderer D A (List A)
  settled_by_image source None r = r
  settled_by_image source (Some title) r = without_annotation (annotated decoration (start.image source title) r)

  -- the renderer with the settings that a call leaves, and else as it was
  abbrev pub settled : Call (List A) → Renderer D A (List A) → Renderer D A (List A)
  settled (push_ws mode) r = record r { modes = r.modes ++ mode ∷ [] }
  settled pop_ws r = record r { modes = without_last r.modes }
  settled push_preformat r = record r { preformatted = suc r.preformatted }
  settled pop_preformat r = record r { preformatted = r.preformatted - 1 }
  settled (begin opened) r = annotated decoration opened r
  settled (finish closed) r = without_annotation (asked_to_close decoration closed r)
  settled start_strikeout r = struck_from (annotated decoration start.strikeout r)
  settled end_strikeout r = without_annotation (asked_to_close decoration end.strikeout (struck_until r))
  settled (add_image source title) r = settled_by_image source (shown_title r.options.img_mode source title) r
  settled (push_colour g colour) r = coloured decoration g colour r
  settled (pop_colour g) r = uncoloured decoration g r
  settled other r = r
